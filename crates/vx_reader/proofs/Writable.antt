-- An edit that is read can be written.
use Rattle.std.proofs.Common.{◌≡◌, ◌≤◌, ℕ, false, List, [], ◌∷◌, Some, None, Ok, subst}
use Rattle.vx_syntax.specs.declared.token.Token.{Token}
use Rattle.vx_syntax.specs.declared.token.Token.TheVariants as k
use Rattle.vx_syntax.specs.Words.{IsMeant, AreMeant}
use Rattle.vx_program.specs.declared.edit.Change.{Change}
use Rattle.vx_program.specs.declared.edit.Edit.{Edit}
use Rattle.vx_program.specs.Apply.{IsWritable}
use Rattle.vx_program.specs.Changes.{IsEdit}
use Rattle.vx_reader.specs.declared.command.TheConstants.{MOST_RUN, MOST_MEAN}
use Rattle.vx_reader.specs.declared.command.Command.{Command}
use Rattle.vx_reader.specs.declared.command.Command.TheVariants as c
use Rattle.vx_reader.specs.declared.state.State.{State}
use Rattle.vx_reader.specs.declared.state.State.TheVariants as st
use Rattle.vx_reader.specs.Tokens.{tokens}
use Rattle.vx_reader.specs.Commands.{IsCommand, edit, run, mean}
use Rattle.vx_reader.specs.CommandMachine.{command_step}
use Rattle.vx_reader.specs.CommandRemains.{CommandRemains, CommandMoves, wants_command}
use Rattle.vx_reader.specs.Phrases.{Laws}
use Rattle.vx_reader.specs.Reads.{is_large_token, AreSmall, Reads, Says, IsUsable}
use Rattle.vx_reader.proofs.Steps.{complete}
use Rattle.vx_reader.proofs.BadTokens.{no_command}
use Rattle.vx_reader.proofs.Spelled.{IsSpelled, AreSpelled, tokens_spelled}

changes_of : {ts : List Token} {e : Edit} → IsCommand ts (c.Edit e) → IsEdit ts e.changes
changes_of (edit is) = is

module _ (laws : Laws) where
  -- a token with which a command goes on
  one_meant : (s : State) (t : Token) (ts : List Token) (v : Command) → IsSpelled t → is_large_token t ≡ false → CommandMoves (command_step s t) ts v → IsMeant t
  one_meant s (k.Word x) ts v h small moves = h
  one_meant s (k.Keyword x) ts v h small moves = tt
  one_meant s (k.Number n) ts v h small moves = small
  one_meant s (k.Text bytes) ts v h small moves = h
  one_meant s (k.Operator x) ts v h small moves = tt
  one_meant s (k.Mark x) ts v h small moves = tt
  one_meant s k.Bad ts v h small moves = absurd (subst (λ o. CommandMoves o ts v) (no_command s) moves)

  all_meant : (ts : List Token) (s : State) (v : Command) → AreSpelled ts → AreSmall ts → CommandRemains s ts v → AreMeant ts
  all_meant [] s v h small remains = tt
  all_meant (t ∷ ts) s v h small remains =
      let moves = complete laws s t ts v remains in (
        one_meant s t ts v h.0 small.0 moves,
        (elim (command_step s t) as (λ o. CommandMoves o ts v → AreMeant ts) [
          | None ↦ λ none. absurd none
          | Some next ↦ λ more. all_meant ts next v h.1 small.1 more
        ]) moves,
      )

  pub edit_writable : ((changes : List Change) (ts : List Token) → IsEdit ts changes → AreMeant ts → IsWritable changes) → (bytes : List ℕ) (e : Edit) →
      Reads bytes (Ok (c.Edit e)) → IsWritable e.changes
  edit_writable written bytes e read =
      written e.changes (tokens bytes) (changes_of read.command)
      (all_meant (tokens bytes) st.Start (c.Edit e) (tokens_spelled bytes) read.small (wants_command read.command))

run_within : {ts : List Token} {n : ℕ} → IsCommand ts (c.Run n) → n ≤ MOST_RUN
run_within (run n within) = within

mean_within : {ts : List Token} {n : ℕ} → IsCommand ts (c.Mean n) → n ≤ MOST_MEAN
mean_within (mean n within) = within

-- what is read of a block
pub usable : ((bytes : List ℕ) (e : Edit) → Reads bytes (Ok (c.Edit e)) → IsWritable e.changes) → (bytes : List ℕ) (v : Command) → Says bytes (Ok v) → IsUsable v
usable law bytes (c.Edit e) read = law bytes e read
usable law bytes c.Blank read = tt
usable law bytes (c.Run n) read = run_within read.command
usable law bytes (c.Mean n) read = mean_within read.command
usable law bytes c.Image read = tt
usable law bytes c.Why read = tt
usable law bytes c.List read = tt
usable law bytes c.Journal read = tt
