-- What bytes would mean as an edit, if tokens might lie at any depth, can be written.
use Rattle.std.proofs.Common.{◌≡◌, ◌↔◌, ℕ, false, List, [], ◌∷◌, Some, None, Ok, subst}
use Rattle.vx_syntax.specs.declared.token.Token.{Token}
use Rattle.vx_syntax.specs.declared.token.Token.TheVariants as k
use Rattle.vx_syntax.specs.Depth.{first_levels, IsShallow}
use Rattle.vx_syntax.specs.Words.{IsMeant, AreMeant}
use Rattle.vx_program.specs.declared.edit.Change.{Change}
use Rattle.vx_program.specs.declared.edit.Edit.{Edit}
use Rattle.vx_program.specs.Apply.{IsWritable}
use Rattle.vx_program.specs.Changes.{IsEdit}
use Rattle.vx_reader.specs.declared.command.Command.{Command}
use Rattle.vx_reader.specs.declared.command.Command.TheVariants as c
use Rattle.vx_reader.specs.declared.state.State.{State}
use Rattle.vx_reader.specs.declared.state.State.TheVariants as st
use Rattle.vx_reader.specs.Tokens.{tokens}
use Rattle.vx_reader.specs.Commands.{IsCommand, edit}
use Rattle.vx_reader.specs.CommandMachine.{command_step}
use Rattle.vx_reader.specs.CommandRemains.{CommandRemains, CommandMoves, wants_command}
use Rattle.vx_reader.specs.Phrases.{Laws}
use Rattle.vx_reader.specs.Reads.{is_large_token, AreSmall, Reads}
use Rattle.vx_reader.specs.AnyDepth.{WouldMean}
use Rattle.vx_reader.proofs.Steps.{complete}
use Rattle.vx_reader.proofs.BadTokens.{no_command}
use Rattle.vx_reader.proofs.Spelled.{IsSpelled, AreSpelled, tokens_spelled}

-- the limit on depth is all that is not asked
pub read_is_meant : (bytes : List ℕ) (v : Command) → (Reads bytes (Ok v) ↔ (WouldMean bytes v × IsShallow first_levels (tokens bytes)))
read_is_meant bytes v = (
  λ read. (record { command = read.command; small = read.small }, read.shallow),
  λ means. record { command = means.0.command; shallow = means.1; small = means.0.small },
)

changes_of : {ts : List Token} {e : Edit} → IsCommand ts (c.Edit e) → IsEdit ts e.changes
changes_of (edit is) = is

module _ (laws : Laws) where
  -- a token that is spelled and not too large, and with which a command goes on
  one_meant : (s : State) (token : Token) (ts : List Token) (v : Command) → IsSpelled token × (is_large_token token ≡ false) →
      CommandMoves (command_step s token) ts v → IsMeant token
  one_meant s (k.Word x) ts v h moves = h.0
  one_meant s (k.Keyword x) ts v h moves = tt
  one_meant s (k.Number n) ts v h moves = h.1
  one_meant s (k.Text bytes) ts v h moves = h.0
  one_meant s (k.Operator x) ts v h moves = tt
  one_meant s (k.Mark x) ts v h moves = tt
  one_meant s k.Bad ts v h moves = absurd (subst (λ o. CommandMoves o ts v) (no_command s) moves)

  all_meant : (s : State) (ts : List Token) (v : Command) → AreSpelled ts → AreSmall ts → CommandRemains s ts v → AreMeant ts
  all_meant s [] v spelled small remains = tt
  all_meant s (token ∷ ts) v spelled small remains =
      let moves = complete laws s token ts v remains in (
        one_meant s token ts v (spelled.0, small.0) moves,
        (elim (command_step s token) as (λ o. CommandMoves o ts v → AreMeant ts) [
          | None ↦ λ none. absurd none
          | Some next ↦ λ more. all_meant next ts v spelled.1 small.1 more
        ]) moves,
      )

  pub meant_is_writable : ((changes : List Change) (ts : List Token) → IsEdit ts changes → AreMeant ts → IsWritable changes) → (bytes : List ℕ) (e : Edit) →
      WouldMean bytes (c.Edit e) → IsWritable e.changes
  meant_is_writable written bytes e means =
      written e.changes (tokens bytes) (changes_of means.command)
      (all_meant st.Start (tokens bytes) (c.Edit e) (tokens_spelled bytes) means.small (wants_command means.command))
