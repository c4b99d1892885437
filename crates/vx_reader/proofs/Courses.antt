-- Runs of the reader of commands: what they say of the grammar, and that each state can be completed.
use Rattle.std.proofs.Common.{◌≡◌, ℕ, ◌+◌, ◌<◌, ◌≤◌, ◌^◌, Bool, true, false, if◌then◌else◌, List, [], ◌∷◌, ◌++◌, length, Option, Some, None, refl, sym, subst, arith, append-nil}
use Rattle.std.specs.List.{AllByRecursion}
use Rattle.std.specs.Prelude.{nat_le}
use Rattle.std.specs.Str.{bytes_eq}
use Rattle.vx_names.specs.declared.key.DeclKey.{DeclKey}
use Rattle.vx_syntax.specs.declared.token.Token.{Token}
use Rattle.vx_syntax.specs.declared.token.Token.TheVariants as k
use Rattle.vx_syntax.specs.declared.decl.Decl.{Decl}
use Rattle.vx_syntax.specs.Words.{IsToken}
use Rattle.vx_syntax.specs.Expressions.{Bytes, is_among}
use Rattle.vx_syntax.specs.Declarations.{add_word, put_word, drop_word}
use Rattle.vx_syntax.specs.Depth.{changing_words}
use Rattle.vx_program.specs.declared.edit.Change.{Change}
use Rattle.vx_program.specs.declared.edit.Change.TheVariants.{Drop}
use Rattle.vx_program.specs.Changes.{declared}
use Rattle.vx_phrases.specs.declared.decl_state.DeclState.{DeclState}
use Rattle.vx_phrases.specs.declared.key_state.KeyState.{KeyState}
use Rattle.vx_phrases.specs.DeclMachine.{decl_begun, decl_step, decl_finished, names_in}
use Rattle.vx_phrases.specs.KeyMachine.{key_begun, key_step, key_finished}
use Rattle.vx_phrases.specs.DeclRemains.{DeclRemains}
use Rattle.vx_phrases.specs.KeyRemains.{KeyRemains}
use Rattle.vx_reader.specs.declared.command.TheConstants.{MOST_RUN, MOST_MEAN}
use Rattle.vx_reader.specs.declared.command.Command.{Command}
use Rattle.vx_reader.specs.declared.command.Command.TheVariants as c
use Rattle.vx_reader.specs.declared.state.State.{State}
use Rattle.vx_reader.specs.declared.state.State.TheVariants as st
use Rattle.vx_reader.specs.Commands.{run_word, mean_word, image_word, why_word, list_word, journal_word, IsCommand, blank, GoesOn}
use Rattle.vx_reader.specs.CommandMachine.{changing, asking, started, run_for, mean_for, opens, in_decl, in_key, after_decl, after_key, declaring, dropping, command_step, run_from}
use Rattle.vx_reader.specs.CommandRemains as r
use Rattle.vx_reader.specs.CommandRemains.{CommandRemains, CommandMoves}
use Rattle.vx_reader.specs.Reads.{IsStuck}
use Rattle.vx_reader.specs.Phrases.{Laws}
use Rattle.vx_reader.proofs.Steps.{complete, sound}

-- the run from where a step leads
abbrev on : Option State → List Token → Option State
on next ts = elim next [ None ↦ None | Some state ↦ run_from state ts ]

-- how many names are in scope
abbrev command_names : State → ℕ
command_names (st.Declaring put before state) = names_in state
command_names _ = 0

abbrev AtMost : ℕ → Option State → Type 0
AtMost n None = Unit {0}
AtMost n (Some state) = command_names state ≤ n

one_of : (n : ℕ) (b : Bool) (x y : Option State) → AtMost n x → AtMost n y → AtMost n (if b then x else y)
one_of n true x y h g = h
one_of n false x y h g = g

none_begun : names_in decl_begun ≡ 0
unfolding names_in
none_begun = refl

module _ (laws : Laws) where
  pub complete_run : (ts more : List Token) (s : State) (v : Command) → CommandRemains s (ts ++ more) v → CommandMoves (run_from s ts) more v
  complete_run [] more s v h = h
  complete_run (t ∷ ts) more s v h =
      (elim (command_step s t) as (λ next. CommandMoves next (ts ++ more) v → CommandMoves (on next ts) more v) [
        | None ↦ λ h. absurd h
        | Some next ↦ λ h. complete_run ts more next v h
      ]) (complete laws s t (ts ++ more) v h)

  pub sound_run : (ts more : List Token) (s : State) (v : Command) → CommandMoves (run_from s ts) more v → CommandRemains s (ts ++ more) v
  sound_run [] more s v h = h
  sound_run (t ∷ ts) more s v h =
      sound laws s t (ts ++ more) v ((elim (command_step s t) as (λ next. CommandMoves (on next ts) more v → CommandMoves next (ts ++ more) v) [
        | None ↦ λ h. absurd h
        | Some next ↦ λ h. sound_run ts more next v h
      ]) h)

  from_start : {ts : List Token} {v : Command} → CommandRemains st.Start ts v → IsCommand ts v
  from_start (r.wants_command is) = is

  -- what a run from the start to a state means, with what completes the state
  pub run_means : (ts more : List Token) (s : State) (v : Command) → run_from st.Start ts ≡ Some s → CommandRemains s more v → IsCommand (ts ++ more) v
  run_means ts more s v is h = from_start (sound_run ts more st.Start v (subst (λ o. CommandMoves o more v) (sym is) h))

  -- where a command begins with the tokens, a run leads to a state
  pub led : (ts more : List Token) (v : Command) → IsCommand (ts ++ more) v → (s : State) × (run_from st.Start ts ≡ Some s) × CommandRemains s more v
  led ts more v is =
      (elim (run_from st.Start ts) as (λ o. CommandMoves o more v → (s : State) × (o ≡ Some s) × CommandRemains s more v) [
        | None ↦ λ h. absurd h
        | Some s ↦ λ h. (s, refl, h)
      ]) (complete_run ts more st.Start v (r.wants_command is))

  pub stuck : (ts : List Token) → run_from st.Start ts ≡ None → IsStuck ts
  stuck ts none more v is = subst (λ o. CommandMoves o more v) none (complete_run ts more st.Start v (r.wants_command is))

  changing_names : (before : List Change) (x : Bytes) (n : ℕ) → AtMost n (changing before x)
  changing_names before x n =
      one_of n (bytes_eq x add_word) _ _ (omega (arith, none_begun)) (one_of n (bytes_eq x put_word) _ _ (omega (arith, none_begun))
      (one_of n (bytes_eq x drop_word) (Some (st.Dropping before key_begun)) None (omega arith) tt))

  asking_names : (x : Bytes) (n : ℕ) → AtMost n (asking x)
  asking_names x n =
      one_of n (bytes_eq x run_word) (Some st.Run) _ (omega arith) (one_of n (bytes_eq x mean_word) (Some st.Mean) _ (omega arith)
      (one_of n (bytes_eq x image_word) (Some (st.Over c.Image)) _ (omega arith) (one_of n (bytes_eq x why_word) (Some (st.Over c.Why)) _ (omega arith)
      (one_of n (bytes_eq x list_word) (Some (st.Over c.List)) _ (omega arith)
      (one_of n (bytes_eq x journal_word) (Some (st.Over c.Journal)) None (omega arith) tt)))))

  started_names : (t : Token) (n : ℕ) → AtMost n (started t)
  started_names (k.Word x) n = one_of n (is_among changing_words x) _ _ (changing_names [] x n) (asking_names x n)
  started_names _ n = tt

  run_names : (t : Token) (n : ℕ) → AtMost n (run_for t)
  run_names (k.Number i) n = one_of n (nat_le i MOST_RUN) (Some (st.Over (c.Run i))) None (omega arith) tt
  run_names _ n = tt

  mean_names : (t : Token) (n : ℕ) → AtMost n (mean_for t)
  mean_names (k.Number i) n = one_of n (nat_le i MOST_MEAN) (Some (st.Over (c.Mean i))) None (omega arith) tt
  mean_names _ n = tt

  decl_names : (put : Bool) (before : List Change) (s : DeclState) (t : Token) (o : Option DeclState) → decl_step s t ≡ o → AtMost (names_in s + 1) (in_decl put before o)
  decl_names put before s t None is = tt
  decl_names put before s t (Some next) is = laws.decl_grows s next t is

  key_names : (before : List Change) (n : ℕ) (o : Option KeyState) → AtMost n (in_key before o)
  key_names before n None = tt
  key_names before n (Some next) = omega arith

  more_names : (n i : ℕ) (o : Option State) → n ≤ i → AtMost n o → AtMost i o
  more_names n i None le h = tt
  more_names n i (Some s) le h = omega (arith, le, h)

  first_names : (put : Bool) (before : List Change) (t : Token) (n : ℕ) → AtMost (n + 1) (in_decl put before (decl_step decl_begun t))
  first_names put before t n =
      more_names (names_in decl_begun + 1) (n + 1) (in_decl put before (decl_step decl_begun t)) (omega (arith, none_begun)) (decl_names put before decl_begun t (decl_step decl_begun t) refl)

  after_decl_names : (put : Bool) (before : List Change) (t : Token) (n : ℕ) → AtMost (n + 1) (after_decl put before t)
  after_decl_names put before (k.Word x) n = changing_names before x (n + 1)
  after_decl_names put before t n = first_names put before t n

  after_key_names : (before : List Change) (t : Token) (n : ℕ) → AtMost (n + 1) (after_key before t)
  after_key_names before (k.Word x) n = changing_names before x (n + 1)
  after_key_names before t n = key_names before (n + 1) (key_step key_begun t)

  declaring_names : (opening : Bool) (put : Bool) (before : List Change) (s : DeclState) (o : Option Decl) (t : Token) → AtMost (names_in s + 1) (declaring opening put before s o t)
  declaring_names true put before s (Some decl) t = after_decl_names put (before ++ declared put decl ∷ []) t (names_in s)
  declaring_names true put before s None t = decl_names put before s t (decl_step s t) refl
  declaring_names false put before s o t = decl_names put before s t (decl_step s t) refl

  dropping_names : (opening : Bool) (before : List Change) (s : KeyState) (o : Option DeclKey) (t : Token) (n : ℕ) → AtMost (n + 1) (dropping opening before s o t)
  dropping_names true before s (Some key) t n = after_key_names (before ++ Drop key ∷ []) t n
  dropping_names true before s None t n = key_names before (n + 1) (key_step s t)
  dropping_names false before s o t n = key_names before (n + 1) (key_step s t)

  grows : (s : State) (t : Token) → AtMost (command_names s + 1) (command_step s t)
  unfolding command_step
  grows st.Start t = started_names t 1
  grows st.Run t = run_names t 1
  grows st.Mean t = mean_names t 1
  grows (st.Over over) t = tt
  grows (st.Declaring put before s) t = declaring_names (opens t) put before s (decl_finished s) t
  grows (st.Dropping before s) t = dropping_names (opens t) before s (key_finished s) t 0

  run_grows : (ts : List Token) (s : State) → AtMost (command_names s + length ts) (run_from s ts)
  run_grows [] s = omega arith
  run_grows (t ∷ ts) s =
      (elim (command_step s t) as (λ next. AtMost (command_names s + 1) next → AtMost (command_names s + length (t ∷ ts)) (on next ts)) [
        | None ↦ λ h. tt
        | Some next ↦ λ h. more_names (command_names next + length ts) (command_names s + length (t ∷ ts)) (run_from next ts) (omega (arith, h)) (run_grows ts next)
      ]) (grows s t)

  finish : (s : State) → command_names s < 2 ^ 64 → (more : List Token) × (v : Command) × AllByRecursion IsToken more × CommandRemains s more v
  finish st.Start few = ([], c.Blank, tt, r.wants_command blank)
  finish st.Run few = (k.Number 0 ∷ [], _, (omega arith, tt), r.wants_run (omega arith))
  finish st.Mean few = (k.Number 0 ∷ [], _, (omega arith, tt), r.wants_mean (omega arith))
  finish (st.Over over) few = ([], over, tt, r.is_over)
  finish (st.Declaring put before s) few =
      let h = laws.decl_finish s few in
      (h.tokens, _, h.each, r.in_decl (subst (λ l. DeclRemains s l [] h.value) (append-nil h.tokens) (h.completes [])) (r.no_decls r.over))
  finish (st.Dropping before s) few =
      let h = laws.key_finish s in
      (h.tokens, _, h.each, r.in_key (subst (λ l. KeyRemains s l [] h.value) (append-nil h.tokens) (h.completes [])) (r.no_keys r.over))

  none_at_start : command_names st.Start ≡ 0
  none_at_start = refl

  pub goes : (ts : List Token) (s : State) → run_from st.Start ts ≡ Some s → length ts < 2 ^ 64 → GoesOn ts
  goes ts s is short =
      let few : command_names s ≤ command_names st.Start + length ts = subst (λ o. AtMost (command_names st.Start + length ts) o) is (run_grows ts st.Start) in
      let h = finish s (omega (arith, few, short, none_at_start)) in
      record { more = h.0; command = h.1; each = h.2; means = run_means ts h.0 s h.1 is h.3 }
