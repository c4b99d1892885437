-- Whether a number may stand somewhere does not depend on how great it is, above those of `run` and `mean`.
use Rattle.std.proofs.Common.{◌≡◌, ℕ, ◌+◌, ◌-◌, ◌≤◌, ◌^◌, Bool, true, false, if◌then◌else◌, List, Option, Some, None, refl, sym, ap, ◌∙◌, arith}
use Rattle.std.proofs.lemmas.Bool.{lt-leb, leb-true}
use Rattle.std.specs.Prelude.{is_none, nat_le}
use Rattle.vx_syntax.specs.declared.token.Token.{Token}
use Rattle.vx_syntax.specs.declared.token.Token.TheVariants as k
use Rattle.vx_program.specs.declared.edit.Change.{Change}
use Rattle.vx_phrases.specs.Laws.{TakesAnyNumber}
use Rattle.vx_phrases.specs.declared.decl_state.DeclState.{DeclState}
use Rattle.vx_phrases.specs.declared.key_state.KeyState.{KeyState}
use Rattle.vx_phrases.specs.DeclMachine.{decl_step}
use Rattle.vx_phrases.specs.KeyMachine.{key_step}
use Rattle.vx_reader.specs.declared.command.TheConstants.{MOST_RUN, MOST_MEAN}
use Rattle.vx_reader.specs.declared.state.State.{State}
use Rattle.vx_reader.specs.declared.state.State.TheVariants as st
use Rattle.vx_reader.specs.CommandMachine.{command_step, in_decl, in_key}
use Rattle.vx_reader.specs.Progress.{fitted}
use Rattle.vx_reader.specs.Reads.{is_large_token}
use Rattle.vx_reader.proofs.Options.{none_of, some_of}

none_decl : (put : Bool) (before : List Change) (o : Option DeclState) → is_none (in_decl put before o) ≡ is_none o
none_decl put before None = refl
none_decl put before (Some s) = refl

none_key : (before : List Change) (o : Option KeyState) → is_none (in_key before o) ≡ is_none o
none_key before None = refl
none_key before (Some s) = refl

too_great : (b : Bool) (s : State) → b ≡ false → is_none (if b then Some s else None) ≡ true
too_great true s e = absurd (cc e)
too_great false s e = refl

pub great_alike : TakesAnyNumber decl_step → TakesAnyNumber key_step → (s : State) (i n : ℕ) → 2 ^ 127 ≤ i + 1 → 2 ^ 127 ≤ n + 1 →
    is_none (command_step s (k.Number i)) ≡ is_none (command_step s (k.Number n))
unfolding command_step
great_alike decls keys st.Start i n p q = refl
great_alike decls keys st.Run i n p q =
    too_great (nat_le i MOST_RUN) _ (lt-leb i MOST_RUN (omega (arith, p))) ∙ sym (too_great (nat_le n MOST_RUN) _ (lt-leb n MOST_RUN (omega (arith, q))))
great_alike decls keys st.Mean i n p q =
    too_great (nat_le i MOST_MEAN) _ (lt-leb i MOST_MEAN (omega (arith, p))) ∙ sym (too_great (nat_le n MOST_MEAN) _ (lt-leb n MOST_MEAN (omega (arith, q))))
great_alike decls keys (st.Over over) i n p q = refl
great_alike decls keys (st.Declaring put before s) i n p q =
    none_decl put before (decl_step s (k.Number i)) ∙ decls s i n ∙ sym (none_decl put before (decl_step s (k.Number n)))
great_alike decls keys (st.Dropping before s) i n p q =
    none_key before (key_step s (k.Number i)) ∙ keys s i n ∙ sym (none_key before (key_step s (k.Number n)))

abbrev pub Alike : Type 0
Alike = (s : State) (i n : ℕ) → 2 ^ 127 ≤ i + 1 → 2 ^ 127 ≤ n + 1 → is_none (command_step s (k.Number i)) ≡ is_none (command_step s (k.Number n))

-- the token that is stepped with goes on exactly where the token does
same_step : Alike → (s : State) (t : Token) (b : Bool) → is_large_token t ≡ b → is_none (command_step s (if b then k.Number (2 ^ 127 - 1) else t)) ≡ is_none (command_step s t)
same_step alike s t false small = refl
same_step alike s (k.Number n) true large = alike s (2 ^ 127 - 1) n (omega arith) (omega (arith, leb-true (2 ^ 127) n large))
same_step alike s (k.Word x) true large = absurd (cc large)
same_step alike s (k.Keyword x) true large = absurd (cc large)
same_step alike s (k.Text x) true large = absurd (cc large)
same_step alike s (k.Operator x) true large = absurd (cc large)
same_step alike s (k.Mark x) true large = absurd (cc large)
same_step alike s k.Bad true large = absurd (cc large)

-- where the fitted token is refused, the token itself is
pub refused : Alike → (s : State) (t : Token) → None ≡ command_step s (fitted t) → command_step s t ≡ None
refused alike s t is = none_of (command_step s t) (sym (same_step alike s t (is_large_token t) refl) ∙ ap is_none (sym is))

-- where some command goes on with the fitted token, one goes on with the token itself
pub taken : Alike → (s next : State) (t : Token) → Some next ≡ command_step s (fitted t) → (other : State) × (command_step s t ≡ Some other)
taken alike s next t is = some_of (command_step s t) (sym (same_step alike s t (is_large_token t) refl) ∙ ap is_none (sym is))
