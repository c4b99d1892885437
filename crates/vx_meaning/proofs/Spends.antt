-- What calls, evaluations of closures and turns of loops take of the allowance.
use Rattle.std.proofs.Common.{◌≡◌, ℕ, zero, suc, ◌-◌, ◌+◌, ◌*◌, ◌<◌, ◌≤◌, List, [], ap, sym, refl, ◌∙◌, arith}
use Rattle.std.proofs.Math.Nat.{suc-mul}
use Rattle.vx_syntax.specs.declared.decl.Decl.{Decl}
use Rattle.vx_model.specs.declared.value.Held.{Held}
use Rattle.vx_model.specs.declared.value.Value.{Value}
use Rattle.vx_model.specs.declared.look.Look.{Look}
use Rattle.vx_model.specs.Lookup.{lookup}
use Rattle.vx_model.specs.Meaning.{State, Stops, Out, Message, after, allowance, answer, begun, call, evaluated, evaluation, found, main_message}
use Rattle.vx_model.specs.Meaning.{meaning, report, turns}

-- a call with nothing left is out, and another does what its message says with one less
pub call_none : (program : List Decl) (message : Message) (state : State) → call (allowance program 0) message state ≡ Stops Out state
unfolding allowance
call_none program message state = refl

call_some : (program : List Decl) (g : ℕ) (message : Message) (state : State) → 0 < g →
    call (allowance program g) message state ≡ answer program (allowance program (g - 1)) message state
unfolding allowance
call_some program zero message state some = absurd (omega (arith, some))
call_some program (suc g) message state some =
    let less : suc g - 1 ≡ g = omega arith in ap (λ n. answer program (allowance program n) message state) (sym less)

-- by what its message finds, where its arguments are these
module _ (program : List Decl) (g : ℕ) (message : Message) (state : State) (given : List Value) where
  pub call_finds : 0 < g → given ≡ message.arguments → (looked one : Look) →
      looked ≡ lookup program state.heap message.selector given message.below → looked ≡ one →
      call (allowance program g) message state ≡ found program (allowance program (g - 1)) message one state
  call_finds some same looked one is means =
      let lower = allowance program (g - 1) in
      call_some program g message state some
      ∙ ap (λ values. found program lower message (lookup program state.heap message.selector values message.below) state) (sym same)
      ∙ ap (λ look. found program lower message look state) (sym is ∙ means)

-- so it is with the evaluation of a closure
pub evaluation_none : (program : List Decl) (held : Held) (values : List Value) (state : State) →
    evaluation program (allowance program 0) held values state ≡ Stops Out state
unfolding allowance
evaluation_none program held values state = refl

pub evaluation_some : (program : List Decl) (g : ℕ) (held : Held) (values : List Value) (state : State) → 0 < g →
    evaluation program (allowance program g) held values state ≡ evaluated program (allowance program (g - 1)) held values state
unfolding allowance
evaluation_some program zero held values state some = absurd (omega (arith, some))
evaluation_some program (suc g) held values state some =
    let less : suc g - 1 ≡ g = omega arith in ap (λ n. evaluated program (allowance program n) held values state) (sym less)

-- and with a turn of a loop
pub turns_none : (program : List Decl) (held : Held) (state : State) → turns program (allowance program 0) held state ≡ Stops Out state
unfolding allowance
turns_none program held state = refl

pub turns_some : (program : List Decl) (g : ℕ) (held : Held) (state : State) → 0 < g →
    turns program (allowance program g) held state
    ≡ after (evaluated program (allowance program (g - 1)) held [] state) (λ value. turns program (allowance program (g - 1)) held)
unfolding allowance
turns_some program zero held state some = absurd (omega (arith, some))
turns_some program (suc g) held state some =
    let less : suc g - 1 ≡ g = omega arith in
    ap (λ n. after (evaluated program (allowance program n) held [] state) (λ value. turns program (allowance program n) held)) (sym less)

pub meaning_is : (program : List Decl) (n : ℕ) → meaning program n ≡ report (call (allowance program n) main_message (begun program))
unfolding meaning
meaning_is program n = refl

-- an allowance of one less leaves room for a body
pub room : (g B : ℕ) → 0 < g → (g - 1) * B + B ≡ g * B
room zero B some = absurd (omega (arith, some))
room (suc g) B some = let less : suc g - 1 ≡ g = omega arith in ap (λ n. n * B + B) less ∙ sym (suc-mul g B)

-- so does any that is lower
pub room_below : (low g B : ℕ) → low < g → low * B + B ≤ g * B
room_below low zero B below = absurd (omega (arith, below))
room_below zero (suc g) B below = let whole = suc-mul g B in omega arith
room_below (suc low) (suc g) B below =
    let rest = room_below low g B (omega (arith, below)) in
    let one = suc-mul low B in
    let all = suc-mul g B in
    omega arith
