-- Statements, one after another.
use Rattle.std.proofs.Common.{◌≡◌, ◌∙◌, ℕ, ◌+◌, ◌<◌, ◌≤◌, List, ◌∷◌, length, get_or, drop, refl, sym, ap}
use Rattle.std.proofs.lemmas.List.{drop_more}
use Rattle.std.proofs.Math.ListN.{drop_of_length-le}
use Rattle.vx_syntax.specs.declared.decl.Decl.{Decl}
use Rattle.vx_syntax.specs.declared.expr.Stmt as t
use Rattle.vx_model.specs.declared.value.Value.{Value}
use Rattle.vx_model.specs.Meaning.{State, Gives, Allowance, Frame, after, expression, statements}
use Rattle.vx_meaning.specs.States.{part_of, settled}

-- a statement is its expression, and what it does with the value
module _ (program : List Decl) (lower : Allowance) (frame : Frame) (last : Value) (state : State) where
  statement_is : (one : t.Stmt) (rest : List t.Stmt) →
      statements program (one ∷ rest) lower frame last state ≡ after (expression program (part_of one) lower frame state) (settled program one rest lower frame)
  statement_is (t.Let name part) rest = refl
  statement_is (t.LetVar name part) rest = refl
  statement_is (t.Set name part) rest = refl
  statement_is (t.Do part) rest = refl
  statement_is (t.Back part) rest = refl

-- the statement that is next, and the end
module _ (program : List Decl) (body : List t.Stmt) (i : ℕ) (lower : Allowance) (frame : Frame) (last : Value) (state : State) where
  pub statements_more : (one : t.Stmt) → i < length body → one ≡ get_or body i one →
      statements program (drop i body) lower frame last state
      ≡ after (expression program (part_of one) lower frame state) (settled program one (drop (i + 1) body) lower frame)
  statements_more one within is =
      ap (λ l. statements program l lower frame last state) (drop_more body i one within)
      ∙ ap (λ s. statements program (s ∷ drop (i + 1) body) lower frame last state) (sym is)
      ∙ statement_is program lower frame last state one (drop (i + 1) body)

  pub statements_end : length body ≤ i → statements program (drop i body) lower frame last state ≡ Gives last state
  statements_end over = ap (λ l. statements program l lower frame last state) (drop_of_length-le body over)
