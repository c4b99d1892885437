-- How large the parts of a program are, beside the whole.
use Rattle.std.proofs.Common.{◌≡◌, ◌∙◌, ℕ, ◌+◌, ◌≤◌, List, [], ◌∷◌, Some, map, sym, ap, inl, inr, arith}
use Rattle.std.specs.List.{find}
use Rattle.vx_lists.specs.Members.{IsIn}
use Rattle.vx_lists.proofs.Finding.{found_is}
use Rattle.vx_names.specs.declared.key.MethodKey.{MethodKey}
use Rattle.vx_syntax.specs.declared.decl.Decl.{Decl}
use Rattle.vx_syntax.specs.declared.decl.Decl.TheVariants as d
use Rattle.vx_syntax.specs.declared.expr.Expr.TheViews as x
use Rattle.vx_syntax.specs.declared.expr.Stmt as t
use Rattle.vx_syntax.specs.declared.expr.Body.{Body}
use Rattle.vx_syntax.specs.Expressions.{Bytes}
use Rattle.vx_syntax.specs.Counts.{expr_size, stmt_size, size, greatest, expr_size_step, stmt_size_step, body_size_step}
use Rattle.vx_syntax.proofs.Layers as l
use Rattle.vx_meaning.specs.States.{part_of, decl_size, largest}

pub closure_size : (formals : List Bytes) (body : Body) → expr_size (x.Closure formals body) ≡ 1 + size body
closure_size formals body =
    l.of_closure ℕ ℕ ℕ expr_size_step stmt_size_step body_size_step formals body.0
    ∙ ap (λ n. 1 + n) (sym (l.of_body ℕ ℕ ℕ expr_size_step stmt_size_step body_size_step body.0))

-- a statement has at least the size of its expression
pub statement_size : (statement : t.Stmt) → expr_size (part_of statement) ≤ stmt_size statement
statement_size (t.Let name part) =
    let e : stmt_size (t.Let name part) ≡ 1 + expr_size part = l.of_let ℕ ℕ ℕ expr_size_step stmt_size_step body_size_step name part in omega arith
statement_size (t.LetVar name part) =
    let e : stmt_size (t.LetVar name part) ≡ 1 + expr_size part = l.of_let_var ℕ ℕ ℕ expr_size_step stmt_size_step body_size_step name part in omega arith
statement_size (t.Set name part) =
    let e : stmt_size (t.Set name part) ≡ expr_size part = l.of_set ℕ ℕ ℕ expr_size_step stmt_size_step body_size_step name part in omega arith
statement_size (t.Do part) =
    let e : stmt_size (t.Do part) ≡ expr_size part = l.of_do ℕ ℕ ℕ expr_size_step stmt_size_step body_size_step part in omega arith
statement_size (t.Back part) =
    let e : stmt_size (t.Back part) ≡ expr_size part = l.of_back ℕ ℕ ℕ expr_size_step stmt_size_step body_size_step part in omega arith

-- the body of a method of the program has at most the size of the largest
one_of_greatest : {X : Type 0} (f : X → ℕ) (xs : List X) (one : X) → IsIn one xs → f one ≤ greatest (map f xs)
one_of_greatest f [] one i = absurd i
one_of_greatest f (y ∷ ys) one (inl same) = let s : f y ≡ f one = ap f same in omega arith
one_of_greatest f (y ∷ ys) one (inr i) = let r : f one ≤ greatest (map f ys) = one_of_greatest f ys one i in omega arith

pub found_size : (p : Decl → _) (program : List Decl) (key : MethodKey) (formals : _) (body : Body) → find p program ≡ Some (d.Method key formals body) →
    size body ≤ largest program
found_size p program key formals body e =
    one_of_greatest decl_size program (d.Method key formals body) ((found_is p program (d.Method key formals body) e).0)
