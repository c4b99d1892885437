-- Which methods are inlined: small ones without closures, variables and resends.
use Rattle.std.specs.Prelude.{ℕ, Bool, true, false, ◌&&◌, List, [], ◌∷◌, Option, Some, None, if◌then◌else◌, nat_le}
use Rattle.vx_syntax.specs.declared.expr.Expr as x
use Rattle.vx_syntax.specs.declared.expr.Stmt as t
use Rattle.vx_syntax.specs.Counts.{size}
use Rattle.vx_model.specs.Kinds.{Source}

-- the greatest size of a body that is inlined
abbrev pub inlined_size : ℕ
inlined_size = 12

-- whether there is no closure and no resend in an expression, and no closure, variable or resend in a statement
abbrev mutual
  pub is_flat : x.Expr → Bool
  is_flat (x.Int n) = true
  is_flat (x.Text bytes) = true
  is_flat (x.Name name) = true
  is_flat (x.Send' selector shape row) = are_flat row
  is_flat (x.Closure' formals shape row) = false
  is_flat (x.New' class shape row) = are_fields_flat row
  is_flat x.Resend = false

  pub are_flat : {n : _} → x.Row_of-Expr n → Bool
  are_flat x.end_of-Expr = true
  are_flat (x.more_of-Expr part rest) = is_flat part && are_flat rest

  pub are_fields_flat : {n : _} → x.Row_of-Expr-New-1-2 n → Bool
  are_fields_flat x.end_of-Expr-New-1-2 = true
  are_fields_flat (x.more_of-Expr-New-1-2 name part rest) = is_flat part && are_fields_flat rest

abbrev pub is_flat_statement : t.Stmt → Bool
is_flat_statement (t.Let name part) = is_flat part
is_flat_statement (t.LetVar name part) = false
is_flat_statement (t.Set name part) = is_flat part
is_flat_statement (t.Do part) = is_flat part
is_flat_statement (t.Back part) = is_flat part

abbrev pub is_flat_body : List t.Stmt → Bool
is_flat_body [] = true
is_flat_body (statement ∷ rest) = is_flat_statement statement && is_flat_body rest

-- the source of a method, where it is inlined
abbrev pub inline : Option Source → Option Source
inline None = None
inline (Some own) = if nat_le (size own.body) inlined_size && is_flat_body own.body.0 then Some own else None
