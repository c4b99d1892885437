-- Trees of small programs, written out.
use Rattle.std.proofs.Common.{ℕ, List, [], ◌∷◌, ◌++◌, Some, map, length}
use Rattle.std.specs.Prelude.{pos, codes}
use Rattle.std.specs.Fmt.{signed_decimal}
use mathlib.Core.Former.{this, list_count}
use Rattle.vx_syntax.specs.declared.expr.Expr.{Expr}
use Rattle.vx_syntax.specs.declared.expr.Expr as x
use Rattle.vx_syntax.specs.declared.expr.Stmt.{Stmt}
use Rattle.vx_syntax.specs.declared.expr.Stmt.TheVariants as t
use Rattle.vx_syntax.specs.declared.decl.Decl.{Decl}
use Rattle.vx_syntax.specs.Expressions.{Bytes}
use Rattle.vx_syntax.specs.Declarations.{method_of}
use Rattle.vx_program.specs.Prelude.{prelude_objects, choices}

-- a list as the rows of trees hold it
abbrev pub units : {A : Type 0} → List A → List (Unit {0})
units [] = []
units (a ∷ rest) = tt ∷ units rest

abbrev pub row : (parts : List Expr) → x.Row_of-Expr (list_count (this {0}) (units parts) 0)
row [] = x.end_of-Expr
row (part ∷ rest) = x.more_of-Expr part (row rest)

abbrev pub row_of : (body : List Stmt) → x.Row_of-Stmt (list_count (this {0}) (units body) 0)
row_of [] = x.end_of-Stmt
row_of (statement ∷ rest) = x.more_of-Stmt statement (row_of rest)

abbrev pub field_row : (parts : List (Bytes × Expr)) → x.Row_of-Expr-New-1-2 (list_count (this {0}) (units parts) 0)
field_row [] = x.end_of-Expr-New-1-2
field_row (part ∷ rest) = x.more_of-Expr-New-1-2 part.0 part.1 (field_row rest)

abbrev pub n : ℕ → Expr
n k = x.Int (pos k)

abbrev pub send : Bytes → List Expr → Expr
send name arguments = x.Send' (record { name = name; arity = length arguments }) (units arguments) (row arguments)

abbrev pub block : List Bytes → List Stmt → Expr
block formals body = x.Closure' formals (units body) (row_of body)

abbrev pub new : Bytes → List (Bytes × Expr) → Expr
new class parts = x.New' class (units parts) (field_row parts)

abbrev pub method : Bytes → List Bytes → List Bytes → List Stmt → Decl
method name formals specialisers body = method_of name (map Some formals) specialisers body

abbrev pub main : List Stmt → Decl
main body = method (codes "main") [] [] body

abbrev pub name : Bytes → Expr
name = x.Name

abbrev pub one : Bytes → Expr → Expr
one message a = send message (a ∷ [])

abbrev pub two : Bytes → Expr → Expr → Expr
two message a b = send message (a ∷ b ∷ [])

abbrev pub plus : Expr → Expr → Expr
plus = two (codes "+")

abbrev pub eval : Expr → Expr
eval = one (codes "eval")

abbrev pub print : Expr → Stmt
print part = t.Do (one (codes "print") part)

-- a line of digits
abbrev pub line : ℕ → Bytes
line k = signed_decimal (pos k)

-- `if` of two closures, as the prelude has it
abbrev pub with_choices : List Decl → List Stmt → List Decl
with_choices before body = prelude_objects ++ before ++ choices ++ main body ∷ []

abbrev pub if_then : Expr → List Stmt → Expr
if_then c a = two (codes "if") c (block [] a)

abbrev pub if_else : Expr → List Stmt → List Stmt → Expr
if_else c a b = send (codes "if") (c ∷ block [] a ∷ block [] b ∷ [])
