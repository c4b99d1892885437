-- The sends of parts, as lists.
use Rattle.std.specs.Prelude.{List, [], ◌∷◌, ◌++◌}
use Rattle.vx_syntax.specs.declared.expr.Expr.{Expr}
use Rattle.vx_syntax.specs.Expressions.{Bytes}
use Rattle.vx_compilation.specs.Cloning.{Sending, sends}

abbrev pub parts_sends : List Expr → List Sending
parts_sends [] = []
parts_sends (part ∷ rest) = sends part ++ parts_sends rest

abbrev pub fields_sends : List (Bytes × Expr) → List Sending
fields_sends [] = []
fields_sends (field ∷ rest) = sends field.1 ++ fields_sends rest
