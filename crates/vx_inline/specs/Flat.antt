-- Parts without closures and resends, as lists.
use Rattle.std.specs.Prelude.{Bool, true, ◌&&◌, nat_le, List, [], ◌∷◌}
use Rattle.vx_syntax.specs.declared.expr.Expr.{Expr}
use Rattle.vx_syntax.specs.declared.expr.Body.{Body}
use Rattle.vx_syntax.specs.Expressions.{Bytes}
use Rattle.vx_syntax.specs.Counts.{size}
use Rattle.vx_compilation.specs.Inlining.{is_flat, is_flat_body, inlined_size}

abbrev pub all_flat : List Expr → Bool
all_flat [] = true
all_flat (part ∷ rest) = is_flat part && all_flat rest

abbrev pub fields_flat : List (Bytes × Expr) → Bool
fields_flat [] = true
fields_flat (field ∷ rest) = is_flat field.1 && fields_flat rest

-- whether a body is put in place of its sends
abbrev pub is_inlined : Body → Bool
is_inlined body = nat_le (size body) inlined_size && is_flat_body body.0
