-- A tree with a list has no closure and no resend where its parts have none.
use Rattle.std.proofs.Common.{◌≡◌, ◌∙◌, List, refl, ap}
use Rattle.std.specs.Prelude.{◌&&◌}
use Rattle.vx_names.specs.declared.key.Selector.{Selector}
use Rattle.vx_syntax.specs.declared.expr.Expr.{Expr, Row_of-Expr, end_of-Expr, more_of-Expr, items-the_row-Expr, items_hidden-the_row-Expr-0}
use Rattle.vx_syntax.specs.declared.expr.Expr.{Row_of-Expr-New-1-2, end_of-Expr-New-1-2, more_of-Expr-New-1-2}
use Rattle.vx_syntax.specs.declared.expr.Expr.{items-the_row-Expr-New-1-2, items_hidden-the_row-Expr-New-1-2-2}
use Rattle.vx_syntax.specs.declared.expr.Expr.TheBlock.{hidden-the_row-Expr-0, hidden-the_row-Expr-New-1-2-2}
use Rattle.vx_syntax.specs.declared.expr.Expr.TheViews as x
use Rattle.vx_syntax.specs.Expressions.{Bytes}
use Rattle.vx_syntax.proofs.Views.{the_items_is}
use Rattle.vx_compilation.specs.Inlining.{is_flat, are_flat, are_fields_flat}
use Rattle.vx_inline.specs.Flat.{all_flat, fields_flat}

row_flat : {n : _} (row : Row_of-Expr n) → are_flat row ≡ all_flat (items-the_row-Expr n row)
row_flat end_of-Expr = refl
row_flat (more_of-Expr part rest) = ap (λ b. is_flat part && b) (row_flat rest)

fields_row_flat : {n : _} (row : Row_of-Expr-New-1-2 n) → are_fields_flat row ≡ fields_flat (items-the_row-Expr-New-1-2 n row)
fields_row_flat end_of-Expr-New-1-2 = refl
fields_row_flat (more_of-Expr-New-1-2 name part rest) = ap (λ b. is_flat part && b) (fields_row_flat rest)

pub send_flat : (selector : Selector) (parts : List Expr) → is_flat (x.Send selector parts) ≡ all_flat parts
send_flat selector parts =
    row_flat (hidden-the_row-Expr-0 parts) ∙ ap all_flat (items_hidden-the_row-Expr-0 parts ∙ the_items_is Expr parts)

pub new_flat : (class : Bytes) (fields : List (Bytes × Expr)) → is_flat (x.New class fields) ≡ fields_flat fields
new_flat class fields =
    fields_row_flat (hidden-the_row-Expr-New-1-2-2 fields)
    ∙ ap fields_flat (items_hidden-the_row-Expr-New-1-2-2 fields ∙ the_items_is _ fields)
