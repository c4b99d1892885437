-- A tree with a list has the sends of its parts.
use Rattle.std.specs.Prelude.{OnOk}
use Rattle.std.proofs.Common.{◌≡◌, ◌∙◌, List, ◌∷◌, ◌++◌, map, refl, ap, Result, Ok, Err}
use Rattle.vx_names.specs.declared.key.Selector.{Selector}
use Rattle.vx_syntax.specs.declared.expr.Expr.{Expr, Row_of-Expr, end_of-Expr, more_of-Expr, items-the_row-Expr, items_hidden-the_row-Expr-0}
use Rattle.vx_syntax.specs.declared.expr.Expr.{Row_of-Stmt, end_of-Stmt, more_of-Stmt, items-the_row-Stmt, items_hidden-the_row-Stmt-1}
use Rattle.vx_syntax.specs.declared.expr.Expr.{Row_of-Expr-New-1-2, end_of-Expr-New-1-2, more_of-Expr-New-1-2}
use Rattle.vx_syntax.specs.declared.expr.Expr.{items-the_row-Expr-New-1-2, items_hidden-the_row-Expr-New-1-2-2}
use Rattle.vx_syntax.specs.declared.expr.Expr.TheBlock.{hidden-the_row-Expr-0, hidden-the_row-Stmt-1, hidden-the_row-Expr-New-1-2-2}
use Rattle.vx_syntax.specs.declared.expr.Expr.TheViews as x
use Rattle.vx_syntax.specs.declared.expr.Stmt.{Stmt}
use Rattle.vx_syntax.specs.declared.expr.Body.{Body}
use Rattle.vx_syntax.specs.Expressions.{Bytes}
use Rattle.vx_syntax.proofs.Views.{the_items_is}
use Rattle.vx_compilation.specs.Cloning.{name_alone, names_alone, sends, sends_in, sends_in_fields, sends_in_body, sends_in_statement, sends_of}
use Rattle.vx_clone.specs.Sends.{parts_sends, fields_sends}

row_names : {n : _} (row : Row_of-Expr n) → names_alone row ≡ map name_alone (items-the_row-Expr n row)
row_names end_of-Expr = refl
row_names (more_of-Expr part rest) = ap (λ names. name_alone part ∷ names) (row_names rest)

row_sends : {n : _} (row : Row_of-Expr n) → sends_in row ≡ parts_sends (items-the_row-Expr n row)
row_sends end_of-Expr = refl
row_sends (more_of-Expr part rest) = ap (λ l. sends part ++ l) (row_sends rest)

fields_row_sends : {n : _} (row : Row_of-Expr-New-1-2 n) → sends_in_fields row ≡ fields_sends (items-the_row-Expr-New-1-2 n row)
fields_row_sends end_of-Expr-New-1-2 = refl
fields_row_sends (more_of-Expr-New-1-2 name part rest) = ap (λ l. sends part ++ l) (fields_row_sends rest)

body_row_sends : {n : _} (row : Row_of-Stmt n) → sends_in_body row ≡ sends_of (items-the_row-Stmt n row)
body_row_sends end_of-Stmt = refl
body_row_sends (more_of-Stmt statement rest) = ap (λ l. sends_in_statement statement ++ l) (body_row_sends rest)

pub send_sends : (selector : Selector) (parts : List Expr) → sends (x.Send selector parts) ≡ (selector, map name_alone parts) ∷ parts_sends parts
send_sends selector parts =
    let row = hidden-the_row-Expr-0 parts in
    ap (λ l. (selector, l) ∷ sends_in row) (row_names row)
    ∙ ap (λ l. (selector, map name_alone (items-the_row-Expr _ row)) ∷ l) (row_sends row)
    ∙ ap (λ l. (selector, map name_alone l) ∷ parts_sends l) (items_hidden-the_row-Expr-0 parts ∙ the_items_is Expr parts)

pub new_sends : (class : Bytes) (fields : List (Bytes × Expr)) → sends (x.New class fields) ≡ fields_sends fields
new_sends class fields =
    fields_row_sends (hidden-the_row-Expr-New-1-2-2 fields)
    ∙ ap fields_sends (items_hidden-the_row-Expr-New-1-2-2 fields ∙ the_items_is _ fields)

pub closure_sends : (formals : List Bytes) (body : Body) → sends (x.Closure formals body) ≡ sends_of body.0
closure_sends formals body =
    body_row_sends (hidden-the_row-Stmt-1 body.0)
    ∙ ap sends_of (items_hidden-the_row-Stmt-1 body.0 ∙ the_items_is Stmt body.0)

-- what holds where a call went well, by what its clause says
pub went_well : {V E P Q : Type 0} (result : Result V E) → (P → Q) → OnOk result P → OnOk result Q
went_well (Ok value) so p = so p
went_well (Err error) so p = p
