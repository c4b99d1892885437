-- What the definition of meaning makes of rows, as it is of lists.
use Rattle.std.proofs.Common.{◌≡◌, ◌∙◌, List, [], ◌∷◌, Option, Some, None, map, refl, ap, if◌then◌else◌}
use Rattle.vx_names.specs.declared.key.Selector.{Selector}
use Rattle.vx_names.specs.declared.key.FieldKey.{FieldKey}
use Rattle.vx_syntax.specs.declared.decl.Decl.{Decl}
use Rattle.vx_syntax.specs.declared.expr.Expr.{Expr, Row_of-Expr, end_of-Expr, more_of-Expr, items-the_row-Expr, items_hidden-the_row-Expr-0}
use Rattle.vx_syntax.specs.declared.expr.Expr.{Row_of-Stmt, end_of-Stmt, more_of-Stmt, items-the_row-Stmt, items_hidden-the_row-Stmt-1}
use Rattle.vx_syntax.specs.declared.expr.Expr.{Row_of-Expr-New-1-2, end_of-Expr-New-1-2, more_of-Expr-New-1-2}
use Rattle.vx_syntax.specs.declared.expr.Expr.{items-the_row-Expr-New-1-2, items_hidden-the_row-Expr-New-1-2-2}
use Rattle.vx_syntax.specs.declared.expr.Expr.TheBlock.{hidden-the_row-Expr-0, hidden-the_row-Stmt-1, hidden-the_row-Expr-New-1-2-2}
use Rattle.vx_syntax.specs.declared.expr.Expr.TheViews as x
use Rattle.vx_syntax.specs.declared.expr.Stmt.{Stmt}
use Rattle.vx_syntax.specs.Expressions.{Bytes}
use Rattle.vx_syntax.proofs.Views.{the_items_is}
use Rattle.vx_model.specs.declared.value.Value.{Value}
use Rattle.vx_model.specs.declared.report.RunError.TheVariants as e
use Rattle.vx_model.specs.Fields.{field_at}
use Rattle.vx_model.specs.Values.{is_made}
use Rattle.vx_model.specs.Meaning.{State, Done, Gives, Stops, Fails, Allowance, Frame, after, call, closed, constructing, expression}
use Rattle.vx_model.specs.Meaning.{field_names, fields, keys_of, made, parts, statements_of}
use Rattle.vx_meaning.specs.States.{listed}

-- what follows may be any of the same
pub after_same : (done : Done) (go go' : Value → State → Done) →
    ((value : Value) (state : State) → go value state ≡ go' value state) → after done go ≡ after done go'
after_same (Gives value state) go go' same = same value state
after_same (Stops stop state) go go' same = refl

names_listed : {n : _} (row : Row_of-Expr-New-1-2 n) → field_names row ≡ map (λ field. field.0) (items-the_row-Expr-New-1-2 n row)
names_listed end_of-Expr-New-1-2 = refl
names_listed (more_of-Expr-New-1-2 name part rest) = ap (λ names. name ∷ names) (names_listed rest)

-- so it is with the keys of names
field_same : (found : Option FieldKey) (go go' : FieldKey → Done) (otherwise : Done) → ((key : FieldKey) → go key ≡ go' key) →
    elim found as (λ o. Done) [ Some key ↦ go key | None ↦ otherwise ] ≡ elim found as (λ o. Done) [ Some key ↦ go' key | None ↦ otherwise ]
field_same (Some key) go go' otherwise same = same key
field_same None go go' otherwise same = refl

module _ (program : List Decl) (class : Bytes) (state : State) where
  pub keys_same : (names : List Bytes) (go go' : List FieldKey → Done) → ((keys : List FieldKey) → go keys ≡ go' keys) →
      keys_of program class names go state ≡ keys_of program class names go' state
  keys_same [] go go' same = same []
  keys_same (name ∷ names) go go' same =
      field_same (field_at program class name)
      (λ key. keys_of program class names (λ keys. go (key ∷ keys)) state)
      (λ key. keys_of program class names (λ keys. go' (key ∷ keys)) state)
      (Stops (Fails (e.NoField name)) state)
      (λ key. keys_same names (λ keys. go (key ∷ keys)) (λ keys. go' (key ∷ keys)) (λ keys. same (key ∷ keys)))

  constructing_same : (names : List Bytes) (go go' : List FieldKey → Done) → ((keys : List FieldKey) → go keys ≡ go' keys) →
      constructing program class names go state ≡ constructing program class names go' state
  constructing_same names go go' same =
      ap (λ done. if is_made program class then done else Stops (Fails (e.UnknownObject class)) state) (keys_same names go go' same)

-- the statements of a closure
statements_listed : {n : _} (row : Row_of-Stmt n) → statements_of row ≡ items-the_row-Stmt n row
statements_listed end_of-Stmt = refl
statements_listed (more_of-Stmt statement rest) = ap (λ l. statement ∷ l) (statements_listed rest)

module _ (program : List Decl) (lower : Allowance) (frame : Frame) where
  -- what follows a list may be any of the same
  pub listed_same : (list : List Expr) (state : State) (go go' : List Value → State → Done) →
      ((values : List Value) (state : State) → go values state ≡ go' values state) →
      listed program list lower frame state go ≡ listed program list lower frame state go'
  listed_same [] state go go' same = same [] state
  listed_same (part ∷ rest) state go go' same =
      after_same (expression program part lower frame state)
      (λ value state'. listed program rest lower frame state' (λ values. go (value ∷ values)))
      (λ value state'. listed program rest lower frame state' (λ values. go' (value ∷ values)))
      (λ value state'. listed_same rest state' (λ values. go (value ∷ values)) (λ values. go' (value ∷ values)) (λ values. same (value ∷ values)))

  -- the parts of a row are those of its list
  parts_listed : {n : _} (row : Row_of-Expr n) (state : State) (go : List Value → State → Done) →
      parts program row lower frame state go ≡ listed program (items-the_row-Expr n row) lower frame state go
  parts_listed end_of-Expr state go = refl
  parts_listed (more_of-Expr part rest) state go =
      after_same (expression program part lower frame state)
      (λ value state'. parts program rest lower frame state' (λ values. go (value ∷ values)))
      (λ value state'. listed program (items-the_row-Expr _ rest) lower frame state' (λ values. go (value ∷ values)))
      (λ value state'. parts_listed rest state' (λ values. go (value ∷ values)))

  fields_listed : {n : _} (row : Row_of-Expr-New-1-2 n) (state : State) (go : List Value → State → Done) →
      fields program row lower frame state go ≡ listed program (map (λ field. field.1) (items-the_row-Expr-New-1-2 n row)) lower frame state go
  fields_listed end_of-Expr-New-1-2 state go = refl
  fields_listed (more_of-Expr-New-1-2 name part rest) state go =
      after_same (expression program part lower frame state)
      (λ value state'. fields program rest lower frame state' (λ values. go (value ∷ values)))
      (λ value state'. listed program (map (λ field. field.1) (items-the_row-Expr-New-1-2 _ rest)) lower frame state' (λ values. go (value ∷ values)))
      (λ value state'. fields_listed rest state' (λ values. go (value ∷ values)))

  -- a send, a constructor and a closure, by its list
  pub send_listed : (selector : Selector) (arguments : List Expr) (state : State) →
      expression program (x.Send selector arguments) lower frame state
      ≡ listed program arguments lower frame state (λ values. call lower (record { selector = selector; arguments = values; below = None }))
  send_listed selector arguments state =
      let go : List Value → State → Done = λ values. call lower (record { selector = selector; arguments = values; below = None }) in
      parts_listed (hidden-the_row-Expr-0 arguments) state go
      ∙ ap (λ l. listed program l lower frame state go) (items_hidden-the_row-Expr-0 arguments ∙ the_items_is Expr arguments)

  pub new_listed : (class : Bytes) (given : List (Bytes × Expr)) (state : State) →
      expression program (x.New class given) lower frame state
      ≡ constructing program class (map (λ field. field.0) given)
      (λ keys. listed program (map (λ field. field.1) given) lower frame state (made program class keys)) state
  new_listed class given state =
      let row = hidden-the_row-Expr-New-1-2-2 given in
      let go : List (Bytes × Expr) → List FieldKey → Done =
      λ l keys. listed program (map (λ field. field.1) l) lower frame state (made program class keys) in
      constructing_same program class state (field_names row)
      (λ keys. fields program row lower frame state (made program class keys)) (go (items-the_row-Expr-New-1-2 _ row))
      (λ keys. fields_listed row state (made program class keys))
      ∙ ap (λ names. constructing program class names (go (items-the_row-Expr-New-1-2 _ row)) state) (names_listed row)
      ∙ ap (λ l. constructing program class (map (λ field. field.0) l) (go l) state)
      (items_hidden-the_row-Expr-New-1-2-2 given ∙ the_items_is _ given)

  pub closure_listed : (formals : List Bytes) (body : List Stmt) (state : State) →
      expression program (x.Closure formals (record { 0 = body })) lower frame state ≡ closed frame formals body state
  closure_listed formals body state =
      ap (λ l. closed frame formals l state)
      (statements_listed (hidden-the_row-Stmt-1 body) ∙ items_hidden-the_row-Stmt-1 body ∙ the_items_is Stmt body)
