-- The course of questions for a tree gives the tree, which so depends on what is read alone.
use Rattle.std.proofs.Common.{◌≡◌, ℕ, zero, suc, ◌+◌, not, ◌&&◌, Bool, true, false, if◌then◌else◌, List, [], ◌∷◌, ◌++◌, length, map, Option, Some}
use Rattle.std.proofs.Common.{None, refl, sym, ap, ◌∙◌}
use Rattle.std.specs.Prelude.{slice_set}
use Rattle.std.specs.List.{list_any, position_from}
use Rattle.std.specs.Str.{bytes_eq}
use Rattle.vx_names.specs.declared.key.Selector.{Selector}
use Rattle.vx_names.specs.declared.key.MethodKey.{MethodKey}
use Rattle.vx_names.specs.declared.key.FieldKey.{FieldKey}
use Rattle.vx_syntax.specs.declared.expr.Expr as x
use Rattle.vx_syntax.specs.declared.expr.Stmt as t
use Rattle.vx_syntax.specs.Expressions.{Bytes}
use Rattle.vx_syntax.specs.Declarations.{any}
use Rattle.vx_program.specs.Prelude.{sealed}
use Rattle.vx_program.specs.Program.{is_name_of}
use Rattle.vx_model.specs.declared.report.RunError.{RunError}
use Rattle.vx_model.specs.declared.report.RunError.TheVariants as e
use Rattle.vx_node.specs.declared.node.Info.{Info}
use Rattle.vx_node.specs.declared.node.Info.TheVariants as i
use Rattle.vx_node.specs.declared.kind.Kind.TheVariants as kinds
use Rattle.vx_node.specs.declared.answer.Bound.{Bound}
use Rattle.vx_node.specs.declared.answer.Bound.TheVariants as b
use Rattle.vx_node.specs.declared.node.Variant.{Variant}
use Rattle.vx_node.specs.declared.node.Variant.TheVariants as c
use Rattle.vx_compilation.specs.declared.tree.Part as p
use Rattle.vx_model.specs.Lookup.{same_method}
use Rattle.vx_model.specs.Meaning.{field_names}
use Rattle.vx_model.specs.Kinds.{Source}
use Rattle.vx_compilation.specs.Questions.{Asked}
use Rattle.vx_compilation.specs.Infos.{formal_info, cone_of}
use Rattle.vx_compilation.specs.Resolved as resolved
use Rattle.vx_compilation.specs.Resolved.{Seat, Names, Resolved, Parts, Fields, Stated, Statements, Inlined, Inner, Need, OfName, bound, nothing}
use Rattle.vx_compilation.specs.Resolved.{inner_at, inlined, is_plain, over, shape_of, seats_row, seat_parts, variant_for, first_missing, fault}
use Rattle.vx_compilation.specs.Resolved.{needs, needs_of_parts, needs_of_fields, needs_of_body, needs_of_statement, expression, parts, fields, body}
use Rattle.vx_compilation.specs.Resolved.{statement, statements, captures, closed_scope, called, bound_as, info_of, more_parts, more_fields}
use Rattle.vx_compilation.specs.Resolved.{more_statements, argument_infos, tree}
use Rattle.vx_node.specs.Traces.{Answers}
use Rattle.vx_node.specs.Asking.{Asking, Outcome, Gives, outcome}
use Rattle.vx_node.proofs.SameAnswers.{same_outcome, same_asked}
use Rattle.vx_compilation.specs.Readings.{told, ask_heads, ask_base, ask_bind, ask_clones}
use Rattle.vx_compilation.specs.TreeAsking.{Course, AskInner, ask_named, ask_missing, ask_fault, is_exact, ask_variant, ask_called, ask_bound}
use Rattle.vx_compilation.specs.TreeAsking.{ask_nothing, ask_resend, ask_needs, ask_needs_of_parts, ask_needs_of_fields, ask_needs_of_body}
use Rattle.vx_compilation.specs.TreeAsking.{ask_needs_of_statement, ask_expression, ask_parts, ask_fields, ask_body, ask_statement, ask_statements}
use Rattle.vx_compilation.specs.TreeAsking.{ask_inlined, ask_inner, ask_formal, ask_formals, ask_others, ask_infos, ask_source, ask_tree}
use Rattle.vx_compilation.specs.TreeAsking.{TreesAreRead}
use mathlib.Core.Former.{this, list_count}
use Rattle.vx_compilation.proofs.Variants.{general_for}

module _ (answer : Answers) where
  abbrev q : Asked
  q = told answer

  abbrev value : {A : Type 0} → Asking A → Outcome A
  value course = outcome course answer

  -- ---- names and constructors

  named_asks : (name : Bytes) (o : Option Seat) (n : ℕ) (go : Resolved → Course) → value (ask_named name o n go) ≡ value (go (resolved.named q name o n))
  named_asks name (Some seat) n go = refl
  named_asks name None n go = refl

  missing_asks : (class : Bytes) (names : List Bytes) (go : Option RunError → Course) →
      value (ask_missing class names go) ≡ value (go (first_missing q class names))
  missing_asks class [] go = refl
  missing_asks class (name ∷ names) go = by (q.field class name) (missing_asks class names go)
    where
      by : (o : Option FieldKey) → value (ask_missing class names go) ≡ value (go (first_missing q class names)) →
          value (elim o [ Some key ↦ ask_missing class names go | None ↦ go (Some (e.NoField name)) ]) ≡ value
          (go (elim o [ Some key ↦ first_missing q class names | None ↦ Some (e.NoField name) ]))
      by (Some key) more = more
      by None more = refl

  fault_asks : (class : Bytes) (names : List Bytes) (go : Option RunError → Course) → value (ask_fault class names go) ≡ value (go (fault q class names))
  fault_asks class names go = by (is_plain (q.there class) && not (is_name_of sealed class)) (missing_asks class names go)
    where
      by : (so : Bool) → value (ask_missing class names go) ≡ value (go (first_missing q class names)) →
          value (if so then ask_missing class names go else go (Some (e.UnknownObject class))) ≡ value
          (go (if so then first_missing q class names else Some (e.UnknownObject class)))
      by true more = more
      by false more = refl

  -- ---- needs

  unless_asks : (us : List Need) (go : List Need → Course) (course : Course) (o : Option RunError) → value course ≡ value (go us) →
      value (elim o [ None ↦ course | Some error ↦ go [] ]) ≡ value (go (resolved.unless o us))
  unless_asks us go course None more = more
  unless_asks us go course (Some error) more = refl

  mutual
    needs_asks : (own : x.Expr) (go : List Need → Course) → value (ask_needs own go) ≡ value (go (needs q own))
    needs_asks (x.Int n) go = refl
    needs_asks (x.Text bytes) go = refl
    needs_asks (x.Name name) go = refl
    needs_asks (x.Send' selector shape row) go = needs_of_parts_asks row go
    needs_asks (x.Closure' formals shape row) go = needs_of_body_asks row go
    needs_asks (x.New' class shape row) go =
        fault_asks class (field_names row) (λ o. elim o [ None ↦ ask_needs_of_fields row go | Some error ↦ go [] ])
        ∙ unless_asks (needs_of_fields q row) go (ask_needs_of_fields row go) (fault q class (field_names row)) (needs_of_fields_asks row go)
    needs_asks x.Resend go = refl

    needs_of_parts_asks : {n : _} (row : x.Row_of-Expr n) (go : List Need → Course) → value (ask_needs_of_parts row go) ≡ value (go (needs_of_parts q row))
    needs_of_parts_asks x.end_of-Expr go = refl
    needs_of_parts_asks (x.more_of-Expr part rest) go =
        needs_asks part (λ own. ask_needs_of_parts rest (λ others. go (own ++ others))) ∙ needs_of_parts_asks rest (λ others. go (needs q part ++ others))

    needs_of_fields_asks : {n : _} (row : x.Row_of-Expr-New-1-2 n) (go : List Need → Course) →
        value (ask_needs_of_fields row go) ≡ value (go (needs_of_fields q row))
    needs_of_fields_asks x.end_of-Expr-New-1-2 go = refl
    needs_of_fields_asks (x.more_of-Expr-New-1-2 name part rest) go =
        needs_asks part (λ own. ask_needs_of_fields rest (λ others. go (own ++ others))) ∙ needs_of_fields_asks rest (λ others. go (needs q part ++ others))

    needs_of_body_asks : {n : _} (row : x.Row_of-Stmt n) (go : List Need → Course) → value (ask_needs_of_body row go) ≡ value (go (needs_of_body q row))
    needs_of_body_asks x.end_of-Stmt go = refl
    needs_of_body_asks (x.more_of-Stmt own rest) go =
        needs_of_statement_asks own (λ first. ask_needs_of_body rest (λ others. go (first ++ others))) ∙
        needs_of_body_asks rest (λ others. go (needs_of_statement q own ++ others))

    needs_of_statement_asks : (own : t.Stmt) (go : List Need → Course) → value (ask_needs_of_statement own go) ≡ value (go (needs_of_statement q own))
    needs_of_statement_asks (t.Let name part) go = needs_asks part go
    needs_of_statement_asks (t.LetVar name part) go = needs_asks part go
    needs_of_statement_asks (t.Set name part) go = needs_asks part (λ own. go (OfName name ∷ own))
    needs_of_statement_asks (t.Do part) go = needs_asks part go
    needs_of_statement_asks (t.Back part) go = needs_asks part go

  -- ---- sends

  abbrev InnerAsks : AskInner → Inner → Type 0
  InnerAsks inner inner' = (key : MethodKey) (infos : List Info) (n : ℕ) (go : Option Inlined → Course) →
      value (inner key infos n go) ≡ value (go (inner' key infos n))

  variant_asks : (key : MethodKey) (infos : List Info) (go : Variant → Course) →
      value (ask_variant key infos go) ≡ value (go (variant_for infos (q.clones key)))
  variant_asks key infos go = by (list_any is_exact infos) refl
    where
      by : (so : Bool) → list_any is_exact infos ≡ so → value (if so then ask_clones key (λ split. go (variant_for infos split)) else go c.General) ≡ value
          (go (variant_for infos (q.clones key)))
      by true e = refl
      by false e = ap (λ v. value (go v)) (sym (general_for infos e (q.clones key)))

  called_asks : (key : MethodKey) (shape : List (Unit {0})) (all : Parts (list_count (this {0}) shape 0)) (go : Resolved → Course) (o : Option Inlined) →
      value (ask_called key shape all go o) ≡ value (go (called q key shape all o))
  called_asks key shape all go None = variant_asks key all.infos (λ variant. go (over all (p.Call' key variant shape all.row) i.Any))
  called_asks key shape all go (Some own) = refl

  bound_asks : (inner : AskInner) (inner' : Inner) → InnerAsks inner inner' →
      (selector : Selector) (sends : (p.Part → Course) → Course) (sending : p.Part) → ((go' : p.Part → Course) → value (sends go') ≡ value (go' sending)) →
      (shape : List (Unit {0})) (all : Parts (list_count (this {0}) shape 0)) (go : Resolved → Course) (own : Bound) →
      value (ask_bound inner selector sends shape all go own) ≡ value (go (bound_as q inner' selector sending shape all own))
  bound_asks inner inner' ok selector sends sending is shape all go b.Nobody = refl
  bound_asks inner inner' ok selector sends sending is shape all go b.Open = is (λ part. go (over all part i.Any))
  bound_asks inner inner' ok selector sends sending is shape all go (b.One key (kinds.Prim number)) = refl
  bound_asks inner inner' ok selector sends sending is shape all go (b.One key (kinds.Get field)) = refl
  bound_asks inner inner' ok selector sends sending is shape all go (b.One key (kinds.Set field)) = refl
  bound_asks inner inner' ok selector sends sending is shape all go (b.One key kinds.Source) = ok key all.infos all.next (ask_called key shape all go) ∙
      called_asks key shape all go (inner' key all.infos all.next)

  resend_asks : (method : MethodKey) (seats : List Seat) (n : ℕ) (go : Resolved → Course) →
      value (ask_resend method seats n go) ≡ value (go (resolved.resent q method seats n))
  resend_asks method seats n go =
      bound_asks ask_nothing nothing (λ key infos m go'. refl) method.selector
      (λ go'. ask_heads method.selector (λ heads. go' (p.Resend' method (position_from (λ head. same_method head.0 method) 0 heads) (shape_of seats)
      (seats_row seats)))) (p.Resend' method (resolved.row_of q method) (shape_of seats) (seats_row seats)) (λ go'. refl) (shape_of seats)
      (seat_parts seats n) go (q.bind method.selector (map info_of seats) (Some method))

  made_asks : (class : Bytes) (shape : List (Unit {0})) (n : ℕ) (all : Fields (list_count (this {0}) shape 0)) (go : Resolved → Course) (course : Course)
      (o : Option RunError) → value course ≡ value (go (resolved.made None class n shape all)) →
      value (elim o [ None ↦ course | Some error ↦ go (resolved.failing error n) ]) ≡ value (go (resolved.made o class n shape all))
  made_asks class shape n all go course None more = more
  made_asks class shape n all go course (Some error) more = refl

  -- ---- texts

  module _ (method : MethodKey) (inner : AskInner) (inner' : Inner) (ok : InnerAsks inner inner') where
    mutual
      expression_asks : (own : x.Expr) (scope : Names) (block n : ℕ) (go : Resolved → Course) →
          value (ask_expression method inner scope block n own go) ≡ value (go (expression q method inner' scope block n own))
      expression_asks (x.Int number) scope block n go = refl
      expression_asks (x.Text bytes) scope block n go = refl
      expression_asks (x.Name name) scope block n go = named_asks name (bound name scope.names) n go
      expression_asks (x.Send' selector shape row) scope block n go =
          let all = parts q method inner' scope block n row in
          parts_asks row scope block n (λ own. ask_bind selector own.infos None
          (ask_bound inner selector (λ go'. go' (p.Send' selector shape own.row)) shape own go))
          ∙ bound_asks inner inner' ok selector (λ go'. go' (p.Send' selector shape all.row)) (p.Send' selector shape all.row) (λ go'. refl) shape all go
          (q.bind selector all.infos None)
      expression_asks (x.Closure' formals shape row) scope block n go =
          let us = needs_of_body q row in
          needs_of_body_asks row (λ own. ask_body method inner (closed_scope (captures scope own) formals scope) (suc block)
          (length (captures scope own) + length formals) row (λ all. go (resolved.closed block n (captures scope own) formals all)))
          ∙ body_asks row (closed_scope (captures scope us) formals scope) (suc block) (length (captures scope us) + length formals)
          (λ all. go (resolved.closed block n (captures scope us) formals all))
      expression_asks (x.New' class shape row) scope block n go =
          fault_asks class (field_names row) (λ o. elim o [
            | None ↦ ask_fields method inner scope class block n row
                (λ all. go (resolved.made None class n shape all))
            | Some error ↦ go (resolved.failing error n)
          ])
          ∙ made_asks class shape n (fields q method inner' scope class block n row) go
          (ask_fields method inner scope class block n row (λ all. go (resolved.made None class n shape all))) (fault q class (field_names row))
          (fields_asks row scope class block n (λ all. go (resolved.made None class n shape all)))
      expression_asks x.Resend scope block n go = resend_asks method scope.formals n go

      parts_asks : {m : _} (row : x.Row_of-Expr m) (scope : Names) (block n : ℕ) (go : Parts m → Course) →
          value (ask_parts method inner scope block n row go) ≡ value (go (parts q method inner' scope block n row))
      parts_asks x.end_of-Expr scope block n go = refl
      parts_asks (x.more_of-Expr part rest) scope block n go =
          let first = expression q method inner' scope block n part in
          expression_asks part scope block n (λ own. ask_parts method inner scope (block + length own.blocks) own.next rest
          (λ others. go (more_parts own others)))
          ∙ parts_asks rest scope (block + length first.blocks) first.next (λ others. go (more_parts first others))

      fields_asks : {m : _} (row : x.Row_of-Expr-New-1-2 m) (scope : Names) (class : Bytes) (block n : ℕ) (go : Fields m → Course) →
          value (ask_fields method inner scope class block n row go) ≡ value (go (fields q method inner' scope class block n row))
      fields_asks x.end_of-Expr-New-1-2 scope class block n go = refl
      fields_asks (x.more_of-Expr-New-1-2 name part rest) scope class block n go =
          let first = expression q method inner' scope block n part in
          expression_asks part scope block n (λ own. ask_fields method inner scope class (block + length own.blocks) own.next rest
          (λ others. go (more_fields (resolved.field_key q class name) own others)))
          ∙ fields_asks rest scope class (block + length first.blocks) first.next (λ others. go (more_fields (resolved.field_key q class name) first others))

      body_asks : {m : _} (row : x.Row_of-Stmt m) (scope : Names) (block n : ℕ) (go : Statements → Course) →
          value (ask_body method inner scope block n row go) ≡ value (go (body q method inner' scope block n row))
      body_asks x.end_of-Stmt scope block n go = refl
      body_asks (x.more_of-Stmt own rest) scope block n go =
          let first = statement q method inner' scope block n own in
          statement_asks own scope block n (λ one. ask_body method inner one.scope (block + length one.blocks) one.next rest
          (λ others. go (more_statements one others)))
          ∙ body_asks rest first.scope (block + length first.blocks) first.next (λ others. go (more_statements first others))

      statement_asks : (own : t.Stmt) (scope : Names) (block n : ℕ) (go : Stated → Course) →
          value (ask_statement method inner scope block n own go) ≡ value (go (statement q method inner' scope block n own))
      statement_asks (t.Let name part) scope block n go = expression_asks part scope block (suc n) (λ own. go (resolved.let_of name n scope own))
      statement_asks (t.LetVar name part) scope block n go = expression_asks part scope block (suc n) (λ own. go (resolved.let_var_of name n scope own))
      statement_asks (t.Set name part) scope block n go = expression_asks part scope block n
          (λ own. go (resolved.set_of (resolved.seat_number (bound name scope.names)) scope own))
      statement_asks (t.Do part) scope block n go = expression_asks part scope block n (λ own. go (resolved.do_of scope own))
      statement_asks (t.Back part) scope block n go = expression_asks part scope block n (λ own. go (resolved.back_of scope own))

    statements_ask : (own : List t.Stmt) (scope : Names) (block n : ℕ) (go : Statements → Course) →
        value (ask_statements method inner scope block n own go) ≡ value (go (statements q method inner' scope block n own))
    statements_ask [] scope block n go = refl
    statements_ask (own ∷ rest) scope block n go =
        let first = statement q method inner' scope block n own in
        statement_asks own scope block n (λ one. ask_statements method inner one.scope (block + length one.blocks) one.next rest
        (λ others. go (more_statements one others)))
        ∙ statements_ask rest first.scope (block + length first.blocks) first.next (λ others. go (more_statements first others))

  -- ---- inlining

  inlined_asks : (inner : AskInner) (inner' : Inner) → InnerAsks inner inner' →
      (key : MethodKey) (o : Option Source) (infos : List Info) (n : ℕ) (go : Option Inlined → Course) →
      value (ask_inlined inner key o infos n go) ≡ value (go (inlined q inner' key o infos n))
  inlined_asks inner inner' ok key None infos n go = refl
  inlined_asks inner inner' ok key (Some own) infos n go = statements_ask key inner inner' ok own.body.0 (resolved.formal_scope n own.formals infos) 1
      (n + length own.formals) _

  inner_asks : (depth : ℕ) → InnerAsks (ask_inner depth) (inner_at q depth)
  inner_asks zero = λ key infos n go. refl
  inner_asks (suc depth) = λ key infos n go. inlined_asks (ask_inner depth) (inner_at q depth) (inner_asks depth) key (q.inline key) infos n go

  -- ---- what is known of arguments

  formal_asks : (x : Bytes) (go : Info → Course) → value (ask_formal x go) ≡ value (go (formal_info q.base x))
  formal_asks x go = by (bytes_eq x any)
    where
      by : (so : Bool) → value (if so then go i.Any else ask_base x (λ o. go (elim o [ Some y ↦ cone_of y | None ↦ i.Any ]))) ≡ value
          (go (if so then i.Any else elim (q.base x) [ Some y ↦ cone_of y | None ↦ i.Any ]))
      by true = refl
      by false = refl

  formals_ask : (xs : List Bytes) (go : List Info → Course) → value (ask_formals xs go) ≡ value (go (map (formal_info q.base) xs))
  formals_ask [] go = refl
  formals_ask (x ∷ xs) go = formal_asks x (λ info. ask_formals xs (λ infos. go (info ∷ infos))) ∙ formals_ask xs (λ infos. go (formal_info q.base x ∷ infos))

  others_ask : (position : ℕ) (info : Info) (xs : List Bytes) (go : List Info → Course) →
      value (ask_others position info xs go) ≡ value (go (slice_set (map (formal_info q.base) xs) position info))
  others_ask position info [] go = refl
  others_ask zero info (x ∷ xs) go = formals_ask xs (λ infos. go (info ∷ infos))
  others_ask (suc position) info (x ∷ xs) go = formal_asks x (λ own. ask_others position info xs (λ infos. go (own ∷ infos))) ∙
      others_ask position info xs (λ infos. go (formal_info q.base x ∷ infos))

  infos_ask : (key : MethodKey) (variant : Variant) (go : List Info → Course) → value (ask_infos key variant go) ≡ value (go (argument_infos q key variant))
  infos_ask key c.General go = formals_ask key.specialisers go
  infos_ask key (c.Clone position class) go = others_ask position (i.Exact class) key.specialisers go

  source_asks : (key : MethodKey) (variant : Variant) (o : Option Source) →
      value (ask_source key variant o) ≡ Gives (record { blocks = resolved.source_blocks q key (argument_infos q key variant) o })
  source_asks key variant None = refl
  source_asks key variant (Some own) =
      infos_ask key variant _ ∙ statements_ask key (ask_inner resolved.depth) (inner_at q resolved.depth) (inner_asks resolved.depth) own.body.0
      (resolved.formal_scope 0 own.formals (argument_infos q key variant)) 1 (length own.formals) _

  -- The questioning of a tree comes to the tree.
  pub tree_asks : (key : MethodKey) (variant : Variant) → outcome (ask_tree key variant) answer ≡ Gives (tree (told answer) key variant)
  tree_asks key variant = source_asks key variant (q.body key)

-- So the tree depends on what is read alone.
same_given : {A : Type 0} (x y : A) → Gives x ≡ Gives y → x ≡ y
same_given x y e = cc

pub trees_are_read : TreesAreRead
trees_are_read = record {
  gives = tree_asks;
  alone = λ first second key variant same. (
    same_given _ _ (sym (tree_asks second key variant) ∙ same_outcome (ask_tree key variant) first second same ∙ tree_asks first key variant),
    same_asked (ask_tree key variant) first second same,
  );
}
