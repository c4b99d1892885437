-- The questioning of a tree asks facts and filters alone.
use Rattle.std.proofs.Common.{ℕ, zero, suc, ◌+◌, List, [], ◌∷◌, ◌++◌, length, Option, Some, None, arith}
use Rattle.vx_model.specs.declared.report.RunError.TheVariants as e
use Rattle.vx_node.specs.declared.node.Info.TheVariants as i
use Rattle.vx_node.specs.declared.kind.Kind.TheVariants as kinds
use Rattle.vx_node.specs.declared.answer.Bound.TheVariants as b
use Rattle.vx_node.specs.declared.node.Variant.TheVariants as c
use Rattle.std.specs.List.{list_any, position_from}
use Rattle.std.specs.Str.{bytes_eq}
use Rattle.vx_names.specs.declared.key.Selector.{Selector}
use Rattle.vx_names.specs.declared.key.MethodKey.{MethodKey}
use Rattle.vx_names.specs.declared.key.FieldKey.{FieldKey}
use Rattle.vx_syntax.specs.declared.expr.Expr as x
use Rattle.vx_syntax.specs.declared.expr.Stmt as t
use Rattle.vx_syntax.specs.Expressions.{Bytes}
use Rattle.vx_syntax.specs.Declarations.{any}
use Rattle.vx_model.specs.declared.report.RunError.{RunError}
use Rattle.vx_node.specs.declared.node.Info.{Info}
use Rattle.vx_node.specs.declared.answer.Bound.{Bound}
use Rattle.vx_node.specs.declared.node.Variant.{Variant}
use Rattle.vx_compilation.specs.declared.tree.Part as p
use Rattle.vx_model.specs.Lookup.{same_method}
use Rattle.vx_model.specs.Meaning.{field_names}
use Rattle.vx_model.specs.Kinds.{Source}
use Rattle.vx_compilation.specs.Resolved as resolved
use Rattle.vx_compilation.specs.TreeAsking.{key_by, Course, AskInner, ask_named, ask_missing, ask_fault, is_exact, ask_variant, ask_called}
use Rattle.vx_compilation.specs.TreeAsking.{ask_bound, ask_nothing, ask_resend, ask_needs, ask_needs_of_parts, ask_needs_of_fields}
use Rattle.vx_compilation.specs.TreeAsking.{ask_needs_of_body, ask_needs_of_statement, ask_expression, ask_parts, ask_fields, ask_body}
use Rattle.vx_compilation.specs.TreeAsking.{ask_statement, ask_statements, ask_inlined, ask_inner, ask_formal, ask_formals, ask_others, ask_infos}
use Rattle.vx_compilation.specs.TreeAsking.{ask_source, ask_tree}
use mathlib.Core.Former.{this, list_count}
use Rattle.vx_compilation.specs.Readings.{bound_in, field_in, inline_in, source_in, ask_clones, ask_base, ask_heads}
use Rattle.vx_compilation.specs.Infos.{cone_of}
use Rattle.vx_compilation.specs.Resolved.{Seat, Names, Resolved, Parts, Fields, Stated, Statements, Inlined, Need, OfName, bound, is_plain, over}
use Rattle.vx_compilation.specs.Resolved.{shape_of, seats_row, seat_parts, variant_for, captures, closed_scope, info_of, more_parts, more_fields}
use Rattle.vx_compilation.specs.Resolved.{more_statements}
use Rattle.vx_answers.proofs.Below.{AsksBelow, given, low, either_below}

abbrev Low : Course → Type 0
Low course = AsksBelow 4 course

-- what goes on asks so, whatever it goes on from
abbrev LowThen : {X : Type 0} → (X → Course) → Type 0
LowThen {X} go = (x : X) → Low (go x)

by_fault : (o : Option RunError) (course : Course) (other : RunError → Course) → Low course → LowThen other →
    Low (elim o [ None ↦ course | Some error ↦ other error ])
by_fault None course other one more = one
by_fault (Some error) course other one more = more error

by_key : (o : Option FieldKey) (course other : Course) → Low course → Low other → Low (elim o [ Some key ↦ course | None ↦ other ])
by_key (Some key) course other one more = one
by_key None course other one more = more

named_low : (name : Bytes) (o : Option Seat) (n : ℕ) (go : Resolved → Course) → LowThen go → Low (ask_named name o n go)
named_low name (Some seat) n go more = more _
named_low name None n go more = low _ _ (omega arith) (λ answer. more _)

missing_low : (class : Bytes) (names : List Bytes) (go : Option RunError → Course) → LowThen go → Low (ask_missing class names go)
missing_low class [] go more = more None
missing_low class (name ∷ names) go more = low _ _ (omega arith) (λ answer. by_key (field_in answer) (ask_missing class names go)
    (go (Some (e.NoField name))) (missing_low class names go more) (more _))

fault_low : (class : Bytes) (names : List Bytes) (go : Option RunError → Course) → LowThen go → Low (ask_fault class names go)
fault_low class names go more = low _ _ (omega arith) (λ answer. either_below 4 _ (ask_missing class names go) (go (Some (e.UnknownObject class)))
    (missing_low class names go more) (more _))

mutual
  needs_low : (own : x.Expr) (go : List Need → Course) → LowThen go → Low (ask_needs own go)
  needs_low (x.Int n) go more = more _
  needs_low (x.Text bytes) go more = more _
  needs_low (x.Name name) go more = more _
  needs_low (x.Send' selector shape row) go more = needs_of_parts_low row go more
  needs_low (x.Closure' formals shape row) go more = needs_of_body_low row go more
  needs_low (x.New' class shape row) go more =
      fault_low class (field_names row) _ (λ o. by_fault o (ask_needs_of_fields row go) (λ error. go []) (needs_of_fields_low row go more) (λ error. more []))
  needs_low x.Resend go more = more _

  needs_of_parts_low : {n : _} (row : x.Row_of-Expr n) (go : List Need → Course) → LowThen go → Low (ask_needs_of_parts row go)
  needs_of_parts_low x.end_of-Expr go more = more _
  needs_of_parts_low (x.more_of-Expr part rest) go more = needs_low part _ (λ own. needs_of_parts_low rest (λ others. go (own ++ others)) (λ others. more _))

  needs_of_fields_low : {n : _} (row : x.Row_of-Expr-New-1-2 n) (go : List Need → Course) → LowThen go → Low (ask_needs_of_fields row go)
  needs_of_fields_low x.end_of-Expr-New-1-2 go more = more _
  needs_of_fields_low (x.more_of-Expr-New-1-2 name part rest) go more =
      needs_low part _ (λ own. needs_of_fields_low rest (λ others. go (own ++ others)) (λ others. more _))

  needs_of_body_low : {n : _} (row : x.Row_of-Stmt n) (go : List Need → Course) → LowThen go → Low (ask_needs_of_body row go)
  needs_of_body_low x.end_of-Stmt go more = more _
  needs_of_body_low (x.more_of-Stmt own rest) go more = needs_of_statement_low own _
      (λ first. needs_of_body_low rest (λ others. go (first ++ others)) (λ others. more _))

  needs_of_statement_low : (own : t.Stmt) (go : List Need → Course) → LowThen go → Low (ask_needs_of_statement own go)
  needs_of_statement_low (t.Let name part) go more = needs_low part go more
  needs_of_statement_low (t.LetVar name part) go more = needs_low part go more
  needs_of_statement_low (t.Set name part) go more = needs_low part _ (λ own. more _)
  needs_of_statement_low (t.Do part) go more = needs_low part go more
  needs_of_statement_low (t.Back part) go more = needs_low part go more

-- ---- sends

abbrev InnerLow : AskInner → Type 0
InnerLow inner = (key : MethodKey) (infos : List Info) (n : ℕ) (go : Option Inlined → Course) → LowThen go → Low (inner key infos n go)

variant_low : (key : MethodKey) (infos : List Info) (go : Variant → Course) → LowThen go → Low (ask_variant key infos go)
variant_low key infos go more = either_below 4 (list_any is_exact infos) (ask_clones key (λ split. go (variant_for infos split))) (go c.General)
    (low _ _ (omega arith) (λ answer. more _)) (more _)

called_low : (key : MethodKey) (shape : List (Unit {0})) (all : Parts (list_count (this {0}) shape 0)) (go : Resolved → Course) → LowThen go →
    (o : Option Inlined) → Low (ask_called key shape all go o)
called_low key shape all go more None = variant_low key all.infos (λ variant. go (over all (p.Call' key variant shape all.row) i.Any)) (λ variant. more _)
called_low key shape all go more (Some own) = more _

bound_low : (inner : AskInner) → InnerLow inner → (selector : Selector) (sending : (p.Part → Course) → Course) →
    ((go' : p.Part → Course) → LowThen go' → Low (sending go')) →
    (shape : List (Unit {0})) (all : Parts (list_count (this {0}) shape 0)) (go : Resolved → Course) → LowThen go → (own : Bound) →
    Low (ask_bound inner selector sending shape all go own)
bound_low inner ok selector sending sends shape all go more b.Nobody = more _
bound_low inner ok selector sending sends shape all go more b.Open = sends _ (λ part. more _)
bound_low inner ok selector sending sends shape all go more (b.One key (kinds.Prim number)) = more _
bound_low inner ok selector sending sends shape all go more (b.One key (kinds.Get field)) = more _
bound_low inner ok selector sending sends shape all go more (b.One key (kinds.Set field)) = more _
bound_low inner ok selector sending sends shape all go more (b.One key kinds.Source) =
    ok key all.infos all.next (ask_called key shape all go) (called_low key shape all go more)

resend_low : (method : MethodKey) (seats : List Seat) (n : ℕ) (go : Resolved → Course) → LowThen go → Low (ask_resend method seats n go)
resend_low method seats n go more =
    low _ _ (omega arith) (λ answer.
    bound_low ask_nothing (λ key infos m go' more'. more' None) method.selector
    (λ go'. ask_heads method.selector (λ heads. go' (p.Resend' method (position_from (λ head. same_method head.0 method) 0 heads) (shape_of seats)
    (seats_row seats))))
    (λ go' more'. low _ _ (omega arith) (λ answer. more' _)) (shape_of seats) (seat_parts seats n) go more (bound_in answer))

-- ---- texts

module _ (method : MethodKey) (inner : AskInner) (ok : InnerLow inner) where
  mutual
    expression_low : (own : x.Expr) (scope : Names) (block n : ℕ) (go : Resolved → Course) → LowThen go → Low (ask_expression method inner scope block n own go)
    expression_low (x.Int number) scope block n go more = more _
    expression_low (x.Text bytes) scope block n go more = more _
    expression_low (x.Name name) scope block n go more = named_low name (bound name scope.names) n go more
    expression_low (x.Send' selector shape row) scope block n go more =
        parts_low row scope block n _ (λ all. low _ _ (omega arith) (λ answer.
        bound_low inner ok selector (λ go'. go' (p.Send' selector shape all.row)) (λ go' more'. more' _) shape all go more (bound_in answer)))
    expression_low (x.Closure' formals shape row) scope block n go more =
        needs_of_body_low row _ (λ us. body_low row (closed_scope (captures scope us) formals scope) (suc block)
        (length (captures scope us) + length formals) _ (λ all. more _))
    expression_low (x.New' class shape row) scope block n go more =
        fault_low class (field_names row) _ (λ o. by_fault o (ask_fields method inner scope class block n row
        (λ all. go (resolved.made None class n shape all))) (λ error. go (resolved.failing error n))
        (fields_low row scope class block n _ (λ all. more _)) (λ error. more _))
    expression_low x.Resend scope block n go more = resend_low method scope.formals n go more

    parts_low : {m : _} (row : x.Row_of-Expr m) (scope : Names) (block n : ℕ) (go : Parts m → Course) → LowThen go →
        Low (ask_parts method inner scope block n row go)
    parts_low x.end_of-Expr scope block n go more = more _
    parts_low (x.more_of-Expr part rest) scope block n go more =
        expression_low part scope block n _ (λ first. parts_low rest scope (block + length first.blocks) first.next (λ others. go (more_parts first others))
        (λ others. more _))

    fields_low : {m : _} (row : x.Row_of-Expr-New-1-2 m) (scope : Names) (class : Bytes) (block n : ℕ) (go : Fields m → Course) → LowThen go →
        Low (ask_fields method inner scope class block n row go)
    fields_low x.end_of-Expr-New-1-2 scope class block n go more = more _
    fields_low (x.more_of-Expr-New-1-2 name part rest) scope class block n go more =
        low _ _ (omega arith) (λ answer. expression_low part scope block n _ (λ first.
        fields_low rest scope class (block + length first.blocks) first.next (λ others. go (more_fields (key_by (field_in answer) class name) first others))
        (λ others. more _)))

    body_low : {m : _} (row : x.Row_of-Stmt m) (scope : Names) (block n : ℕ) (go : Statements → Course) → LowThen go →
        Low (ask_body method inner scope block n row go)
    body_low x.end_of-Stmt scope block n go more = more _
    body_low (x.more_of-Stmt own rest) scope block n go more =
        statement_low own scope block n _ (λ first. body_low rest first.scope (block + length first.blocks) first.next
        (λ others. go (more_statements first others)) (λ others. more _))

    statement_low : (own : t.Stmt) (scope : Names) (block n : ℕ) (go : Stated → Course) → LowThen go → Low (ask_statement method inner scope block n own go)
    statement_low (t.Let name part) scope block n go more = expression_low part scope block (suc n) _ (λ own. more _)
    statement_low (t.LetVar name part) scope block n go more = expression_low part scope block (suc n) _ (λ own. more _)
    statement_low (t.Set name part) scope block n go more = expression_low part scope block n _ (λ own. more _)
    statement_low (t.Do part) scope block n go more = expression_low part scope block n _ (λ own. more _)
    statement_low (t.Back part) scope block n go more = expression_low part scope block n _ (λ own. more _)

  statements_low : (rest : List t.Stmt) (scope : Names) (block n : ℕ) (go : Statements → Course) → LowThen go →
      Low (ask_statements method inner scope block n rest go)
  statements_low [] scope block n go more = more _
  statements_low (own ∷ rest) scope block n go more =
      statement_low own scope block n _ (λ first. statements_low rest first.scope (block + length first.blocks) first.next
      (λ others. go (more_statements first others)) (λ others. more _))

-- ---- inlining, and what is known of arguments

inlined_low : (inner : AskInner) → InnerLow inner → (key : MethodKey) (o : Option Source) (infos : List Info) (n : ℕ) (go : Option Inlined → Course) →
    LowThen go → Low (ask_inlined inner key o infos n go)
inlined_low inner ok key None infos n go more = more None
inlined_low inner ok key (Some own) infos n go more = statements_low key inner ok own.body.0 (resolved.formal_scope n own.formals infos) 1
    (n + length own.formals) _ (λ all. more _)

inner_low : (depth : ℕ) → InnerLow (ask_inner depth)
inner_low zero = λ key infos n go more. more None
inner_low (suc depth) = λ key infos n go more. low _ _ (omega arith) (λ answer. inlined_low (ask_inner depth) (inner_low depth) key
    (inline_in answer) infos n go more)

formal_low : (x : Bytes) (go : Info → Course) → LowThen go → Low (ask_formal x go)
formal_low x go more = either_below 4 (bytes_eq x any) (go i.Any) (ask_base x (λ o. go (elim o [ Some y ↦ cone_of y | None ↦ i.Any ]))) (more _)
    (low _ _ (omega arith) (λ answer. more _))

formals_low : (xs : List Bytes) (go : List Info → Course) → LowThen go → Low (ask_formals xs go)
formals_low [] go more = more []
formals_low (x ∷ xs) go more = formal_low x _ (λ info. formals_low xs (λ infos. go (info ∷ infos)) (λ infos. more _))

others_low : (position : ℕ) (info : Info) (xs : List Bytes) (go : List Info → Course) → LowThen go → Low (ask_others position info xs go)
others_low position info [] go more = more []
others_low zero info (x ∷ xs) go more = formals_low xs _ (λ infos. more _)
others_low (suc position) info (x ∷ xs) go more = formal_low x _ (λ own. others_low position info xs (λ infos. go (own ∷ infos)) (λ infos. more _))

infos_low : (key : MethodKey) (variant : Variant) (go : List Info → Course) → LowThen go → Low (ask_infos key variant go)
infos_low key c.General go more = formals_low key.specialisers go more
infos_low key (c.Clone position class) go more = others_low position (i.Exact class) key.specialisers go more

source_low : (key : MethodKey) (variant : Variant) (o : Option Source) → Low (ask_source key variant o)
source_low key variant None = given _
source_low key variant (Some own) =
    infos_low key variant _ (λ infos. statements_low key (ask_inner resolved.depth) (inner_low resolved.depth) own.body.0
    (resolved.formal_scope 0 own.formals infos) 1 (length own.formals) _ (λ all. given _))

pub tree_below : (key : MethodKey) (variant : Variant) → AsksBelow 4 (ask_tree key variant)
tree_below key variant = low _ _ (omega arith) (λ answer. source_low key variant (source_in answer))
