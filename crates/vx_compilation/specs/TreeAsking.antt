-- The tree of a method as a course of questions.
use Rattle.std.specs.Prelude.{◌≡◌, ℕ, zero, suc, ◌+◌, Bool, true, false, not, ◌&&◌, if◌then◌else◌, List, [], ◌∷◌, ◌++◌, length, map, codes, Option, Some, None}
use Rattle.std.specs.List.{list_any, position_from}
use Rattle.std.specs.Str.{bytes_eq}
use Rattle.vx_names.specs.declared.key.Selector.{Selector}
use Rattle.vx_names.specs.declared.key.MethodKey.{MethodKey}
use Rattle.vx_names.specs.declared.key.FieldKey.{FieldKey}
use Rattle.vx_syntax.specs.declared.expr.Expr as x
use Rattle.vx_syntax.specs.declared.expr.Stmt as t
use Rattle.vx_syntax.specs.Expressions.{Bytes}
use Rattle.vx_syntax.specs.Declarations.{any}
use Rattle.vx_program.specs.Prelude.{sealed}
use Rattle.vx_program.specs.Program.{is_name_of}
use Rattle.vx_model.specs.declared.report.RunError.{RunError}
use Rattle.vx_model.specs.declared.report.RunError.TheVariants as e
use Rattle.vx_node.specs.declared.node.Info.{Info}
use Rattle.vx_node.specs.declared.node.Info.TheVariants as i
use Rattle.vx_node.specs.declared.kind.Kind.TheVariants as kinds
use Rattle.vx_node.specs.declared.answer.Bound.{Bound}
use Rattle.vx_node.specs.declared.answer.Bound.TheVariants as b
use Rattle.vx_node.specs.declared.answer.Stands.{Stands}
use Rattle.vx_node.specs.declared.node.Variant.{Variant}
use Rattle.vx_node.specs.declared.node.Variant.TheVariants as c
use Rattle.vx_compilation.specs.declared.tree.Tree.{Tree}
use Rattle.vx_compilation.specs.declared.tree.Part as p
use Rattle.vx_model.specs.Lookup.{same_method}
use Rattle.vx_model.specs.Values.{unnamed}
use Rattle.vx_model.specs.Meaning.{field_names}
use Rattle.vx_model.specs.Kinds.{Source}
use Rattle.vx_node.specs.Traces.{Answers}
use Rattle.vx_node.specs.Asking.{Asking, gives, Gives, outcome, asked, SameAnswers}
use Rattle.vx_compilation.specs.Readings.{told, ask_there, ask_heads, ask_source_of, ask_base, ask_field, ask_inline, ask_bind, ask_clones}
use Rattle.vx_compilation.specs.Infos.{cone_of}
use Rattle.vx_compilation.specs.Resolved as resolved
use Rattle.vx_compilation.specs.Resolved.{Seat, Names, Resolved, Parts, Fields, Stated, Statements, Inlined, Need, OfName, OfFormals, bound}
use Rattle.vx_compilation.specs.Resolved.{seat_part, info_of, leaf, failing, is_plain, exactly, over, shape_of, acts_row, seats_row, seat_parts}
use Rattle.vx_compilation.specs.Resolved.{primitive_info, variant_for, captures, closed_scope, closed, unless, more_parts, more_fields}
use Rattle.vx_compilation.specs.Resolved.{more_statements, no_parts, no_fields, no_statements, let_of, let_var_of, set_of, do_of, back_of}
use Rattle.vx_compilation.specs.Resolved.{seat_number, numbers, formal_scope}
use mathlib.Core.Former.{this, list_count}

-- ---- courses, each with what follows

abbrev pub Course : Type 0
Course = Asking Tree

abbrev pub AskInner : Type 0
AskInner = MethodKey → List Info → ℕ → (Option Inlined → Course) → Course

abbrev pub named_by : Stands → Bytes → ℕ → Resolved
named_by stands name n = if is_plain stands && not (is_name_of unnamed name) then leaf (p.Object name) (exactly name) n else failing (e.UnknownObject name) n

abbrev pub ask_named : Bytes → Option Seat → ℕ → (Resolved → Course) → Course
ask_named name (Some seat) n go = go (leaf (seat_part seat) (info_of seat) n)
ask_named name None n go = ask_there name (λ stands. go (named_by stands name n))

abbrev pub ask_missing : Bytes → List Bytes → (Option RunError → Course) → Course
ask_missing class [] go = go None
ask_missing class (name ∷ names) go = ask_field class name (λ o. elim o [ Some key ↦ ask_missing class names go | None ↦ go (Some (e.NoField name)) ])

abbrev pub ask_fault : Bytes → List Bytes → (Option RunError → Course) → Course
ask_fault class names go = ask_there class (λ stands. if is_plain stands &&
    not (is_name_of sealed class) then ask_missing class names go else go (Some (e.UnknownObject class)))

abbrev pub is_exact : Info → Bool
is_exact (i.Exact x) = true
is_exact info = false

-- clones are asked for where something is known exactly
abbrev pub ask_variant : MethodKey → List Info → (Variant → Course) → Course
ask_variant key infos go = if list_any is_exact infos then ask_clones key (λ split. go (variant_for infos split)) else go c.General

abbrev pub ask_called : MethodKey → (shape : List (Unit {0})) → Parts (list_count (this {0}) shape 0) → (Resolved → Course) → Option Inlined → Course
ask_called key shape all go None = ask_variant key all.infos (λ variant. go (over all (p.Call' key variant shape all.row) i.Any))
ask_called key shape all go (Some own) =
    go (record { part = p.Inlined' shape all.row own.xs (shape_of own.acts) (acts_row own.acts); info = own.info; next = own.next; blocks = all.blocks })

abbrev pub ask_bound : AskInner → Selector → ((p.Part → Course) → Course) → (shape : List (Unit {0})) → Parts (list_count (this {0}) shape 0) →
    (Resolved → Course) → Bound → Course
ask_bound inner selector sending shape all go b.Nobody = go (over all (p.Fail' (e.NotUnderstood selector) shape all.row) i.Any)
ask_bound inner selector sending shape all go b.Open = sending (λ part. go (over all part i.Any))
ask_bound inner selector sending shape all go (b.One key (kinds.Prim number)) = go (over all (p.Prim' number shape all.row) (primitive_info number))
ask_bound inner selector sending shape all go (b.One key (kinds.Get field)) = go (over all (p.Get' field shape all.row) i.Any)
ask_bound inner selector sending shape all go (b.One key (kinds.Set field)) = go (over all (p.Set' field shape all.row) i.Any)
ask_bound inner selector sending shape all go (b.One key kinds.Source) = inner key all.infos all.next (ask_called key shape all go)

abbrev pub ask_nothing : AskInner
ask_nothing key infos n go = go None

-- the place of a resend is asked for where it stays open
abbrev pub ask_resend : MethodKey → List Seat → ℕ → (Resolved → Course) → Course
ask_resend method seats n go =
    ask_bind method.selector (map info_of seats) (Some method) (ask_bound ask_nothing method.selector
    (λ go'. ask_heads method.selector (λ heads. go' (p.Resend' method (position_from (λ head. same_method head.0 method) 0 heads) (shape_of seats)
    (seats_row seats))))
    (shape_of seats) (seat_parts seats n) go)

-- the needs of a closure's text
abbrev mutual
  pub ask_needs : x.Expr → (List Need → Course) → Course
  ask_needs (x.Int n) go = go []
  ask_needs (x.Text bytes) go = go []
  ask_needs (x.Name name) go = go (OfName name ∷ [])
  ask_needs (x.Send' selector shape row) go = ask_needs_of_parts row go
  ask_needs (x.Closure' formals shape row) go = ask_needs_of_body row go
  ask_needs (x.New' class shape row) go = ask_fault class (field_names row) (λ o. elim o [ None ↦ ask_needs_of_fields row go | Some error ↦ go [] ])
  ask_needs x.Resend go = go (OfFormals ∷ [])

  pub ask_needs_of_parts : {n : _} → x.Row_of-Expr n → (List Need → Course) → Course
  ask_needs_of_parts x.end_of-Expr go = go []
  ask_needs_of_parts (x.more_of-Expr part rest) go = ask_needs part (λ own. ask_needs_of_parts rest (λ others. go (own ++ others)))

  pub ask_needs_of_fields : {n : _} → x.Row_of-Expr-New-1-2 n → (List Need → Course) → Course
  ask_needs_of_fields x.end_of-Expr-New-1-2 go = go []
  ask_needs_of_fields (x.more_of-Expr-New-1-2 name part rest) go = ask_needs part (λ own. ask_needs_of_fields rest (λ others. go (own ++ others)))

  pub ask_needs_of_body : {n : _} → x.Row_of-Stmt n → (List Need → Course) → Course
  ask_needs_of_body x.end_of-Stmt go = go []
  ask_needs_of_body (x.more_of-Stmt own rest) go = ask_needs_of_statement own (λ first. ask_needs_of_body rest (λ others. go (first ++ others)))

  pub ask_needs_of_statement : t.Stmt → (List Need → Course) → Course
  ask_needs_of_statement (t.Let name part) go = ask_needs part go
  ask_needs_of_statement (t.LetVar name part) go = ask_needs part go
  ask_needs_of_statement (t.Set name part) go = ask_needs part (λ own. go (OfName name ∷ own))
  ask_needs_of_statement (t.Do part) go = ask_needs part go
  ask_needs_of_statement (t.Back part) go = ask_needs part go

abbrev pub key_by : Option FieldKey → Bytes → Bytes → FieldKey
key_by o class name = elim o [ Some key ↦ key | None ↦ record { name = name; specialiser = class } ]

module _ (method : MethodKey) (inner : AskInner) where
  abbrev mutual
    pub ask_expression : Names → ℕ → ℕ → x.Expr → (Resolved → Course) → Course
    ask_expression scope block n (x.Int number) go = go (leaf (p.Int number) (exactly (codes "int")) n)
    ask_expression scope block n (x.Text bytes) go = go (leaf (p.Text bytes) (exactly (codes "string")) n)
    ask_expression scope block n (x.Name name) go = ask_named name (bound name scope.names) n go
    ask_expression scope block n (x.Send' selector shape row) go =
        ask_parts scope block n row (λ all. ask_bind selector all.infos None
        (ask_bound inner selector (λ go'. go' (p.Send' selector shape all.row)) shape all go))
    ask_expression scope block n (x.Closure' formals shape row) go =
        ask_needs_of_body row (λ us. ask_body (closed_scope (captures scope us) formals scope) (suc block) (length (captures scope us) + length formals) row
        (λ all.
        go (closed block n (captures scope us) formals all)))
    ask_expression scope block n (x.New' class shape row) go =
        ask_fault class (field_names row) (λ o. elim o [
          | None ↦ ask_fields scope class block n row (λ all. go (resolved.made None class n shape all))
          | Some error ↦ go (failing error n)
        ])
    ask_expression scope block n x.Resend go = ask_resend method scope.formals n go

    pub ask_parts : Names → ℕ → ℕ → {m : _} → x.Row_of-Expr m → (Parts m → Course) → Course
    ask_parts scope block n x.end_of-Expr go = go (no_parts n)
    ask_parts scope block n (x.more_of-Expr part rest) go =
        ask_expression scope block n part (λ first. ask_parts scope (block + length first.blocks) first.next rest (λ others. go (more_parts first others)))

    pub ask_fields : Names → Bytes → ℕ → ℕ → {m : _} → x.Row_of-Expr-New-1-2 m → (Fields m → Course) → Course
    ask_fields scope class block n x.end_of-Expr-New-1-2 go = go (no_fields n)
    ask_fields scope class block n (x.more_of-Expr-New-1-2 name part rest) go =
        ask_field class name (λ o. ask_expression scope block n part (λ first.
        ask_fields scope class (block + length first.blocks) first.next rest (λ others. go (more_fields (key_by o class name) first others))))

    pub ask_body : Names → ℕ → ℕ → {m : _} → x.Row_of-Stmt m → (Statements → Course) → Course
    ask_body scope block n x.end_of-Stmt go = go (no_statements n)
    ask_body scope block n (x.more_of-Stmt own rest) go =
        ask_statement scope block n own (λ first. ask_body first.scope (block + length first.blocks) first.next rest
        (λ others. go (more_statements first others)))

    pub ask_statement : Names → ℕ → ℕ → t.Stmt → (Stated → Course) → Course
    ask_statement scope block n (t.Let name part) go = ask_expression scope block (suc n) part (λ own. go (let_of name n scope own))
    ask_statement scope block n (t.LetVar name part) go = ask_expression scope block (suc n) part (λ own. go (let_var_of name n scope own))
    ask_statement scope block n (t.Set name part) go = ask_expression scope block n part (λ own. go (set_of (seat_number (bound name scope.names)) scope own))
    ask_statement scope block n (t.Do part) go = ask_expression scope block n part (λ own. go (do_of scope own))
    ask_statement scope block n (t.Back part) go = ask_expression scope block n part (λ own. go (back_of scope own))

  abbrev pub ask_statements : Names → ℕ → ℕ → List t.Stmt → (Statements → Course) → Course
  ask_statements scope block n [] go = go (no_statements n)
  ask_statements scope block n (own ∷ rest) go =
      ask_statement scope block n own (λ first. ask_statements first.scope (block + length first.blocks) first.next rest
      (λ others. go (more_statements first others)))

-- ---- inlining

abbrev pub ask_inlined : AskInner → MethodKey → Option Source → List Info → ℕ → (Option Inlined → Course) → Course
ask_inlined inner key None infos n go = go None
ask_inlined inner key (Some own) infos n go =
    ask_statements key inner (formal_scope n own.formals infos) 1 (n + length own.formals) own.body.0 (λ all.
    go (Some (record { xs = numbers n (length own.formals); acts = all.acts; info = all.info; next = all.next })))

abbrev pub ask_inner : ℕ → AskInner
ask_inner zero = ask_nothing
ask_inner (suc depth) = λ key infos n go. ask_inline key (λ o. ask_inlined (ask_inner depth) key o infos n go)

-- ---- what is known of arguments

abbrev pub ask_formal : Bytes → (Info → Course) → Course
ask_formal x go = if bytes_eq x any then go i.Any else ask_base x (λ o. go (elim o [ Some y ↦ cone_of y | None ↦ i.Any ]))

abbrev pub ask_formals : List Bytes → (List Info → Course) → Course
ask_formals [] go = go []
ask_formals (x ∷ xs) go = ask_formal x (λ info. ask_formals xs (λ infos. go (info ∷ infos)))

-- nothing is asked of a clone's own position
abbrev pub ask_others : ℕ → Info → List Bytes → (List Info → Course) → Course
ask_others position info [] go = go []
ask_others zero info (x ∷ xs) go = ask_formals xs (λ infos. go (info ∷ infos))
ask_others (suc position) info (x ∷ xs) go = ask_formal x (λ own. ask_others position info xs (λ infos. go (own ∷ infos)))

abbrev pub ask_infos : MethodKey → Variant → (List Info → Course) → Course
ask_infos key c.General go = ask_formals key.specialisers go
ask_infos key (c.Clone position class) go = ask_others position (i.Exact class) key.specialisers go

-- ---- the tree

abbrev pub ask_source : MethodKey → Variant → Option Source → Course
ask_source key variant None = gives (record { blocks = [] })
ask_source key variant (Some own) =
    ask_infos key variant (λ infos. ask_statements key (ask_inner resolved.depth) (formal_scope 0 own.formals infos) 1 (length own.formals) own.body.0 (λ all.
    gives (record { blocks = record { locals = all.next; captures = 0; formals = infos; acts = all.acts } ∷ all.blocks })))

abbrev pub ask_tree : MethodKey → Variant → Course
ask_tree key variant = ask_source_of key (ask_source key variant)

-- ---- what is promised of it

-- Over any answers it comes to the tree that is defined over them; and where two programs give the same answers to what both read, they have the same
-- tree and read the same.
pub record TreesAreRead : Type 0 where
  pub gives : (answer : Answers) (key : MethodKey) (variant : Variant) → outcome (ask_tree key variant) answer ≡ Gives (resolved.tree (told answer) key variant)
  pub alone : (first second : Answers) (key : MethodKey) (variant : Variant) → SameAnswers (ask_tree key variant) first second →
      (resolved.tree (told second) key variant ≡ resolved.tree (told first) key variant) ×
      (asked (ask_tree key variant) second ≡ asked (ask_tree key variant) first)
