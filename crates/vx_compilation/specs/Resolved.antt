-- The tree of a method, over what is asked: each name is a local of its block or an object, each send is bound where the program tells its method, and
-- small methods are inlined, at most two deep.
use Rattle.std.specs.Prelude.{ℕ, zero, suc, ◌+◌, ◌==◌, Bool, true, false, not, ◌&&◌, if◌then◌else◌, List, [], ◌∷◌, ◌++◌, filter, length, map, codes}
use Rattle.std.specs.Prelude.{Option, Some, None, slice_get, slice_set}
use Rattle.std.specs.List.{position_from, position_or_len}
use Rattle.std.specs.Str.{bytes_eq}
use Rattle.vx_names.specs.declared.key.Selector.{Selector}
use Rattle.vx_names.specs.declared.key.MethodKey.{MethodKey}
use Rattle.vx_names.specs.declared.key.FieldKey.{FieldKey}
use Rattle.vx_syntax.specs.declared.expr.Expr as x
use Rattle.vx_syntax.specs.declared.expr.Stmt as t
use Rattle.vx_syntax.specs.Expressions.{Bytes}
use Rattle.vx_program.specs.Prelude.{sealed}
use Rattle.vx_program.specs.Program.{is_name_of}
use Rattle.vx_model.specs.declared.report.RunError.{RunError}
use Rattle.vx_model.specs.declared.report.RunError.TheVariants as e
use Rattle.vx_node.specs.declared.node.Info.{Info}
use Rattle.vx_node.specs.declared.node.Info.TheVariants as i
use Rattle.vx_node.specs.declared.kind.Kind.TheVariants as kinds
use Rattle.vx_node.specs.declared.answer.Bound.{Bound}
use Rattle.vx_node.specs.declared.answer.Bound.TheVariants as b
use Rattle.vx_node.specs.declared.answer.Stands.{Stands}
use Rattle.vx_node.specs.declared.answer.Stands.TheVariants as h
use Rattle.vx_node.specs.declared.node.Variant.{Variant}
use Rattle.vx_node.specs.declared.node.Variant.TheVariants as c
use Rattle.vx_compilation.specs.declared.tree.Tree.{Tree}
use Rattle.vx_compilation.specs.declared.tree.TreeBlock.{TreeBlock}
use Rattle.vx_compilation.specs.declared.tree.Part as p
use Rattle.vx_compilation.specs.declared.tree.Act as a
use Rattle.vx_model.specs.Lookup.{same_method}
use Rattle.vx_model.specs.Values.{unnamed}
use Rattle.vx_model.specs.Meaning.{field_names}
use Rattle.vx_model.specs.Kinds.{Source}
use Rattle.vx_compilation.specs.Questions.{Asked}
use Rattle.vx_compilation.specs.Infos.{formal_info}
use mathlib.Core.Former.{Count, none_left, one_more, this, list_count}

-- ---- names in scope

-- a local of the block: a constant, of which something is known, or a variable
pub data Seat : Type 0 where
  Constant : (local : ℕ) (info : Info) → Seat
  Variable : (local : ℕ) → Seat

-- the names in scope, the innermost first, and the formals of the method, which a resend passes on
pub record Names : Type 0 where
  pub names : List (Bytes × Seat)
  pub formals : List Seat

abbrev pub bound : Bytes → List (Bytes × Seat) → Option Seat
bound name [] = None
bound name (own ∷ rest) = if bytes_eq own.0 name then Some own.1 else bound name rest

abbrev pub local_of : Seat → ℕ
local_of (Constant local info) = local
local_of (Variable local) = local

abbrev pub info_of : Seat → Info
info_of (Constant local info) = info
info_of (Variable local) = i.Any

abbrev pub seat_part : Seat → p.Part
seat_part (Constant local info) = p.Local local
seat_part (Variable local) = p.Cell local

-- the formals that have names, in locals from a number on
abbrev pub formal_names : ℕ → List (Option Bytes) → List Info → List (Bytes × Seat)
formal_names n [] infos = []
formal_names n (formal ∷ formals) [] = []
formal_names n (None ∷ formals) (info ∷ infos) = formal_names (suc n) formals infos
formal_names n (Some name ∷ formals) (info ∷ infos) = (name, Constant n info) ∷ formal_names (suc n) formals infos

abbrev pub formal_seats : ℕ → List Info → List Seat
formal_seats n [] = []
formal_seats n (info ∷ infos) = Constant n info ∷ formal_seats (suc n) infos

abbrev pub in_scope : Bytes → Seat → Names → Names
in_scope name seat scope = record { names = (name, seat) ∷ scope.names; formals = scope.formals }

-- ---- what resolution gives

-- an expression, what is known of it, the next local and the blocks of its closures
pub record Resolved : Type 0 where
  pub part : p.Part
  pub info : Info
  pub next : ℕ
  pub blocks : List TreeBlock

-- parts in order
pub record Parts (n : Count) : Type 0 where
  pub row : p.Row_of-Part n
  pub infos : List Info
  pub next : ℕ
  pub blocks : List TreeBlock

-- parts that are put into fields
pub record Fields (n : Count) : Type 0 where
  pub row : p.Row_of-Part-New-1-2 n
  pub next : ℕ
  pub blocks : List TreeBlock

-- a statement, and what is in scope behind it
pub record Stated : Type 0 where
  pub act : a.Act
  pub info : Info
  pub scope : Names
  pub next : ℕ
  pub blocks : List TreeBlock

-- statements, and what is known of the value of the last
pub record Statements : Type 0 where
  pub acts : List a.Act
  pub info : Info
  pub next : ℕ
  pub blocks : List TreeBlock

-- a body in place of a call: the locals of its formals, and its statements
pub record Inlined : Type 0 where
  pub xs : List ℕ
  pub acts : List a.Act
  pub info : Info
  pub next : ℕ

-- what stands in place of a call of a method, with arguments of which this is known, at a next local
abbrev pub Inner : Type 0
Inner = MethodKey → List Info → ℕ → Option Inlined

abbrev pub nothing : Inner
nothing key infos n = None

abbrev pub exactly : Bytes → Info
exactly x = i.Exact x

abbrev pub leaf : p.Part → Info → ℕ → Resolved
leaf part info n = record { part = part; info = info; next = n; blocks = [] }

-- ---- names and constructors

abbrev pub is_plain : Stands → Bool
is_plain h.Nothing = false
is_plain h.Plain = true
is_plain h.Predicate = false

-- an expression without parts that fails
abbrev pub failing : RunError → ℕ → Resolved
failing error n = leaf (p.Fail' error [] p.end_of-Part) i.Any n

-- a local, or the object of the name
abbrev pub named : Asked → Bytes → Option Seat → ℕ → Resolved
named told name (Some seat) n = leaf (seat_part seat) (info_of seat) n
named told name None n =
    if is_plain (told.there name) && not (is_name_of unnamed name) then leaf (p.Object name) (exactly name) n else failing (e.UnknownObject name) n

-- the first of the names for which the class has no field
abbrev pub first_missing : Asked → Bytes → List Bytes → Option RunError
first_missing told class [] = None
first_missing told class (name ∷ names) = elim (told.field class name) [ Some key ↦ first_missing told class names | None ↦ Some (e.NoField name) ]

-- why an object can't be made, if it can't
abbrev pub fault : Asked → Bytes → List Bytes → Option RunError
fault told class names = if is_plain (told.there class) && not (is_name_of sealed class) then first_missing told class names else Some (e.UnknownObject class)

abbrev pub field_key : Asked → Bytes → Bytes → FieldKey
field_key told class name = elim (told.field class name) [ Some key ↦ key | None ↦ record { name = name; specialiser = class } ]

abbrev pub made : Option RunError → Bytes → ℕ → (shape : List (Unit {0})) → Fields (list_count (this {0}) shape 0) → Resolved
made (Some error) class n shape all = failing error n
made None class n shape all = record { part = p.New' class shape all.row; info = exactly class; next = all.next; blocks = all.blocks }

-- ---- sends

-- what a primitive gives
abbrev pub primitive_infos : List Info
primitive_infos =
    exactly (codes "int") ∷ exactly (codes "int") ∷ exactly (codes "int") ∷ exactly (codes "int") ∷ exactly (codes "int") ∷ i.Cone (codes "bool") ∷
    i.Cone (codes "bool") ∷ i.Cone (codes "bool") ∷ exactly (codes "string") ∷ i.Cone (codes "bool") ∷ exactly (codes "nil") ∷ exactly (codes "nil") ∷ []

abbrev pub primitive_info : ℕ → Info
primitive_info number = elim (slice_get primitive_infos number) [ Some info ↦ info | None ↦ i.Any ]

-- the code for a class, where the argument that splits is exactly of it
abbrev pub variant_at : ℕ → List Bytes → Option Info → Variant
variant_at position classes (Some (i.Exact class)) = if is_name_of classes class then c.Clone position class else c.General
variant_at position classes info = c.General

abbrev pub variant_for : List Info → Option (ℕ × List Bytes) → Variant
variant_for infos None = c.General
variant_for infos (Some split) = variant_at split.0 split.1 (slice_get infos split.0)

abbrev pub shape_of : {A : Type 0} → List A → List (Unit {0})
shape_of [] = []
shape_of (own ∷ rest) = tt ∷ shape_of rest

abbrev pub acts_row : (acts : List a.Act) → p.Row_of-Act (list_count (this {0}) (shape_of acts) 0)
acts_row [] = p.end_of-Act
acts_row (act ∷ rest) = p.more_of-Act act (acts_row rest)

-- a part over parts, of which the send was made
abbrev pub over : {n : Count} → Parts n → p.Part → Info → Resolved
over all part info = record { part = part; info = info; next = all.next; blocks = all.blocks }

abbrev pub called : Asked → MethodKey → (shape : List (Unit {0})) → Parts (list_count (this {0}) shape 0) → Option Inlined → Resolved
called told key shape all None = over all (p.Call' key (variant_for all.infos (told.clones key)) shape all.row) i.Any
called told key shape all (Some own) =
    record { part = p.Inlined' shape all.row own.xs (shape_of own.acts) (acts_row own.acts); info = own.info; next = own.next; blocks = all.blocks }

-- a send of a selector, or what stands for it; it stays as it is where more than one method may be found
abbrev pub bound_as : Asked → Inner → Selector → p.Part → (shape : List (Unit {0})) → Parts (list_count (this {0}) shape 0) → Bound → Resolved
bound_as told inner selector sending shape all b.Nobody = over all (p.Fail' (e.NotUnderstood selector) shape all.row) i.Any
bound_as told inner selector sending shape all b.Open = over all sending i.Any
bound_as told inner selector sending shape all (b.One key (kinds.Prim number)) = over all (p.Prim' number shape all.row) (primitive_info number)
bound_as told inner selector sending shape all (b.One key (kinds.Get field)) = over all (p.Get' field shape all.row) i.Any
bound_as told inner selector sending shape all (b.One key (kinds.Set field)) = over all (p.Set' field shape all.row) i.Any
bound_as told inner selector sending shape all (b.One key kinds.Source) = called told key shape all (inner key all.infos all.next)

abbrev pub sent : Asked → Inner → Selector → (shape : List (Unit {0})) → Parts (list_count (this {0}) shape 0) → Resolved
sent told inner selector shape all = bound_as told inner selector (p.Send' selector shape all.row) shape all (told.bind selector all.infos None)

abbrev pub seats_row : (seats : List Seat) → p.Row_of-Part (list_count (this {0}) (shape_of seats) 0)
seats_row [] = p.end_of-Part
seats_row (seat ∷ seats) = p.more_of-Part (seat_part seat) (seats_row seats)

abbrev pub seat_parts : (seats : List Seat) → ℕ → Parts (list_count (this {0}) (shape_of seats) 0)
seat_parts seats n = record { row = seats_row seats; infos = map info_of seats; next = n; blocks = [] }

-- the place of a method among those of its selector
abbrev pub row_of : Asked → MethodKey → Option ℕ
row_of told method = position_from (λ head. same_method head.0 method) 0 (told.heads method.selector)

-- a resend is a send of the formals below the own method, and never inlined
abbrev pub resent : Asked → MethodKey → List Seat → ℕ → Resolved
resent told method seats n =
    bound_as told nothing method.selector (p.Resend' method (row_of told method) (shape_of seats) (seats_row seats)) (shape_of seats) (seat_parts seats n)
    (told.bind method.selector (map info_of seats) (Some method))

-- ---- closures

-- what a text needs of what is around it
pub data Need : Type 0 where
  OfName : (name : Bytes) → Need
  OfFormals : Need

abbrev pub unless : Option RunError → List Need → List Need
unless None needs = needs
unless (Some error) needs = []

-- in the order of the text; an object that can't be made has no parts
abbrev mutual
  pub needs : Asked → x.Expr → List Need
  needs told (x.Int n) = []
  needs told (x.Text bytes) = []
  needs told (x.Name name) = OfName name ∷ []
  needs told (x.Send' selector shape row) = needs_of_parts told row
  needs told (x.Closure' formals shape row) = needs_of_body told row
  needs told (x.New' class shape row) = unless (fault told class (field_names row)) (needs_of_fields told row)
  needs told x.Resend = OfFormals ∷ []

  pub needs_of_parts : Asked → {n : _} → x.Row_of-Expr n → List Need
  needs_of_parts told x.end_of-Expr = []
  needs_of_parts told (x.more_of-Expr part rest) = needs told part ++ needs_of_parts told rest

  pub needs_of_fields : Asked → {n : _} → x.Row_of-Expr-New-1-2 n → List Need
  needs_of_fields told x.end_of-Expr-New-1-2 = []
  needs_of_fields told (x.more_of-Expr-New-1-2 name part rest) = needs told part ++ needs_of_fields told rest

  pub needs_of_body : Asked → {n : _} → x.Row_of-Stmt n → List Need
  needs_of_body told x.end_of-Stmt = []
  needs_of_body told (x.more_of-Stmt own rest) = needs_of_statement told own ++ needs_of_body told rest

  pub needs_of_statement : Asked → t.Stmt → List Need
  needs_of_statement told (t.Let name part) = needs told part
  needs_of_statement told (t.LetVar name part) = needs told part
  needs_of_statement told (t.Set name part) = OfName name ∷ needs told part
  needs_of_statement told (t.Do part) = needs told part
  needs_of_statement told (t.Back part) = needs told part

abbrev pub needs_of : Asked → List t.Stmt → List Need
needs_of told [] = []
needs_of told (own ∷ rest) = needs_of_statement told own ++ needs_of told rest

abbrev pub seat_local : Option Seat → List ℕ
seat_local None = []
seat_local (Some seat) = local_of seat ∷ []

abbrev pub locals_for : Names → Need → List ℕ
locals_for scope (OfName name) = seat_local (bound name scope.names)
locals_for scope OfFormals = map local_of scope.formals

abbrev pub all_locals_for : Names → List Need → List ℕ
all_locals_for scope [] = []
all_locals_for scope (need ∷ rest) = locals_for scope need ++ all_locals_for scope rest

-- each number where it first stands
abbrev pub once : List ℕ → List ℕ
once [] = []
once (x ∷ xs) = x ∷ filter (λ y. not (y == x)) (once xs)

-- the locals that a closure captures, in the order of first use
abbrev pub captures : Names → List Need → List ℕ
captures scope needs = once (all_locals_for scope needs)

abbrev pub place_in : List ℕ → ℕ → ℕ
place_in xs local = position_or_len (λ x. x == local) xs

-- a captured local stands at its place among them
abbrev pub moved : List ℕ → Seat → Seat
moved xs (Constant local info) = Constant (place_in xs local) info
moved xs (Variable local) = Variable (place_in xs local)

abbrev pub moved_name : List ℕ → Bytes × Seat → Bytes × Seat
moved_name xs own = (own.0, moved xs own.1)

abbrev pub unknown : {A : Type 0} → List A → List Info
unknown [] = []
unknown (own ∷ rest) = i.Any ∷ unknown rest

-- the scope in a closure: its formals behind what it captured
abbrev pub closed_scope : List ℕ → List Bytes → Names → Names
closed_scope xs formals scope = record {
  names = formal_names (length xs) (map Some formals) (unknown formals) ++ map (moved_name xs) scope.names;
  formals = map (moved xs) scope.formals;
}

abbrev pub closed : ℕ → ℕ → List ℕ → List Bytes → Statements → Resolved
closed block n xs formals body = record {
  part = p.Closure block xs;
  info = exactly (codes "closure");
  next = n;
  blocks = record { locals = body.next; captures = length xs; formals = unknown formals; acts = body.acts } ∷ body.blocks;
}

-- ---- expressions and statements, where the next block and the next local have these numbers

abbrev pub no_statements : ℕ → Statements
no_statements n = record { acts = []; info = exactly (codes "nil"); next = n; blocks = [] }

abbrev pub last_info : Info → List a.Act → Info → Info
last_info info [] others = info
last_info info (act ∷ rest) others = others

abbrev pub more_statements : Stated → Statements → Statements
more_statements first others =
    record { acts = first.act ∷ others.acts; info = last_info first.info others.acts others.info; next = others.next; blocks = first.blocks ++ others.blocks }

-- a statement, and those behind it, which depend on it
abbrev pub then_statements : Stated → (Stated → Statements) → Statements
then_statements first rest = more_statements first (rest first)

abbrev pub let_of : Bytes → ℕ → Names → Resolved → Stated
let_of name n scope value = record {
  act = a.Let n value.part;
  info = exactly (codes "nil");
  scope = in_scope name (Constant n value.info) scope;
  next = value.next;
  blocks = value.blocks;
}

abbrev pub let_var_of : Bytes → ℕ → Names → Resolved → Stated
let_var_of name n scope value = record {
  act = a.LetVar n value.part;
  info = exactly (codes "nil");
  scope = in_scope name (Variable n) scope;
  next = value.next;
  blocks = value.blocks;
}

abbrev pub seat_number : Option Seat → ℕ
seat_number None = 0
seat_number (Some seat) = local_of seat

abbrev pub set_of : ℕ → Names → Resolved → Stated
set_of local scope value =
    record { act = a.Set local value.part; info = exactly (codes "nil"); scope = scope; next = value.next; blocks = value.blocks }

abbrev pub do_of : Names → Resolved → Stated
do_of scope value = record { act = a.Do value.part; info = value.info; scope = scope; next = value.next; blocks = value.blocks }

abbrev pub back_of : Names → Resolved → Stated
back_of scope value = record { act = a.Back value.part; info = value.info; scope = scope; next = value.next; blocks = value.blocks }

abbrev pub no_parts : ℕ → Parts none_left
no_parts n = record { row = p.end_of-Part; infos = []; next = n; blocks = [] }

abbrev pub no_fields : ℕ → Fields none_left
no_fields n = record { row = p.end_of-Part-New-1-2; next = n; blocks = [] }

abbrev pub more_parts : {n : Count} → Resolved → Parts n → Parts (one_more n)
more_parts first others =
    record { row = p.more_of-Part first.part others.row; infos = first.info ∷ others.infos; next = others.next; blocks = first.blocks ++ others.blocks }

abbrev pub then_parts : {n : Count} → Resolved → (Resolved → Parts n) → Parts (one_more n)
then_parts first rest = more_parts first (rest first)

abbrev pub more_fields : {n : Count} → FieldKey → Resolved → Fields n → Fields (one_more n)
more_fields key first others =
    record { row = p.more_of-Part-New-1-2 key first.part others.row; next = others.next; blocks = first.blocks ++ others.blocks }

abbrev pub then_fields : {n : Count} → FieldKey → Resolved → (Resolved → Fields n) → Fields (one_more n)
then_fields key first rest = more_fields key first (rest first)

module _ (told : Asked) (method : MethodKey) (inner : Inner) where
  abbrev mutual
    pub expression : Names → ℕ → ℕ → x.Expr → Resolved
    expression scope block n (x.Int number) = leaf (p.Int number) (exactly (codes "int")) n
    expression scope block n (x.Text bytes) = leaf (p.Text bytes) (exactly (codes "string")) n
    expression scope block n (x.Name name) = named told name (bound name scope.names) n
    expression scope block n (x.Send' selector shape row) = sent told inner selector shape (parts scope block n row)
    expression scope block n (x.Closure' formals shape row) =
        closed block n (captures scope (needs_of_body told row)) formals
        (body (closed_scope (captures scope (needs_of_body told row)) formals scope) (suc block)
        (length (captures scope (needs_of_body told row)) + length formals) row)
    expression scope block n (x.New' class shape row) = made (fault told class (field_names row)) class n shape (fields scope class block n row)
    expression scope block n x.Resend = resent told method scope.formals n

    pub parts : Names → ℕ → ℕ → {m : _} → x.Row_of-Expr m → Parts m
    parts scope block n x.end_of-Expr = no_parts n
    parts scope block n (x.more_of-Expr part rest) =
        then_parts (expression scope block n part) (λ first. parts scope (block + length first.blocks) first.next rest)

    pub fields : Names → Bytes → ℕ → ℕ → {m : _} → x.Row_of-Expr-New-1-2 m → Fields m
    fields scope class block n x.end_of-Expr-New-1-2 = no_fields n
    fields scope class block n (x.more_of-Expr-New-1-2 name part rest) =
        then_fields (field_key told class name) (expression scope block n part) (λ first. fields scope class (block + length first.blocks) first.next rest)

    pub body : Names → ℕ → ℕ → {m : _} → x.Row_of-Stmt m → Statements
    body scope block n x.end_of-Stmt = no_statements n
    body scope block n (x.more_of-Stmt own rest) =
        then_statements (statement scope block n own) (λ first. body first.scope (block + length first.blocks) first.next rest)

    -- a local is met at its word, before what stands in its expression
    pub statement : Names → ℕ → ℕ → t.Stmt → Stated
    statement scope block n (t.Let name part) = let_of name n scope (expression scope block (suc n) part)
    statement scope block n (t.LetVar name part) = let_var_of name n scope (expression scope block (suc n) part)
    statement scope block n (t.Set name part) = set_of (seat_number (bound name scope.names)) scope (expression scope block n part)
    statement scope block n (t.Do part) = do_of scope (expression scope block n part)
    statement scope block n (t.Back part) = back_of scope (expression scope block n part)

  abbrev pub statements : Names → ℕ → ℕ → List t.Stmt → Statements
  statements scope block n [] = no_statements n
  statements scope block n (own ∷ rest) =
      then_statements (statement scope block n own) (λ first. statements first.scope (block + length first.blocks) first.next rest)

-- ---- inlining

abbrev pub numbers : ℕ → ℕ → List ℕ
numbers n zero = []
numbers n (suc count) = n ∷ numbers (suc n) count

abbrev pub formal_scope : ℕ → List (Option Bytes) → List Info → Names
formal_scope n formals infos = record { names = formal_names n formals infos; formals = formal_seats n infos }

-- the body of a method with its formals in the locals from n on
abbrev pub inlined : Asked → Inner → MethodKey → Option Source → List Info → ℕ → Option Inlined
inlined told inner key None infos n = None
inlined told inner key (Some own) infos n =
    let all = statements told key inner (formal_scope n own.formals infos) 1 (n + length own.formals) own.body.0 in
    Some (record { xs = numbers n (length own.formals); acts = all.acts; info = all.info; next = all.next })

-- in bodies so deep
abbrev pub inner_at : Asked → ℕ → Inner
inner_at told zero = nothing
inner_at told (suc depth) = λ key infos n. inlined told (inner_at told depth) key (told.inline key) infos n

-- ---- methods

abbrev pub depth : ℕ
depth = 2

-- what is known of the arguments
abbrev pub argument_infos : Asked → MethodKey → Variant → List Info
argument_infos told key c.General = map (formal_info told.base) key.specialisers
argument_infos told key (c.Clone position class) = slice_set (map (formal_info told.base) key.specialisers) position (i.Exact class)

abbrev pub source_blocks : Asked → MethodKey → List Info → Option Source → List TreeBlock
source_blocks told key infos None = []
source_blocks told key infos (Some own) =
    let all = statements told key (inner_at told depth) (formal_scope 0 own.formals infos) 1 (length own.formals) own.body.0 in
    record { locals = all.next; captures = 0; formals = infos; acts = all.acts } ∷ all.blocks

-- The tree of a method, or of its clone for a class.
abbrev pub tree : Asked → MethodKey → Variant → Tree
tree told key variant = record { blocks = source_blocks told key (argument_infos told key variant) (told.body key) }
