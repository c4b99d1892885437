-- Trees and runs of some small programs, computed.
use Rattle.std.proofs.Common.{◌≡◌, ℕ, true, false, List, [], ◌∷◌, ◌++◌, Option, Some, None, map, length, refl}
use Rattle.std.specs.Prelude.{pos, codes}
use Rattle.std.specs.Fmt.{signed_decimal}
use mathlib.Core.Former.{this, list_count}
use Rattle.vx_syntax.specs.declared.expr.Expr.{Expr}
use Rattle.vx_syntax.specs.declared.expr.Expr as x
use Rattle.vx_syntax.specs.declared.expr.Stmt.{Stmt}
use Rattle.vx_syntax.specs.declared.expr.Stmt.TheVariants as t
use Rattle.vx_syntax.specs.declared.decl.Decl.{Decl}
use Rattle.vx_syntax.specs.Expressions.{Bytes}
use Rattle.vx_syntax.specs.Declarations.{any, method_of}
use Rattle.vx_program.specs.Prelude.{primitives, child, prelude_objects}
use Rattle.vx_model.specs.declared.report.Report.TheVariants as r
use Rattle.vx_names.specs.declared.key.MethodKey.{MethodKey}
use Rattle.vx_node.specs.declared.node.Variant.TheVariants as variant
use Rattle.vx_node.specs.declared.node.Info.TheVariants as i
use Rattle.vx_compilation.specs.declared.tree.Part as p
use Rattle.vx_compilation.specs.declared.tree.Act as a
use Rattle.std.specs.Prelude.{Bool, if◌then◌else◌, slice_get}
use Rattle.vx_model.specs.declared.report.RunError.TheVariants as e
use Rattle.vx_compilation.specs.Machine as machine
use Rattle.vx_model.specs.declared.report.Report.{Report}
use Rattle.vx_compilation.specs.Machine.{run_report}
use Rattle.vx_compilation.specs.Code.{block_code, codes_of}
use Rattle.vx_compilation.specs.Questions.{Asked}
use Rattle.vx_syntax.specs.declared.expr.Body.{Body}
use Rattle.vx_node.specs.declared.node.NodeId.{NodeId}
use Rattle.vx_node.specs.declared.node.NodeId.TheVariants as node
use Rattle.vx_node.specs.declared.node.Fact.TheVariants as fact
use Rattle.vx_node.specs.declared.node.Filter.TheVariants as filter
use Rattle.vx_node.specs.declared.node.Info.{Info}
use Rattle.vx_node.specs.declared.node.Variant.{Variant}
use Rattle.vx_node.specs.declared.answer.Answer.TheVariants as answers
use Rattle.vx_node.specs.Traces.{Answers}
use Rattle.vx_node.specs.Asking as asks
use Rattle.vx_compilation.specs.TreeAsking.{ask_tree}
use Rattle.vx_compilation.specs.Resolved.{tree}
use Rattle.vx_model.specs.Kinds.{Source, source}
use Rattle.vx_compilation.specs.Compiled.{world, begun, dispatch, main_sent, asked, code_report}

-- ---- trees

-- a list as the rows of trees hold it
abbrev pub units : {A : Type 0} → List A → List (Unit {0})
units [] = []
units (a ∷ rest) = tt ∷ units rest

abbrev pub row : (parts : List Expr) → x.Row_of-Expr (list_count (this {0}) (units parts) 0)
row [] = x.end_of-Expr
row (part ∷ rest) = x.more_of-Expr part (row rest)

abbrev pub row_of : (body : List Stmt) → x.Row_of-Stmt (list_count (this {0}) (units body) 0)
row_of [] = x.end_of-Stmt
row_of (statement ∷ rest) = x.more_of-Stmt statement (row_of rest)

abbrev pub field_row : (parts : List (Bytes × Expr)) → x.Row_of-Expr-New-1-2 (list_count (this {0}) (units parts) 0)
field_row [] = x.end_of-Expr-New-1-2
field_row (part ∷ rest) = x.more_of-Expr-New-1-2 part.0 part.1 (field_row rest)

abbrev pub n : ℕ → Expr
n k = x.Int (pos k)

abbrev pub send : Bytes → List Expr → Expr
send name arguments = x.Send' (record { name = name; arity = length arguments }) (units arguments) (row arguments)

abbrev pub block : List Bytes → List Stmt → Expr
block formals body = x.Closure' formals (units body) (row_of body)

abbrev pub new : Bytes → List (Bytes × Expr) → Expr
new class parts = x.New' class (units parts) (field_row parts)

abbrev pub method : Bytes → List Bytes → List Bytes → List Stmt → Decl
method name formals specialisers body = method_of name (map Some formals) specialisers body

abbrev pub main : List Stmt → Decl
main body = method (codes "main") [] [] body

abbrev pub name : Bytes → Expr
name = x.Name

abbrev pub one : Bytes → Expr → Expr
one message a = send message (a ∷ [])

abbrev pub two : Bytes → Expr → Expr → Expr
two message a b = send message (a ∷ b ∷ [])

abbrev pub plus : Expr → Expr → Expr
plus = two (codes "+")

abbrev pub eval : Expr → Expr
eval = one (codes "eval")

abbrev pub print : Expr → Stmt
print part = t.Do (one (codes "print") part)

-- a line of digits
abbrev pub line : ℕ → Bytes
line k = signed_decimal (pos k)

abbrev pub main_key : MethodKey
main_key = record { selector = record { name = codes "main"; arity = 0 }; specialisers = [] }

abbrev pub two_parts : p.Part → p.Part → p.Row_of-Part 2
two_parts one other = p.more_of-Part one (p.more_of-Part other p.end_of-Part)

abbrev pub one_part : p.Part → p.Row_of-Part 1
one_part one = p.more_of-Part one p.end_of-Part

-- method main() { print(1 + 2) }
abbrev pub sum : List Decl
sum = prelude_objects ++ main (print (plus (n 1) (n 2)) ∷ []) ∷ []

sum_tree : tree (asked sum) main_key variant.General ≡ record {
  blocks = record {
    locals = 0;
    captures = 0;
    formals = [];
    acts = a.Do (p.Prim' 10 (tt ∷ []) (one_part (p.Prim' 0 (tt ∷ tt ∷ []) (two_parts (p.Int (pos 1)) (p.Int (pos 2)))))) ∷ [];
  } ∷ [];
}
unfolding asked primitives
sum_tree = refl

-- the send of main, two numbers, two primitives and the end
sum_runs : code_report sum 6 ≡ r.End (line 3 ∷ [])
unfolding asked code_report primitives
sum_runs = refl

sum_with_one_less : code_report sum 5 ≡ r.Unfinished (line 3 ∷ [])
unfolding asked code_report primitives
sum_with_one_less = refl

-- method main() { let x := 3; let var y := x; eval(&(z) { y := y + z }, x); print(y) }
abbrev pub closing : List Decl
closing = prelude_objects ++ main (
    t.Let (codes "x") (n 3) ∷ t.LetVar (codes "y") (name (codes "x")) ∷
    t.Do (two (codes "eval") (block (codes "z" ∷ []) (t.Set (codes "y") (plus (name (codes "y")) (name (codes "z"))) ∷ [])) (name (codes "x"))) ∷
    print (name (codes "y")) ∷ []) ∷ []

closing_tree : tree (asked closing) main_key variant.General ≡ record {
  blocks = record {
    locals = 2;
    captures = 0;
    formals = [];
    acts = a.Let 0 (p.Int (pos 3)) ∷ a.LetVar 1 (p.Local 0) ∷
        a.Do (p.Prim' 13 (tt ∷ tt ∷ []) (two_parts (p.Closure 1 (1 ∷ [])) (p.Local 0))) ∷
        a.Do (p.Send' (record { name = codes "print"; arity = 1 }) (tt ∷ []) (one_part (p.Cell 1))) ∷ [];
  } ∷ record {
    locals = 2;
    captures = 1;
    formals = i.Any ∷ [];
    acts = a.Set 0 (p.Send' (record { name = codes "+"; arity = 2 }) (tt ∷ tt ∷ []) (two_parts (p.Cell 0) (p.Local 1))) ∷ [];
  } ∷ [];
}
unfolding asked primitives
closing_tree = refl

closing_runs : code_report closing 30 ≡ r.End (line 6 ∷ [])
unfolding asked code_report primitives
closing_runs = refl

-- what is asked, with the methods that are inlined given by a test on keys, since sizes are folds and don't compute
abbrev pub asked_with : (MethodKey → Bool) → List Decl → Asked
asked_with test program = record (asked program) { inline = λ key. if test key then source program key else None }

abbrev pub key : Bytes → List Bytes → MethodKey
key name specialisers = record { selector = record { name = name; arity = length specialisers }; specialisers = specialisers }

-- method g(a) { a + a }   method f(b) { g(b) + 1 }   method main() { let x := 3; print(f(x)) }
abbrev pub nested : List Decl
nested = prelude_objects ++
    method (codes "f") (codes "b" ∷ []) (any ∷ []) (t.Do (plus (one (codes "g") (name (codes "b"))) (n 1)) ∷ []) ∷
    method (codes "g") (codes "a" ∷ []) (any ∷ []) (t.Do (plus (name (codes "a")) (name (codes "a"))) ∷ []) ∷
    main (t.Let (codes "x") (n 3) ∷ print (one (codes "f") (name (codes "x"))) ∷ []) ∷ []

-- two deep, with an info that goes through both
nested_tree : tree (asked_with (λ key. true) nested) main_key variant.General ≡ record {
  blocks = record {
    locals = 3;
    captures = 0;
    formals = [];
    acts = a.Let 0 (p.Int (pos 3)) ∷ a.Do (p.Prim' 10 (tt ∷ []) (one_part (
        p.Inlined' (tt ∷ []) (one_part (p.Local 0)) (1 ∷ []) (tt ∷ []) (p.more_of-Act (a.Do (p.Prim' 0 (tt ∷ tt ∷ []) (two_parts
        (p.Inlined' (tt ∷ []) (one_part (p.Local 1)) (2 ∷ []) (tt ∷ [])
        (p.more_of-Act (a.Do (p.Prim' 0 (tt ∷ tt ∷ []) (two_parts (p.Local 2) (p.Local 2)))) p.end_of-Act))
        (p.Int (pos 1))))) p.end_of-Act)))) ∷ [];
  } ∷ [];
}
unfolding asked primitives
nested_tree = refl

-- its code: each inlined call leaves its mark
nested_code : map (λ own. (block_code 0 own).code) (tree (asked_with (λ key. true) nested) main_key variant.General).blocks ≡
    (machine.PushInt (pos 3) ∷ machine.Store 0 ∷ machine.Load 0 ∷ machine.Mark ∷ machine.Store 1 ∷ machine.Load 1 ∷ machine.Mark ∷ machine.Store 2 ∷
    machine.Load 2 ∷ machine.Load 2 ∷ machine.Perform 0 2 ∷ machine.PushInt (pos 1) ∷ machine.Perform 0 2 ∷
    machine.Perform 10 1 ∷ machine.Leave ∷ []) ∷ []
unfolding asked primitives
nested_code = refl

-- object base   object sub isa base   method m(x@base, @any) { x }   method m(y@sub, @any) { eval({ resend(...) }) }
abbrev pub resends : List Decl
resends = prelude_objects ++
    child (codes "base") any ∷ child (codes "sub") (codes "base") ∷
    method_of (codes "m") (Some (codes "x") ∷ None ∷ []) (codes "base" ∷ any ∷ []) (t.Do (name (codes "x")) ∷ []) ∷
    method_of (codes "m") (Some (codes "y") ∷ None ∷ []) (codes "sub" ∷ any ∷ []) (t.Do (eval (block [] (t.Do x.Resend ∷ []))) ∷ []) ∷ []

-- a closure with a resend captures all formals, also one without a name; a resend that is bound is a call, and never inlined
resends_tree : tree (asked_with (λ key. true) resends) (key (codes "m") (codes "sub" ∷ any ∷ [])) variant.General ≡ record {
  blocks = record {
    locals = 2;
    captures = 0;
    formals = i.Cone (codes "sub") ∷ i.Any ∷ [];
    acts = a.Do (p.Prim' 12 (tt ∷ []) (one_part (p.Closure 1 (0 ∷ 1 ∷ [])))) ∷ [];
  } ∷ record {
    locals = 2;
    captures = 2;
    formals = [];
    acts = a.Do (p.Call' (key (codes "m") (codes "base" ∷ any ∷ [])) variant.General (tt ∷ tt ∷ []) (two_parts (p.Local 0) (p.Local 1))) ∷ [];
  } ∷ [];
}
unfolding asked primitives
resends_tree = refl

-- method main() { let x := 1; let y := 2; eval({ object isa int { f := x }; y }) }
abbrev pub failing : List Decl
failing = prelude_objects ++ main (
    t.Let (codes "x") (n 1) ∷ t.Let (codes "y") (n 2) ∷
    t.Do (eval (block [] (t.Do (new (codes "int") ((codes "f", name (codes "x")) ∷ [])) ∷ t.Do (name (codes "y")) ∷ []))) ∷ []) ∷ []

-- an object that can't be made has no parts, so nothing of them is captured
failing_tree : tree (asked_with (λ key. true) failing) main_key variant.General ≡ record {
  blocks = record {
    locals = 2;
    captures = 0;
    formals = [];
    acts = a.Let 0 (p.Int (pos 1)) ∷ a.Let 1 (p.Int (pos 2)) ∷ a.Do (p.Prim' 12 (tt ∷ []) (one_part (p.Closure 1 (1 ∷ [])))) ∷ [];
  } ∷ record {
    locals = 1;
    captures = 1;
    formals = [];
    acts = a.Do (p.Fail' (e.UnknownObject (codes "int")) [] p.end_of-Part) ∷ a.Do (p.Local 0) ∷ [];
  } ∷ [];
}
unfolding asked primitives
failing_tree = refl

-- object shape   object disc isa shape   method area(x@shape) { 1 }   method area(x@disc) { 2 }   method show(s@shape) { print(area(s)) }
abbrev pub shapes : List Decl
shapes = prelude_objects ++
    child (codes "disc") (codes "shape") ∷ child (codes "shape") any ∷
    method (codes "area") (codes "x" ∷ []) (codes "disc" ∷ []) (t.Do (n 2) ∷ []) ∷
    method (codes "area") (codes "x" ∷ []) (codes "shape" ∷ []) (t.Do (n 1) ∷ []) ∷
    method (codes "show") (codes "s" ∷ []) (codes "shape" ∷ []) (print (one (codes "area") (name (codes "s"))) ∷ []) ∷ []

-- the send is open for all shapes, and bound for each class
shapes_clones : (asked shapes).clones (key (codes "show") (codes "shape" ∷ [])) ≡ Some (0, codes "disc" ∷ codes "shape" ∷ [])
unfolding asked primitives
shapes_clones = refl

-- the clone for a class calls that class's method
disc_tree : tree (asked_with (λ key. false) shapes) (key (codes "show") (codes "shape" ∷ [])) (variant.Clone 0 (codes "disc")) ≡ record {
  blocks = record {
    locals = 1;
    captures = 0;
    formals = i.Exact (codes "disc") ∷ [];
    acts = a.Do (p.Send' (record { name = codes "print"; arity = 1 }) (tt ∷ []) (one_part (
        p.Call' (key (codes "area") (codes "disc" ∷ [])) variant.General (tt ∷ []) (one_part (p.Local 0))))) ∷ [];
  } ∷ [];
}
unfolding asked primitives
disc_tree = refl

-- the runs of trees with these methods inlined
abbrev pub runs : (MethodKey → Bool) → List Decl → ℕ → Report
runs test program n =
    run_report (world program) (codes_of (λ code number. slice_get (tree (asked_with test program) code.method code.variant).blocks number)) (begun program)
    (dispatch program (begun program).objects main_sent []) n

-- the send of main, fifteen instructions of which two are marks
nested_runs : runs (λ key. true) nested 16 ≡ r.End (line 7 ∷ [])
unfolding asked primitives
nested_runs = refl

nested_with_one_less : runs (λ key. true) nested 15 ≡ r.Unfinished (line 7 ∷ [])
unfolding asked primitives
nested_with_one_less = refl

-- method out(f) { eval(f); 1 }   method main() { out({ ^ 5 }); print(2) }
abbrev pub leaving : List Decl
leaving = prelude_objects ++
    main (t.Do (one (codes "out") (block [] (t.Back (n 5) ∷ []))) ∷ print (n 2) ∷ []) ∷
    method (codes "out") (codes "f" ∷ []) (any ∷ []) (t.Do (eval (name (codes "f"))) ∷ t.Do (n 1) ∷ []) ∷ []

-- a return leaves its home activation, also through a method that is inlined
leaving_runs : runs (λ key. true) leaving 20 ≡ r.End []
unfolding asked primitives
leaving_runs = refl

leaving_runs_called : runs (λ key. false) leaving 20 ≡ r.End []
unfolding asked primitives
leaving_runs_called = refl

-- a message that goes by a clone: object shape, disc below it, and method main() { show(disc) }
abbrev pub shown : List Decl
shown = shapes ++ main (t.Do (one (codes "show") (name (codes "disc"))) ∷ []) ∷ []

shown_runs : runs (λ key. false) shown 12 ≡ r.End (line 2 ∷ [])
unfolding asked primitives
shown_runs = refl

-- ---- what is read

abbrev text_of : Option Source → Option (List (Option Bytes) × Body)
text_of None = None
text_of (Some own) = Some (own.formals, own.body)

-- what passes are told, as answers of nodes
abbrev given : Asked → Answers
given told (node.Fact (fact.There x)) = answers.There (told.there x)
given told (node.Fact (fact.Heads selector)) = answers.Heads (told.heads selector)
given told (node.Fact (fact.Body key)) = answers.Body (text_of (told.body key))
given told (node.Filter (filter.Base x)) = answers.Base (told.base x)
given told (node.Filter (filter.Field class name)) = answers.Field (told.field class name)
given told (node.Filter (filter.Inline key)) = answers.Inline (text_of (told.inline key))
given told (node.Filter (filter.Bind selector infos below)) = answers.Bind (told.bind selector infos below)
given told (node.Filter (filter.Clones key)) = answers.Clones (told.clones key)
given told other = answers.Unit []

abbrev reads : Asked → MethodKey → Variant → List NodeId
reads told key variant = asks.asked (ask_tree key variant) (given told)

abbrev body_of : MethodKey → NodeId
body_of key = node.Fact (fact.Body key)

abbrev bind_of : Bytes → List Info → NodeId
bind_of name infos = node.Filter (filter.Bind (record { name = name; arity = length infos }) infos None)

sum_reads : reads (asked sum) main_key variant.General ≡
    body_of main_key ∷ bind_of (codes "+") (i.Exact (codes "int") ∷ i.Exact (codes "int") ∷ []) ∷ bind_of (codes "print") (i.Exact (codes "int") ∷ []) ∷ []
unfolding asked primitives
sum_reads = refl

-- the base of a clone's specialiser is not read; clones are, where a class is known
disc_reads : reads (asked_with (λ key. false) shapes) (key (codes "show") (codes "shape" ∷ [])) (variant.Clone 0 (codes "disc")) ≡
    body_of (key (codes "show") (codes "shape" ∷ [])) ∷ bind_of (codes "area") (i.Exact (codes "disc") ∷ []) ∷
    node.Filter (filter.Inline (key (codes "area") (codes "disc" ∷ []))) ∷ node.Filter (filter.Clones (key (codes "area") (codes "disc" ∷ []))) ∷
    bind_of (codes "print") (i.Any ∷ []) ∷ []
unfolding asked primitives
disc_reads = refl

-- a constructor that fails reads no field
failing_reads : reads (asked_with (λ key. true) failing) main_key variant.General ≡
    body_of main_key ∷ node.Fact (fact.There (codes "int")) ∷ node.Fact (fact.There (codes "int")) ∷
    bind_of (codes "eval") (i.Exact (codes "closure") ∷ []) ∷ []
unfolding asked primitives
failing_reads = refl
