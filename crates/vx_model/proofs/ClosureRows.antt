-- The meaning of small programs with closures, and with fields of predicates, computed.
use Rattle.std.proofs.Common.{◌≡◌, true, List, [], ◌∷◌, ◌++◌, Some, None, refl}
use Rattle.std.specs.Prelude.{pos, codes}
use denote.Hole.Carrier.{hidden}
use Rattle.vx_syntax.specs.declared.expr.Expr as x
use Rattle.vx_syntax.specs.declared.expr.Expr.TheBlock.{hidden-the_row-Expr-0, hidden-the_row-Stmt-1}
use Rattle.vx_syntax.specs.declared.expr.Stmt.{Stmt}
use Rattle.vx_syntax.specs.declared.expr.Stmt.TheVariants as t
use Rattle.vx_syntax.specs.declared.decl.Decl.{Decl}
use Rattle.vx_syntax.specs.declared.decl.Decl.TheVariants as d
use Rattle.vx_syntax.specs.declared.decl.Start.TheVariants as s
use Rattle.vx_syntax.specs.declared.test.Test.TheBlock.{shape-the_row-Test-0, hidden-the_row-Test-0}
use Rattle.vx_syntax.specs.declared.test.Test.TheVariants as q
use Rattle.vx_syntax.specs.declared.test.Compare.TheVariants as c
use Rattle.vx_syntax.specs.Declarations.{any, method_of, field_key}
use Rattle.vx_program.specs.Prelude.{primitives, child, prelude_objects, choices, repetitions}
use Rattle.vx_model.specs.declared.report.RunError.TheVariants as e
use Rattle.vx_model.specs.declared.report.Report.TheVariants as r
use Rattle.vx_model.specs.Meaning.{meaning, allowance}
use Rattle.vx_model.proofs.SmallTrees.{n, send, block, method, main, name, one, two, plus, eval, print, line, with_choices, if_then}

-- method main() { print(eval(&(a, b) { a - b }, 5, 3)) }
abbrev difference : List Decl
difference = prelude_objects ++ main (print (send (codes "eval") (
    block (codes "a" ∷ codes "b" ∷ []) (t.Do (two (codes "-") (name (codes "a")) (name (codes "b"))) ∷ []) ∷ n 5 ∷ n 3 ∷ [])) ∷ []) ∷ []

-- the calls of main and `eval`, the closure, and `-` in it
formals_are_in_order : meaning difference 4 ≡ r.End (line 2 ∷ [])
unfolding meaning allowance primitives
formals_are_in_order = refl

difference_with_one_less : meaning difference 3 ≡ r.Unfinished []
unfolding meaning allowance primitives
difference_with_one_less = refl

-- method f(a, b, c) { print(a); print(b); print(c) } method f(a @ int, @ int, c) { eval({ resend(...) }) } method main() { f(1, 2, 3) }
abbrev passed_on : List Decl
passed_on = prelude_objects ++ method (codes "f") (codes "a" ∷ codes "b" ∷ codes "c" ∷ []) (any ∷ any ∷ any ∷ [])
    (print (name (codes "a")) ∷ print (name (codes "b")) ∷ print (name (codes "c")) ∷ []) ∷
    method_of (codes "f") (Some (codes "a") ∷ None ∷ Some (codes "c") ∷ []) (codes "int" ∷ codes "int" ∷ any ∷ [])
    (t.Do (eval (block [] (t.Do x.Resend ∷ []))) ∷ []) ∷ main (t.Do (send (codes "f") (n 1 ∷ n 2 ∷ n 3 ∷ [])) ∷ []) ∷ []

-- the calls of main, f and `eval`, the closure, the other f, and `print`
closures_resend_all_arguments : meaning passed_on 6 ≡ r.End (line 1 ∷ line 2 ∷ line 3 ∷ [])
unfolding meaning allowance primitives
closures_resend_all_arguments = refl

resend_with_one_less : meaning passed_on 5 ≡ r.Unfinished []
unfolding meaning allowance primitives
resend_with_one_less = refl

-- method f() { eval({ eval({ ^ 7 }); print(8) }); print(9) } method main() { print(f()) }
abbrev nested : List Decl
nested = prelude_objects ++ method (codes "f") [] []
    (t.Do (eval (block [] (t.Do (eval (block [] (t.Back (n 7) ∷ []))) ∷ print (n 8) ∷ []))) ∷ print (n 9) ∷ []) ∷ main (print (send (codes "f") []) ∷ []) ∷ []

-- the calls of main, f and `eval`, the closure, `eval` in it, and the closure of that
return_passes_closures : meaning nested 6 ≡ r.End (line 7 ∷ [])
unfolding meaning allowance primitives
return_passes_closures = refl

nested_with_one_less : meaning nested 5 ≡ r.Unfinished []
unfolding meaning allowance primitives
nested_with_one_less = refl

-- method main() { loop(&(x) { x }) }: no turn gives a value, and the error says so
abbrev looped : List Decl
looped = prelude_objects ++ main (t.Do (one (codes "loop") (block (codes "x" ∷ []) (t.Do (name (codes "x")) ∷ []))) ∷ []) ∷ []

loops_give_no_arguments : meaning looped 2 ≡ r.Error [] (e.ClosureArity 0)
unfolding meaning allowance primitives
loops_give_no_arguments = refl

-- method f(k) { if(k = 0, { ^ { ^ 5 } }); eval(f(k - 1)); print(8) } method main() { print(7); f(1); print(9) }
-- the closure outlives the inner call of f, and does not return from the outer one
abbrev recursive : List Decl
recursive = with_choices (method (codes "f") (codes "k" ∷ []) (any ∷ []) (
    t.Do (if_then (two (codes "=") (name (codes "k")) (n 0)) (t.Back (block [] (t.Back (n 5) ∷ [])) ∷ [])) ∷
    t.Do (eval (one (codes "f") (two (codes "-") (name (codes "k")) (n 1)))) ∷ print (n 8) ∷ []) ∷ [])
    (print (n 7) ∷ t.Do (one (codes "f") (n 1)) ∷ print (n 9) ∷ [])

each_call_is_a_home_of_its_own : meaning recursive 20 ≡ r.Error (line 7 ∷ []) e.DeadReturn
unfolding meaning allowance primitives hidden-the_row-Expr-0 hidden
each_call_is_a_home_of_its_own = refl

-- method main() { let var i := 1; let w := &(a) { i := a }; let r := { i }; eval(w, 5); print(eval(r)); print(i) }
abbrev shared : List Decl
shared = prelude_objects ++ main (
    t.LetVar (codes "i") (n 1) ∷ t.Let (codes "w") (block (codes "a" ∷ []) (t.Set (codes "i") (name (codes "a")) ∷ [])) ∷
    t.Let (codes "r") (block [] (t.Do (name (codes "i")) ∷ [])) ∷ t.Do (two (codes "eval") (name (codes "w")) (n 5)) ∷
    print (eval (name (codes "r"))) ∷ print (name (codes "i")) ∷ []) ∷ []

closures_share_variables : meaning shared 3 ≡ r.End (line 5 ∷ line 5 ∷ [])
unfolding meaning allowance primitives
closures_share_variables = refl

-- method main() { let var i := 0; let var c := nil; let var d := nil;
--     loop({ let j := i; c := d; d := { j }; i := i + 1; if(1 < i, { print(eval(c)); print(eval(d)); ^ nil }) }) }
abbrev turned : List Decl
turned = with_choices [] (
    t.LetVar (codes "i") (n 0) ∷ t.LetVar (codes "c") (name (codes "nil")) ∷ t.LetVar (codes "d") (name (codes "nil")) ∷
    t.Do (one (codes "loop") (block [] (
    t.Let (codes "j") (name (codes "i")) ∷ t.Set (codes "c") (name (codes "d")) ∷ t.Set (codes "d") (block [] (t.Do (name (codes "j")) ∷ [])) ∷
    t.Set (codes "i") (plus (name (codes "i")) (n 1)) ∷ t.Do (if_then (two (codes "<") (n 1) (name (codes "i")))
    (print (eval (name (codes "c"))) ∷ print (eval (name (codes "d"))) ∷ t.Back (name (codes "nil")) ∷ [])) ∷ []))) ∷ [])

each_turn_has_its_own_names : meaning turned 20 ≡ r.End (line 0 ∷ line 1 ∷ [])
unfolding meaning allowance primitives hidden-the_row-Expr-0 hidden
each_turn_has_its_own_names = refl

-- method main() { eval({ 1 }, 2) }: the number of arguments is looked at before the allowance of the closure, and behind that of the send
abbrev misused : List Decl
misused = prelude_objects ++ main (t.Do (two (codes "eval") (block [] (t.Do (n 1) ∷ [])) (n 2)) ∷ []) ∷ []

arguments_are_counted_first : meaning misused 2 ≡ r.Error [] (e.ClosureArity 1)
unfolding meaning allowance primitives
arguments_are_counted_first = refl

arguments_are_counted_by_eval : meaning misused 1 ≡ r.Unfinished []
unfolding meaning allowance primitives
arguments_are_counted_by_eval = refl

-- method main() { eval(&(a) { 1 }, 2) }: `eval` is called with 1, and with 2
abbrev used : List Decl
used = prelude_objects ++ main (t.Do (two (codes "eval") (block (codes "a" ∷ []) (t.Do (n 1) ∷ [])) (n 2)) ∷ []) ∷ []

closures_cost_one_more : meaning used 2 ≡ r.Unfinished []
unfolding meaning allowance primitives
closures_cost_one_more = refl

closure_is_evaluated : meaning used 3 ≡ r.End []
unfolding meaning allowance primitives
closure_is_evaluated = refl

-- method main() { let var i := 0; if(while({ i < 2 }, { print(i); i := i + 1 }) == nil, { print(9) }) }
abbrev repeated : List Decl
repeated = prelude_objects ++ choices ++ repetitions ++ main (
    t.LetVar (codes "i") (n 0) ∷ t.Do (if_then (two (codes "==") (two (codes "while")
    (block [] (t.Do (two (codes "<") (name (codes "i")) (n 2)) ∷ []))
    (block [] (print (name (codes "i")) ∷ t.Set (codes "i") (plus (name (codes "i")) (n 1)) ∷ []))) (name (codes "nil")))
    (print (n 9) ∷ [])) ∷ []) ∷ []

-- the calls of main, `while` and `loop`, two turns, the calls of `if` and `eval`, the closure, `eval` in it, the body, and `print` in that
while_is_left : meaning repeated 11 ≡ r.End (line 0 ∷ line 1 ∷ line 9 ∷ [])
unfolding meaning allowance primitives hidden-the_row-Expr-0 hidden-the_row-Stmt-1 hidden
while_is_left = refl

while_with_one_less : meaning repeated 10 ≡ r.Unfinished (line 0 ∷ [])
unfolding meaning allowance primitives hidden-the_row-Expr-0 hidden-the_row-Stmt-1 hidden
while_with_one_less = refl

-- object vault predicate wealthy isa vault when coins > 10 var field coins(@vault) := 20 var field rank(@wealthy) := 1
abbrev ranks : List Stmt → List Decl
ranks body = prelude_objects ++ child (codes "vault") any ∷
    d.Predicate (codes "wealthy") (codes "vault" ∷ []) (q.Compare (codes "coins") c.More (pos 10)) ∷
    d.Field (field_key (codes "coins") (codes "vault")) (s.Int (pos 20)) true ∷
    d.Field (field_key (codes "rank") (codes "wealthy")) (s.Int (pos 1)) true ∷ main body ∷ []

-- print(rank(vault)); set_rank(vault, 5); set_coins(vault, 3)
abbrev poor : List Stmt
poor = print (one (codes "rank") (name (codes "vault"))) ∷ t.Do (two (codes "set_rank") (name (codes "vault")) (n 5)) ∷
    t.Do (two (codes "set_coins") (name (codes "vault")) (n 3)) ∷ []

-- what is in the field of a predicate stays there while the predicate is false
field_is_kept : meaning (ranks (
    poor ++ t.Do (two (codes "set_coins") (name (codes "vault")) (n 20)) ∷ print (one (codes "rank") (name (codes "vault"))) ∷ [])) 2
    ≡ r.End (line 1 ∷ line 5 ∷ [])
unfolding meaning allowance primitives
field_is_kept = refl

-- and is not read then
field_is_not_met : meaning (ranks (poor ++ print (one (codes "rank") (name (codes "vault"))) ∷ [])) 2
    ≡ r.Error (line 1 ∷ []) (e.NotUnderstood (record { name = codes "rank"; arity = 1 }))
unfolding meaning allowance primitives
field_is_not_met = refl

-- predicate odd isa any when not k = 1 var field k(@odd) := 1
abbrev odd : Stmt → List Decl
odd statement = prelude_objects ++ d.Predicate (codes "odd") (any ∷ []) (q.Not (q.Compare (codes "k") c.Equal (pos 1))) ∷
    d.Field (field_key (codes "k") (codes "odd")) (s.Int (pos 1)) true ∷ main (print (n 7) ∷ statement ∷ []) ∷ []

-- the field's methods are found for a number, which has no slots
numbers_are_not_read : meaning (odd (t.Do (one (codes "k") (n 5)))) 2 ≡ r.Error (line 7 ∷ []) (e.NoField (codes "k"))
unfolding meaning allowance primitives shape-the_row-Test-0 hidden-the_row-Test-0 hidden
numbers_are_not_read = refl

numbers_are_not_set : meaning (odd (t.Do (two (codes "set_k") (n 5) (n 2)))) 2 ≡ r.Error (line 7 ∷ []) (e.NoField (codes "k"))
unfolding meaning allowance primitives shape-the_row-Test-0 hidden-the_row-Test-0 hidden
numbers_are_not_set = refl
