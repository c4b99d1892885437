-- A program has no more objects and predicates than a walk may meet.
use Rattle.std.proofs.Common.{List, [], arith, refl, sym, subst, length, inl, inr, append_assoc, ◌∷◌, ◌++◌, ◌≡◌, ◌+◌, ◌≤◌}
use Rattle.std.proofs.lemmas.Bool.{cases_Bool, both_ways}
use Rattle.vx_lists.specs.Members.{IsIn}
use Rattle.vx_lists.proofs.Members.{in_behind}
use Rattle.vx_syntax.specs.declared.decl.Decl.{Decl}
use Rattle.vx_syntax.specs.declared.decl.Decl.TheVariants as d
use Rattle.vx_syntax.specs.declared.test.Test.{Test}
use Rattle.vx_syntax.specs.Expressions.{Bytes}
use Rattle.vx_program.specs.Prelude.{prelude, prelude_objects, comparisons, logic}
use Rattle.vx_program.specs.Program.{IsProgram, IsOrdered, is_before, is_there}
use Rattle.vx_syntax.specs.Keys.{key_of}
use Rattle.vx_program.proofs.Members.{not_before_itself, tail_ordered, goes_first}
use Rattle.vx_node.specs.Traces.{Answers}
use Rattle.vx_model.specs.Order.{object_names}
use Rattle.vx_model.proofs.Cones.{if_there}
use Rattle.vx_answers.specs.OrderRows.{upward, most_names, up_row}
use Rattle.vx_answers.proofs.Most.{most_is}
use Rattle.vx_answers.proofs.Pigeons.{AreApart, no_more}
use Rattle.vx_answers.proofs.Walked.{AreFew, Ended, walked_from}
use Rattle.vx_answers.proofs.UpRow.{GivesDecls, comes_there, comes_alone}

-- the declarations that are neither objects nor predicates
abbrev others : List Decl → List Decl
others [] = []
others (d.Object x parents ∷ decls) = others decls
others (d.Predicate x parents test ∷ decls) = others decls
others (d.Field key start changeable ∷ decls) = d.Field key start changeable ∷ others decls
others (d.Method key formals body ∷ decls) = d.Method key formals body ∷ others decls

parts : (decls : List Decl) → length decls ≡ length (object_names decls) + length (others decls)
parts [] = refl
parts (d.Object x parents ∷ decls) = omega (arith, parts decls)
parts (d.Predicate x parents test ∷ decls) = omega (arith, parts decls)
parts (d.Field key start changeable ∷ decls) = omega (arith, parts decls)
parts (d.Method key formals body ∷ decls) = omega (arith, parts decls)

in_others : (decl : Decl) (decls : List Decl) → IsIn decl decls → IsIn decl (others (decl ∷ [])) → IsIn decl (others decls)
in_others decl [] i own = absurd i
in_others decl (d.Object x parents ∷ decls) (inl e) own = absurd (subst (λ one. IsIn one (others (one ∷ []))) (sym e) own)
in_others decl (d.Object x parents ∷ decls) (inr i) own = in_others decl decls i own
in_others decl (d.Predicate x parents test ∷ decls) (inl e) own = absurd (subst (λ one. IsIn one (others (one ∷ []))) (sym e) own)
in_others decl (d.Predicate x parents test ∷ decls) (inr i) own = in_others decl decls i own
in_others decl (d.Field key start changeable ∷ decls) (inl e) own = inl e
in_others decl (d.Field key start changeable ∷ decls) (inr i) own = inr (in_others decl decls i own)
in_others decl (d.Method key formals body ∷ decls) (inl e) own = inl e
in_others decl (d.Method key formals body ∷ decls) (inr i) own = inr (in_others decl decls i own)

ordered_apart : (ds : List Decl) → IsOrdered ds → AreApart ds
ordered_apart [] o = tt
ordered_apart (a ∷ ds) o = (λ i. both_ways (is_before a a) (not_before_itself (key_of a)) (goes_first a ds o a i), ordered_apart ds (tail_ordered a ds o))

-- the methods of the prelude
abbrev methods : List Decl
methods = comparisons ++ logic

methods_ordered : IsOrdered methods
methods_ordered = (refl, (refl, (refl, (refl, (refl, (refl, (refl, (refl, (refl, (refl, (refl, (refl, (refl, tt)))))))))))))

-- none of them is an object or a predicate
not_object : (x : Bytes) (parents : List Bytes) (decls : List Decl) → object_names decls ≡ [] → IsIn (d.Object x parents) decls → ⊥
not_object x parents [] none i = i
not_object x parents (d.Object own ps ∷ decls) none i = absurd (cc)
not_object x parents (d.Predicate own ps test ∷ decls) none i = absurd (cc)
not_object x parents (d.Field key start changeable ∷ decls) none (inl e) = absurd (cc)
not_object x parents (d.Field key start changeable ∷ decls) none (inr i) = not_object x parents decls none i
not_object x parents (d.Method key formals body ∷ decls) none (inl e) = absurd (cc)
not_object x parents (d.Method key formals body ∷ decls) none (inr i) = not_object x parents decls none i

not_predicate : (x : Bytes) (parents : List Bytes) (test : Test) (decls : List Decl) → object_names decls ≡ [] → IsIn (d.Predicate x parents test) decls → ⊥
not_predicate x parents test [] none i = i
not_predicate x parents test (d.Object own ps ∷ decls) none i = absurd (cc)
not_predicate x parents test (d.Predicate own ps other ∷ decls) none i = absurd (cc)
not_predicate x parents test (d.Field key start changeable ∷ decls) none (inl e) = absurd (cc)
not_predicate x parents test (d.Field key start changeable ∷ decls) none (inr i) = not_predicate x parents test decls none i
not_predicate x parents test (d.Method key formals body ∷ decls) none (inl e) = absurd (cc)
not_predicate x parents test (d.Method key formals body ∷ decls) none (inr i) = not_predicate x parents test decls none i

no_object : (decl : Decl) → IsIn decl methods → IsIn decl (others (decl ∷ []))
no_object (d.Object x parents) i = absurd (not_object x parents methods refl i)
no_object (d.Predicate x parents test) i = absurd (not_predicate x parents test methods refl i)
no_object (d.Field key start changeable) i = inl refl
no_object (d.Method key formals body) i = inl refl

methods_in : (program : List Decl) → IsProgram program → (decl : Decl) → IsIn decl methods → IsIn decl program
unfolding prelude
methods_in program is decl i = is.has_prelude decl (subst (IsIn decl) (sym (append_assoc prelude_objects comparisons logic))
    (in_behind decl prelude_objects methods i))

prelude_size : length prelude ≡ length prelude_objects + length methods
unfolding prelude
prelude_size = refl

pub few_objects : (program : List Decl) → IsProgram program → length (object_names program) ≤ most_names
few_objects program is =
    let methods_fit : length methods ≤ length (others program) =
    no_more methods (others program) (ordered_apart methods methods_ordered)
    (λ decl i. in_others decl program (methods_in program is decl i) (no_object decl i)) in
    omega (arith, methods_fit, parts program, is.declarations, prelude_size, most_is)

-- so a walk upwards meets few
pub few_above : (program : List Decl) → IsProgram program → (answer : Answers) → GivesDecls program answer → (x : Bytes) → AreFew upward answer x
few_above program is answer gives x xs apart came =
    elim (cases_Bool (is_there program x)) [
      | inl t ↦
          let fits : length xs ≤ length (object_names program) =
          no_more xs (object_names program) apart (λ y i. if_there program y (comes_there program is answer gives x y t (came y i))) in
          omega (arith, fits, few_objects program is)
      | inr gone ↦
          let fits : length xs ≤ length (x ∷ []) = no_more xs (x ∷ []) apart (λ y i. inl (comes_alone program answer gives x y gone (came y i))) in
          omega (arith, fits, most_is)
    ]

-- What is asked for the names above a name, over a program: it comes to a value, with just the names that are there to which chains lead; and it asks
-- for the declarations of those to which chains lead, and no others.
pub up_ends : (program : List Decl) → IsProgram program → (answer : Answers) → GivesDecls program answer → (x : Bytes) → Ended upward answer x [] (up_row x)
up_ends program is answer gives x = walked_from upward answer x (few_above program is answer gives x)
