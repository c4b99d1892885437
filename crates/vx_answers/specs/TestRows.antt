-- What is asked for the test of a predicate.
use Rattle.std.specs.Prelude.{ℕ, zero, suc, List, [], ◌∷◌, ◌++◌, map, filter, Option, Some, None, if◌then◌else◌}
use Rattle.std.specs.List.{list_all}
use Rattle.std.specs.Ordering.{is_lt}
use Rattle.vx_names.specs.declared.key.FieldKey.{FieldKey}
use Rattle.vx_names.specs.Key.{name_cmp}
use Rattle.vx_syntax.specs.declared.test.Test.{Test}
use Rattle.vx_syntax.specs.Expressions.{Bytes}
use Rattle.vx_program.specs.Program.{is_name_of}
use Rattle.vx_node.specs.declared.node.NodeId.TheVariants as node
use Rattle.vx_node.specs.declared.node.Fact.TheVariants as fact
use Rattle.vx_node.specs.declared.node.Filter.TheVariants as filters
use Rattle.vx_node.specs.declared.answer.Answer.{Answer}
use Rattle.vx_node.specs.declared.answer.Answer.TheVariants as answers
use Rattle.vx_node.specs.declared.answer.Known.TheVariants as known
use Rattle.vx_node.specs.declared.answer.Stands.{Stands}
use Rattle.vx_node.specs.declared.unit.Piece.{Piece}
use Rattle.vx_node.specs.Asking.{Asking, gives, asks, followed, each}
use Rattle.vx_compilation.specs.Readings.{ask_there, ask_field}
use Rattle.vx_units.specs.TestUnit.{all_tested, test_unit}
use Rattle.vx_answers.specs.OrderRows.{most_names, plain_ones, fresh}
use Rattle.vx_answers.specs.FieldRows.{predicate_ones}
use Rattle.vx_answers.specs.SendRows.{beside}

-- ---- the predicates above a predicate

abbrev pub OwnTest : Type 0
OwnTest = Bytes × Test

-- what came of the walk over them: the plain objects that are parents, and the tests in the byte order of their predicates
pub record Tested : Type 0 where
  pub plain : List Bytes
  pub tests : List OwnTest

-- a test put in its place
abbrev pub with_test : OwnTest → List OwnTest → List OwnTest
with_test own [] = own ∷ []
with_test own (other ∷ rest) = if is_lt (name_cmp own.0 other.0) then own ∷ other ∷ rest else other ∷ with_test own rest

-- the parents and the test of a predicate
abbrev pub predicate_in : Answer → Option (List Bytes × Test)
predicate_in (answers.Decl (known.Predicate parents test)) = Some (parents, test)
predicate_in answer = None

-- how a name stands
abbrev pub ask_stood : Bytes → Asking (Bytes × Stands)
ask_stood x = ask_there x (λ stands. gives (x, stands))

-- how the walk goes on from the names that are met, those of them that are left, and what was found
abbrev pub Onwards : Type 0
Onwards = (met left plain : List Bytes) → List OwnTest → Asking Tested

-- How each parent of a predicate stands; predicates among them are met.
abbrev pub above_after : Onwards → (met : List Bytes) → Bytes → (left plain : List Bytes) → List OwnTest → Option (List Bytes × Test) → Asking Tested
above_after go met x left plain found None = go met left plain found
above_after go met x left plain found (Some own) =
    each ask_stood own.0 (λ stood.
    go (met ++ fresh met (predicate_ones stood)) (left ++ fresh met (predicate_ones stood)) (plain ++ fresh plain (plain_ones stood))
    (with_test (x, own.1) found))

-- Of each predicate that is met, once and in the order in which they are met, its declaration, and how its parents stand. A program has no more
-- predicates than there are steps, so what is left then is of no program, and stays out.
abbrev pub above_asked : ℕ → Onwards
above_asked steps met [] plain found = gives (record { plain = plain; tests = found })
above_asked zero met (x ∷ left) plain found = gives (record { plain = plain; tests = found })
above_asked (suc steps) met (x ∷ left) plain found =
    asks (node.Fact (fact.Decl x)) (λ answer. above_after (above_asked steps) met x left plain found (predicate_in answer))

-- ---- classes and their fields

-- the classes that are in all cones
abbrev pub in_all : List (Bytes × List Bytes) → List Bytes
in_all [] = []
in_all (first ∷ rest) = filter (λ class. list_all (λ cone. is_name_of cone.1 class) rest) first.1

-- a class with its field of each name
abbrev pub with_fields : List Bytes → Bytes → Asking (Bytes × List (Option FieldKey))
with_fields names class = each (λ name. ask_field class name gives) names (λ fields. gives (class, fields))

abbrev pub tests_of : List OwnTest → List Test
tests_of found = map (λ own. own.1) found

-- the cone of each plain parent, and the fields of each class in all of them; what is no predicate has no test
abbrev pub test_among : Tested → Asking (List Piece)
test_among found =
    elim found.tests [
      | [] ↦ gives []
      | own ∷ rest ↦ each (beside filters.Cone) found.plain (λ cones.
          each (with_fields (all_tested (tests_of found.tests) [])) (in_all cones) (λ classes.
          gives (test_unit classes (all_tested (tests_of found.tests) []) (tests_of found.tests))))
    ]

-- The declarations of the predicate and of those above it, and how the parents of each stand; the cones of the plain ones; for each class in all cones
-- its field of each name that is tested.
abbrev pub test_row : Bytes → Asking (List Piece)
test_row x = followed (above_asked most_names (x ∷ []) (x ∷ []) [] []) test_among
