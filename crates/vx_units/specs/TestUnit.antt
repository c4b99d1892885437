-- The unit of a predicate's test: the classes whose objects may pass it, each with the fields that are tested, and what is asked of these.
use Rattle.std.specs.Prelude.{ℕ, List, [], ◌∷◌, ◌++◌, length, Option, Some, None, if◌then◌else◌}
use Rattle.std.specs.List.{position_from}
use Rattle.std.specs.Ordering.{is_lt}
use Rattle.std.specs.Str.{bytes_eq}
use Rattle.vx_format.specs.Numbers.{Bytes, number, integer}
use Rattle.vx_names.specs.declared.key.FieldKey.{FieldKey}
use Rattle.vx_names.specs.Key.{name_cmp}
use Rattle.vx_syntax.specs.declared.test.Compare.{Compare}
use Rattle.vx_syntax.specs.declared.test.Compare.TheVariants as c
use Rattle.vx_syntax.specs.declared.test.Test.{Test, end_of-Test, more_of-Test}
use Rattle.vx_syntax.specs.declared.test.Test.TheVariants as q
use Rattle.vx_node.specs.declared.unit.Piece.{Piece}
use Rattle.vx_node.specs.declared.unit.Symbol.TheVariants as symbols
use Rattle.vx_units.specs.Signs.{Signs, bytes, named, fitted, each, grouped}

-- a name put in its place among names in byte order, once
abbrev pub put : Bytes → List Bytes → List Bytes
put x [] = x ∷ []
put x (y ∷ ys) = if is_lt (name_cmp x y) then x ∷ y ∷ ys else if bytes_eq x y then y ∷ ys else y ∷ put x ys

-- names in byte order, each once
abbrev pub put_all : List Bytes → List Bytes → List Bytes
put_all [] known = known
put_all (x ∷ xs) known = put_all xs (put x known)

abbrev pub operator_byte : Compare → ℕ
operator_byte c.Less = 0
operator_byte c.AtMost = 1
operator_byte c.More = 2
operator_byte c.AtLeast = 3
operator_byte c.Equal = 4

-- the place of a name; ffffffff where it has none
abbrev pub place_bytes : Option ℕ → Bytes
place_bytes (Some place) = fitted 4 place
place_bytes None = number 4 4294967295

abbrev pub name_place : List Bytes → Bytes → Option ℕ
name_place names x = position_from (λ own. bytes_eq own x) 0 names

-- the steps of a test, each behind those whose truth values it joins
abbrev pub step_bytes : List Bytes → Test → Bytes
step_bytes names (q.Compare x how n) = number 1 0 ++ (number 1 (operator_byte how) ++ (place_bytes (name_place names x) ++ integer n))
step_bytes names (q.And' s (more_of-Test a end_of-Test) s' (more_of-Test b end_of-Test)) = step_bytes names a ++ (step_bytes names b ++ number 1 1)
step_bytes names (q.Or' s (more_of-Test a end_of-Test) s' (more_of-Test b end_of-Test)) = step_bytes names a ++ (step_bytes names b ++ number 1 2)
step_bytes names (q.Not' s (more_of-Test a end_of-Test)) = step_bytes names a ++ number 1 3

-- tests that are joined with those before them
abbrev pub joined_bytes : List Bytes → List Test → Bytes
joined_bytes names [] = []
joined_bytes names (test ∷ tests) = step_bytes names test ++ (number 1 1 ++ joined_bytes names tests)

-- tests, of which all must be true
abbrev pub form_bytes : List Bytes → List Test → Bytes
form_bytes names [] = []
form_bytes names (test ∷ tests) = step_bytes names test ++ joined_bytes names tests

-- the names that a test asks about
abbrev pub names_tested : Test → List Bytes → List Bytes
names_tested (q.Compare x how n) known = put x known
names_tested (q.And' s (more_of-Test a end_of-Test) s' (more_of-Test b end_of-Test)) known = names_tested b (names_tested a known)
names_tested (q.Or' s (more_of-Test a end_of-Test) s' (more_of-Test b end_of-Test)) known = names_tested b (names_tested a known)
names_tested (q.Not' s (more_of-Test a end_of-Test)) known = names_tested a known

-- those that tests ask about, in byte order, each once
abbrev pub all_tested : List Test → List Bytes → List Bytes
all_tested [] known = known
all_tested (test ∷ tests) known = all_tested tests (names_tested test known)

abbrev pub tested_field_signs : Option FieldKey → Signs
tested_field_signs (Some field) = named (symbols.Field field)
tested_field_signs None = bytes (number 4 4294967295)

-- a class, and its field for each name
abbrev pub class_signs : Bytes × List (Option FieldKey) → Signs
class_signs class = named (symbols.Object class.0) ++ each tested_field_signs class.1

abbrev pub test_signs : List (Bytes × List (Option FieldKey)) → List Bytes → List Test → Signs
test_signs classes names tests =
    bytes (fitted 4 (length classes)) ++ (bytes (fitted 4 (length names)) ++ (each class_signs classes ++
    (bytes (fitted 4 (length (form_bytes names tests))) ++ bytes (form_bytes names tests))))

-- How many classes and names there are, each class, and the steps of the tests.
abbrev pub test_unit : List (Bytes × List (Option FieldKey)) → List Bytes → List Test → List Piece
test_unit classes names tests = grouped (test_signs classes names tests)
