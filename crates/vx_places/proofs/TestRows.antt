-- What tests and masks come to, computed.
use Rattle.std.proofs.Common.{◌≡◌, ℕ, Bool, true, false, List, [], ◌∷◌, Some, None, refl}
use Rattle.std.specs.Prelude.{ℤ, pos, negsuc, map}
use Rattle.vx_model.specs.declared.value.Value.TheVariants as v
use Rattle.vx_format.specs.declared.image.Step.{Step}
use Rattle.vx_format.specs.declared.image.Step.TheVariants as test_step
use Rattle.vx_format.specs.declared.image.ClassTest.{ClassTest}
use Rattle.vx_format.specs.declared.image.ClassMask.{ClassMask}
use Rattle.vx_format.specs.declared.image.Position.{Position}
use Rattle.vx_format.specs.declared.image.Test.{Test}
use Rattle.vx_format.specs.declared.image.Image.{Image}
use Rattle.vx_places.specs.Dispatch.{Placed, compares, compared, is_true_of, holds, class_mask, mask_of, clone_for}

-- ---- comparisons, with 1, 2 and 3 against 2

abbrev with_two : ℕ → List Bool
with_two operator = map (λ (n : ℤ). compares operator n (pos 2)) (pos 1 ∷ pos 2 ∷ pos 3 ∷ [])

less : with_two 0 ≡ true ∷ false ∷ false ∷ []
less = refl

at_most : with_two 1 ≡ true ∷ true ∷ false ∷ []
at_most = refl

more : with_two 2 ≡ false ∷ false ∷ true ∷ []
more = refl

at_least : with_two 3 ≡ false ∷ true ∷ true ∷ []
at_least = refl

equal : with_two 4 ≡ false ∷ true ∷ false ∷ []
equal = refl

below_zero : compares 0 (negsuc 0) (pos 0) ≡ true
below_zero = refl

-- a slot that holds no number compares with none
no_number : compared (Some (v.Text [])) 1 (pos 0) ≡ false
no_number = refl

-- ---- tests

-- two things: the first of class 5 with field 7 at 3, the second of class 6 with field 7 at 9
abbrev things : List Placed
things = record { class = 5; slots = (7, v.Int (pos 3)) ∷ [] } ∷ record { class = 6; slots = (7, v.Int (pos 9)) ∷ [] } ∷ []

abbrev listed : ℕ → ℕ → ClassTest
listed class field = record { object = class; fields = Some field ∷ [] }

abbrev under_five : Step
under_five = test_step.Compare 0 0 (pos 5)

abbrev over_two : Step
over_two = test_step.Compare 2 0 (pos 2)

abbrev test : List Step → Test
test steps = record { names = 1; classes = listed 5 7 ∷ listed 6 7 ∷ []; steps = steps }

-- whether a test holds for both things
abbrev for_both : List Step → List Bool
for_both steps = holds things (v.Object 0) 5 (test steps) ∷ holds things (v.Object 1) 6 (test steps) ∷ []

one_step : for_both (under_five ∷ []) ≡ true ∷ false ∷ []
one_step = refl

both_steps : for_both (under_five ∷ over_two ∷ test_step.And ∷ []) ≡ true ∷ false ∷ []
both_steps = refl

either_step : for_both (under_five ∷ over_two ∷ test_step.Or ∷ []) ≡ true ∷ true ∷ []
either_step = refl

no_step : for_both (under_five ∷ test_step.Not ∷ []) ≡ false ∷ true ∷ []
no_step = refl

-- a class that is not listed passes no test, whatever the steps are
unlisted : holds things (v.Object 0) 4 (test (under_five ∷ [])) ≡ false
unlisted = refl

-- the first entry of a class counts
first_listed : holds things (v.Object 0) 5
    (record { names = 1; classes = record { object = 5; fields = None ∷ [] } ∷ listed 5 7 ∷ []; steps = under_five ∷ [] }) ≡ false
first_listed = refl

-- a tested name that means no field of the class compares with no number
no_field : is_true_of things (v.Object 0) (None ∷ []) 0 0 (pos 5) ≡ false
no_field = refl

-- ---- masks

abbrev masked : ℕ → ℕ → ClassMask
masked symbol mask = record { symbol = symbol; mask = mask }

first_mask : class_mask 1 5 (masked 5 2 ∷ masked 5 4 ∷ []) ≡ 2
first_mask = refl

default_mask : class_mask 1 4 (masked 5 2 ∷ []) ≡ 1
default_mask = refl

abbrev image : Image
image = record {
  fields = 8;
  own = record { closure = 0; false_ = 1; int = 2; nil = 3; string = 4; true_ = 5 };
  main = None;
  shapes = [];
  tests = test (under_five ∷ []) ∷ test (over_two ∷ []) ∷ [];
  tables = [];
  codes = [];
}

abbrev position : Position
position = record { default = 1; classes = masked 2 4 ∷ masked 5 2 ∷ []; tests = masked 0 8 ∷ masked 1 16 ∷ [] }

-- the mask of a thing is that of its class with those of the tests that hold
both_tests : mask_of image things (v.Object 0) position ≡ 26
both_tests = refl

one_test : mask_of image things (v.Object 1) position ≡ 17
one_test = refl

-- numbers have a class of their own, and a thing that is not there has no mask
of_number : mask_of image things (v.Int (pos 7)) position ≡ 4
of_number = refl

of_text : mask_of image things (v.Text []) position ≡ 1
of_text = refl

of_nothing : mask_of image things (v.Object 2) position ≡ 0
of_nothing = refl

-- ---- the code for a class

first_code : clone_for 9 (Some 5) ((4, 1) ∷ (5, 2) ∷ (5, 3) ∷ []) ≡ 2
first_code = refl

own_code : clone_for 9 (Some 6) ((4, 1) ∷ (5, 2) ∷ []) ≡ 9
own_code = refl

code_of_nothing : clone_for 9 None ((4, 1) ∷ []) ≡ 9
code_of_nothing = refl
