-- Objects by places, and which row of a table a message takes.
use Rattle.std.specs.Prelude.{ℕ, zero, suc, ◌==◌, ℤ, int_lt, int_le, Bool, false, not, ◌&&◌, ◌||◌, List, [], ◌∷◌, map, Option, Some, None, slice_get}
use Rattle.std.specs.Prelude.{bit_or, if◌then◌else◌}
use Rattle.std.specs.Ordering.{int_eq}
use Rattle.vx_tables.specs.declared.picked.Picked.{Picked}
use Rattle.vx_tables.specs.Masks.{picked}
use Rattle.vx_format.specs.declared.image.ClassTest.{ClassTest}
use Rattle.vx_format.specs.declared.image.Step.{Step}
use Rattle.vx_format.specs.declared.image.Step.TheVariants as test_step
use Rattle.vx_format.specs.declared.image.Test.{Test}
use Rattle.vx_format.specs.declared.image.ClassMask.{ClassMask}
use Rattle.vx_format.specs.declared.image.Position.{Position}
use Rattle.vx_format.specs.declared.image.Table.{Table}
use Rattle.vx_format.specs.declared.image.Own.{Own}
use Rattle.vx_format.specs.declared.image.Image.{Image}
use Rattle.vx_model.specs.declared.value.Value.{Value}
use Rattle.vx_model.specs.declared.value.Value.TheVariants as v

-- ---- classes and slots

-- an object: the place of its class, and its slots by the places of fields
pub record Placed : Type 0 where
  pub class : ℕ
  pub slots : List (ℕ × Value)

-- the class of a value; an object that is not there has none
abbrev pub class_of : Own → List Placed → Value → Option ℕ
class_of own objects (v.Int n) = Some own.int
class_of own objects (v.Text bytes) = Some own.string
class_of own objects (v.Closure c) = Some own.closure
class_of own objects (v.Object o) = elim (slice_get objects o) [ Some thing ↦ Some thing.class | None ↦ None ]

-- the first slot of a field
abbrev pub slot_at : ℕ → List (ℕ × Value) → Option Value
slot_at field [] = None
slot_at field (slot ∷ rest) = if slot.0 == field then Some slot.1 else slot_at field rest

abbrev pub slot_of : List Placed → Value → ℕ → Option Value
slot_of objects (v.Object o) field = elim (slice_get objects o) [ Some thing ↦ slot_at field thing.slots | None ↦ None ]
slot_of objects value field = None

-- ---- tests

abbrev pub compares : ℕ → ℤ → ℤ → Bool
compares operator a b =
    if operator == 0 then int_lt a b else (if operator == 1 then int_le a b else
    (if operator == 2 then int_lt b a else (if operator == 3 then int_le b a else int_eq a b)))

-- a comparison is true where the class has the field, the value its slot, and the slot a number that compares so
abbrev pub compared : Option Value → ℕ → ℤ → Bool
compared (Some (v.Int n)) operator z = compares operator n z
compared other operator z = false

abbrev pub field_at : List (Option ℕ) → ℕ → Option ℕ
field_at [] place = None
field_at (field ∷ rest) zero = field
field_at (field ∷ rest) (suc place) = field_at rest place

abbrev pub is_true_of : List Placed → Value → List (Option ℕ) → ℕ → ℕ → ℤ → Bool
is_true_of objects value fields operator name z = elim (field_at fields name) [ Some field ↦ compared (slot_of objects value field) operator z | None ↦ false ]

-- the truth values of the steps so far, the last first
abbrev pub stepped : List Placed → Value → List (Option ℕ) → List Bool → Step → List Bool
stepped objects value fields truths (test_step.Compare operator name z) = is_true_of objects value fields operator name z ∷ truths
stepped objects value fields (b ∷ a ∷ truths) test_step.And = (a && b) ∷ truths
stepped objects value fields (b ∷ a ∷ truths) test_step.Or = (a || b) ∷ truths
stepped objects value fields (a ∷ truths) test_step.Not = not a ∷ truths
stepped objects value fields truths step = truths

abbrev pub ran : List Placed → Value → List (Option ℕ) → List Bool → List Step → List Bool
ran objects value fields truths [] = truths
ran objects value fields truths (step ∷ rest) = ran objects value fields (stepped objects value fields truths step) rest

abbrev pub is_top : List Bool → Bool
is_top [] = false
is_top (b ∷ truths) = b

-- a test holds where the class is listed, its first entry counting, and the steps leave true
abbrev pub holds_in : List Placed → Value → List Step → ℕ → List ClassTest → Bool
holds_in objects value steps class [] = false
holds_in objects value steps class (entry ∷ rest) = if entry.object == class then is_top
    (ran objects value entry.fields [] steps) else holds_in objects value steps class rest

abbrev pub holds : List Placed → Value → ℕ → Test → Bool
holds objects value class test = holds_in objects value test.steps class test.classes

-- ---- masks

-- the mask of the class, its first entry counting, or the default
abbrev pub class_mask : ℕ → ℕ → List ClassMask → ℕ
class_mask default class [] = default
class_mask default class (entry ∷ rest) = if entry.symbol == class then entry.mask else class_mask default class rest

abbrev pub is_held : List Placed → Value → ℕ → Option Test → Bool
is_held objects value class (Some test) = holds objects value class test
is_held objects value class None = false

-- with the masks of the tests that hold
abbrev pub with_tests : Image → List Placed → Value → ℕ → ℕ → List ClassMask → ℕ
with_tests image objects value class mask [] = mask
with_tests image objects value class mask (entry ∷ rest) =
    with_tests image objects value class (if is_held objects value class (slice_get image.tests entry.symbol) then bit_or mask entry.mask else mask) rest

-- an object that is not there counts as nothing
abbrev pub mask_of : Image → List Placed → Value → Position → ℕ
mask_of image objects value position = elim (class_of image.own objects value)
    [ Some class ↦ with_tests image objects value class (class_mask position.default class position.classes) position.tests | None ↦ 0 ]

-- nor does a value without a position, and no row has a position without a value
abbrev pub masks_of : Image → List Placed → List Value → List Position → List ℕ
masks_of image objects [] [] = []
masks_of image objects [] (position ∷ positions) = 0 ∷ masks_of image objects [] positions
masks_of image objects (value ∷ values) [] = 0 ∷ masks_of image objects values []
masks_of image objects (value ∷ values) (position ∷ positions) = mask_of image objects value position ∷ masks_of image objects values positions

-- what a table makes of arguments, on from a row where there is one
abbrev pub dispatched : Image → List Placed → Table → List Value → Option ℕ → Picked
dispatched image objects table values below = picked (map (λ row. row.beats) table.rows) (masks_of image objects values table.positions) below

-- the code for a class, its first entry counting, or the row's own
abbrev pub clone_for : ℕ → Option ℕ → List (ℕ × ℕ) → ℕ
clone_for code class [] = code
clone_for code class (pair ∷ rest) = elim class [ None ↦ code | Some c ↦ if pair.0 == c then pair.1 else clone_for code class rest ]
