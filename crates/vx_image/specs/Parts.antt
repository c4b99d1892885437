-- Parts of an image by their places, counted from 0. There is none where a place is out of range.
use Rattle.std.specs.Prelude.{◌≡◌, ℕ, true, List, [], Option, Some, None, Result, Ok, Err, slice_get}
use Rattle.std.specs.Option.{is_some}
use Rattle.vx_format.specs.declared.fault.FormatFault.{FormatFault}
use Rattle.vx_format.specs.declared.image.Version.{Version}
use Rattle.vx_format.specs.declared.image.Slot.{Slot}
use Rattle.vx_format.specs.declared.image.ClassTest.{ClassTest}
use Rattle.vx_format.specs.declared.image.Test.{Test}
use Rattle.vx_format.specs.declared.image.ClassMask.{ClassMask}
use Rattle.vx_format.specs.declared.image.Split.{Split}
use Rattle.vx_format.specs.declared.image.Does.{Does}
use Rattle.vx_format.specs.declared.image.Does.TheVariants as leads
use Rattle.vx_format.specs.declared.image.Row.{Row}
use Rattle.vx_format.specs.declared.image.Position.{Position}
use Rattle.vx_format.specs.declared.image.Table.{Table}
use Rattle.vx_format.specs.declared.image.Block.{Block}
use Rattle.vx_format.specs.declared.image.Image.{Image}
use Rattle.vx_format.specs.Numbers.{Bytes, each}
use Rattle.vx_format.specs.Layout.{step, instr}
use Rattle.vx_format.specs.Format.{loaded}

-- an image with nothing in it
abbrev nothing : Image
nothing = record {
  fields = 0;
  own = record { closure = 0; false_ = 0; int = 0; nil = 0; string = 0; true_ = 0 };
  main = None;
  shapes = [];
  tests = [];
  tables = [];
  codes = [];
}

-- the image that was found
abbrev pub found : Result (Version × Image) FormatFault → Image
found (Ok x) = x.1
found (Err fault) = nothing

-- The image that bytes mean. No loaded image is seen as bytes that mean none.
abbrev pub image_of : Bytes → Image
image_of bytes = found (loaded bytes)

-- a part of what is there
abbrev pub within : {A B : Type 0} → Option A → (A → Option B) → Option B
within (Some x) part = part x
within None part = None

abbrev pub IsThere : {A : Type 0} → Option A → Type 0
IsThere x = is_some x ≡ true

-- the slots of an object
abbrev pub shape_at : Image → ℕ → Option (List Slot)
shape_at image object = slice_get image.shapes object

abbrev pub slot_at : Image → ℕ → ℕ → Option Slot
slot_at image object place = within (shape_at image object) (λ slots. slice_get slots place)

abbrev pub test_at : Image → ℕ → Option Test
test_at image test = slice_get image.tests test

abbrev pub test_class_at : Image → ℕ → ℕ → Option ClassTest
test_class_at image test place = within (test_at image test) (λ t. slice_get t.classes place)

-- the field that a tested name means for a class, or none
abbrev pub test_field_at : Image → ℕ → ℕ → ℕ → Option (Option ℕ)
test_field_at image test place name = within (test_class_at image test place) (λ c. slice_get c.fields name)

abbrev pub table_at : Image → ℕ → Option Table
table_at image table = slice_get image.tables table

abbrev pub row_at : Image → ℕ → ℕ → Option Row
row_at image table row = within (table_at image table) (λ t. slice_get t.rows row)

-- the split of a row that has one
abbrev pub split_of : Does → Option Split
split_of (leads.Code code split) = split
split_of does = None

-- a class and the code for it, among those of a row's split
abbrev pub pair_at : Image → ℕ → ℕ → ℕ → Option (ℕ × ℕ)
pair_at image table row place = within (row_at image table row) (λ r. within (split_of r.does) (λ s. slice_get s.pairs place))

abbrev pub position_at : Image → ℕ → ℕ → Option Position
position_at image table position = within (table_at image table) (λ t. slice_get t.positions position)

abbrev pub class_mask_at : Image → ℕ → ℕ → ℕ → Option ClassMask
class_mask_at image table position place = within (position_at image table position) (λ p. slice_get p.classes place)

abbrev pub test_mask_at : Image → ℕ → ℕ → ℕ → Option ClassMask
test_mask_at image table position place = within (position_at image table position) (λ p. slice_get p.tests place)

abbrev pub code_at : Image → ℕ → Option (List Block)
code_at image code = slice_get image.codes code

abbrev pub block_at : Image → ℕ → ℕ → Option Block
block_at image code block = within (code_at image code) (λ blocks. slice_get blocks block)

-- the steps of a test, one after another
abbrev pub step_bytes : Test → Bytes
step_bytes t = each step t.steps

-- the instructions of a block, one after another
abbrev pub instruction_bytes : Block → Bytes
instruction_bytes b = each instr b.code
