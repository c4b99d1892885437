-- The machine over an image: names are places, objects are kept by the places of classes and fields.
use Rattle.std.specs.Prelude.{ℕ, suc, ◌==◌, ◌&&◌, Bool, true, false, List, [], ◌∷◌, ◌++◌, length, map, drop, take, get_or, codes, Option, Some, None}
use Rattle.std.specs.Prelude.{is_some, slice_get, slice_set, nat_lt, if◌then◌else◌}
use Rattle.std.specs.List.{list_all}
use Rattle.std.specs.Str.{bytes_eq}
use Rattle.vx_names.specs.Bytes.{is_letter}
use Rattle.vx_names.specs.declared.key.Selector.{Selector}
use Rattle.vx_syntax.specs.Expressions.{Bytes}
use Rattle.vx_model.specs.declared.value.Value.{Value}
use Rattle.vx_model.specs.declared.value.Value.TheVariants as v
use Rattle.vx_model.specs.declared.report.RunError.TheVariants as e
use Rattle.vx_model.specs.declared.report.Report.{Report}
use Rattle.vx_tables.specs.declared.picked.Picked.{Picked}
use Rattle.vx_tables.specs.declared.picked.Picked.TheVariants as chosen
use Rattle.vx_format.specs.declared.image.Initial.{Initial}
use Rattle.vx_format.specs.declared.image.Initial.TheVariants as initial
use Rattle.vx_format.specs.declared.image.Slot.{Slot}
use Rattle.vx_format.specs.declared.image.Own.{Own}
use Rattle.vx_format.specs.declared.image.Instr.{Instr}
use Rattle.vx_format.specs.declared.image.Instr.TheVariants as instr
use Rattle.vx_format.specs.declared.image.Block.{Block}
use Rattle.vx_format.specs.declared.image.Does.{Does}
use Rattle.vx_format.specs.declared.image.Does.TheVariants as deed
use Rattle.vx_format.specs.declared.image.Table.{Table}
use Rattle.vx_format.specs.declared.image.Image.{Image}
use Rattle.vx_model.specs.Primitives.{counts, deed_at}
use Rattle.vx_compilation.specs.Activations.{Symbols, Making, Makes, NoSlot, NoClass, Target, ToCode, ToPrimitive, ToGetter, ToSetter, ToError, ToNothing}
use Rattle.vx_compilation.specs.Activations as activations
use Rattle.vx_compilation.specs.Machine.{Instruction, PushInt, PushText, PushObject, Load, Store, NewCell, GetCell, SetCell, Close, Send, Enter}
use Rattle.vx_compilation.specs.Machine.{Perform, Get, Set, Make, Pop, Leave, LeaveHome, Mark, Fail, Codes, run_report}
use Rattle.vx_compilation.specs.Machine as machine
use Rattle.vx_places.specs.Dispatch.{Placed, class_of, slot_at, slot_of, dispatched, clone_for}

-- a send to a table, or one on from a row of it
pub data Told : Type 0 where
  To : (table : ℕ) → Told
  Onward : (table row : ℕ) → Told

abbrev pub by_place : Symbols
by_place = record { Object = ℕ; Message = Told; Code = ℕ; Field = ℕ; Objects = List Placed }

abbrev pub World : Type 0
World = activations.World by_place

abbrev pub State : Type 0
State = activations.State by_place

-- ---- instructions, with the counts that the image tells. What is missing takes no operands, and is lacking when it is reached.

abbrev pub block_at : Image → ℕ → ℕ → Option Block
block_at image code block = elim (slice_get image.codes code) [ Some blocks ↦ slice_get blocks block | None ↦ None ]

abbrev pub arity_of : Image → ℕ → ℕ
arity_of image table = elim (slice_get image.tables table) [ Some own ↦ own.arity | None ↦ 0 ]

abbrev pub formals_of : Image → ℕ → ℕ
formals_of image code = elim (block_at image code 0) [ Some own ↦ own.formals | None ↦ 0 ]

abbrev pub count_of : ℕ → ℕ
count_of number = elim (slice_get counts number) [ Some count ↦ count | None ↦ 0 ]

abbrev pub instruction : Image → Instr → Instruction by_place
instruction image (instr.Int z) = PushInt z
instruction image (instr.Text bytes) = PushText bytes
instruction image (instr.Object o) = PushObject o
instruction image (instr.Load x) = Load x
instruction image (instr.Store x) = Store x
instruction image (instr.Cell x) = NewCell x
instruction image (instr.CellGet x) = GetCell x
instruction image (instr.CellSet x) = SetCell x
instruction image (instr.Closure block xs) = Close block xs
instruction image (instr.Send t) = Send (To t) (arity_of image t)
instruction image (instr.Call c) = Enter c (formals_of image c)
instruction image (instr.Resend t row) = Send (Onward t row) (arity_of image t)
instruction image (instr.Prim number) = Perform number (count_of number)
instruction image (instr.Get f) = Get f 1
instruction image (instr.Set f) = Set f 2
instruction image (instr.New o fields) = Make o fields (length fields)
instruction image instr.Pop = Pop
instruction image instr.Ret = Leave
instruction image instr.Home = LeaveHome
instruction image instr.Mark = Mark
instruction image (instr.Fail kind name arity) =
    Fail (if kind == 0 then e.NoField name else (if kind == 1 then e.UnknownObject name else e.NotUnderstood (record { name = name; arity = arity })))

abbrev pub block_of : Image → Block → machine.Block by_place
block_of image own = record { locals = own.locals; captures = own.captures; formals = own.formals; code = map (instruction image) own.code }

abbrev pub codes_of : Image → Codes by_place
codes_of image code block = elim (block_at image code block) [ Some own ↦ Some (block_of image own) | None ↦ None ]

-- ---- dispatch

abbrev pub selector_of : Table → Selector
selector_of table = record { name = table.name; arity = table.arity }

-- the name of the field that a table sets
abbrev pub set_name : Bytes → Bytes
set_name name = if bytes_eq (take 4 name) (codes "set_") && is_letter (get_or name 4 0) then drop 4 name else name

abbrev pub class_at : Own → List Placed → Option Value → Option ℕ
class_at own objects None = None
class_at own objects (Some value) = class_of own objects value

abbrev pub goes_to : Image → List Placed → Table → List Value → Does → Target by_place
goes_to image objects table values (deed.Code code None) = ToCode code
goes_to image objects table values (deed.Code code (Some split)) =
    if nat_lt split.position (length values) then ToCode (clone_for code
    (class_at image.own objects (slice_get values split.position)) split.pairs) else ToNothing
goes_to image objects table values (deed.Prim number) = ToPrimitive number
goes_to image objects table values (deed.Get field) = ToGetter field table.name
goes_to image objects table values (deed.Set field) = ToSetter field (set_name table.name)

abbrev pub target : Image → List Placed → Table → List Value → Picked → Target by_place
target image objects table values (chosen.Row row) = elim (slice_get table.rows row) [
  | Some own ↦ goes_to image objects table values own.does
  | None ↦ ToNothing
]
target image objects table values chosen.None = ToError (e.NotUnderstood (selector_of table))
target image objects table values chosen.Many = ToError (e.Ambiguous (selector_of table))

abbrev pub sent : Image → List Placed → Option Table → List Value → Option ℕ → Target by_place
sent image objects None values below = ToNothing
sent image objects (Some table) values below = target image objects table values (dispatched image objects table values below)

-- a message goes on from a row that is there
abbrev pub has_row : Option Table → ℕ → Bool
has_row None row = false
has_row (Some table) row = nat_lt row (length table.rows)

abbrev pub dispatch : Image → List Placed → Told → List Value → Target by_place
dispatch image objects (To t) values = sent image objects (slice_get image.tables t) values None
dispatch image objects (Onward t row) values =
    if has_row (slice_get image.tables t) row then sent image objects (slice_get image.tables t) values (Some row) else ToNothing

-- ---- objects

abbrev pub truth : Own → Bool → Value
truth own true = v.Object own.true_
truth own false = v.Object own.false_

abbrev pub start_value : Own → Initial → Value
start_value own initial.Nil = v.Object own.nil
start_value own initial.False = truth own false
start_value own initial.True = truth own true
start_value own (initial.Int z) = v.Int z
start_value own (initial.Text bytes) = v.Text bytes

abbrev pub fresh : Own → List Slot → List (ℕ × Value)
fresh own slots = map (λ slot. (slot.field, start_value own slot.start)) slots

-- each named object, with its slots at their starts
abbrev pub placed : Own → ℕ → List (List Slot) → List Placed
placed own class [] = []
placed own class (slots ∷ rest) = record { class = class; slots = fresh own slots } ∷ placed own (suc class) rest

-- the first slot of the field gets the value
abbrev pub put_slot : ℕ → Value → List (ℕ × Value) → List (ℕ × Value)
put_slot field value [] = []
put_slot field value (slot ∷ rest) = if slot.0 == field then (slot.0, value) ∷ rest else slot ∷ put_slot field value rest

-- the fields get the values, one after another
abbrev pub filled : List ℕ → List Value → List (ℕ × Value) → List (ℕ × Value)
filled [] values slots = slots
filled (field ∷ fields) [] slots = slots
filled (field ∷ fields) (value ∷ values) slots = filled fields values (put_slot field value slots)

abbrev pub have_slots : List ℕ → List (ℕ × Value) → Bool
have_slots fields slots = list_all (λ field. is_some (slot_at field slots)) fields

abbrev pub made_of : ℕ → List ℕ → List Value → List Placed → List (ℕ × Value) → Making by_place
made_of class fields values objects slots =
    if have_slots fields slots then Makes (v.Object (length objects)) (objects ++ record { class = class; slots = filled fields values slots } ∷ []) else NoSlot

abbrev pub made : Image → ℕ → List ℕ → List Value → List Placed → Making by_place
made image class fields values objects = elim (slice_get image.shapes class) [
  | Some shape ↦ made_of class fields values objects
      (fresh image.own shape)
  | None ↦ NoClass
]

abbrev pub changed : ℕ → Value → Value → List Placed → Option (List Placed)
changed field (v.Object i) value objects =
    elim (slice_get objects i) [ Some own ↦ Some (slice_set objects i (record own { slots = put_slot field value own.slots })) | None ↦ None ]
changed field own value objects = None

-- a value is put into a slot that is there
abbrev pub put : ℕ → Value → Value → List Placed → Option (List Placed)
put field own value objects = elim (slot_of objects own field) [ Some old ↦ changed field own value objects | None ↦ None ]

-- ---- the machine

abbrev pub world : Image → World
world image = record {
  nil = v.Object image.own.nil;
  named = v.Object;
  dispatch = dispatch image;
  deed = deed_at (truth image.own);
  made = made image;
  got = λ field value objects. slot_of objects value field;
  put = put;
}

abbrev pub opening : Image → State
opening image = record { objects = placed image.own 0 image.shapes; cells = []; closures = []; next = 0; lines = [] }

-- what the message that begins a run finds; where no method has its name, there is no table
abbrev pub main_found : Image → Target by_place
main_found image = elim image.main [
  | Some t ↦ dispatch image (opening image).objects (To t) []
  | None ↦ ToError
      (e.NotUnderstood (record { name = codes "main"; arity = 0 }))
]

-- What an image comes to, after at most n instructions.
unfoldable pub report_of : Image → ℕ → Report
report_of image n = run_report (world image) (codes_of image) (opening image) (main_found image) n
