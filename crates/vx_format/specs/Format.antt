-- Reading an image.
use Rattle.std.specs.Prelude.{ℕ, zero, suc, ◌+◌, ◌-◌, ◌*◌, ℤ, nat_eq, ◌||◌, List, [], ◌∷◌, length, Option, Some, None, Result, Ok, Err, nat_lt}
use Rattle.std.specs.Prelude.{nat_le, ◌==◌, codes, if◌then◌else◌}
use Rattle.std.specs.Int.{w128, cast_signed}
use Rattle.std.specs.Str.{bytes_eq}
use Rattle.vx_format.specs.declared.fault.FormatFault.{FormatFault}
use Rattle.vx_format.specs.declared.fault.FormatFault.TheVariants.{Short, BadMagic, BadIndex, Trailing}
use Rattle.vx_format.specs.declared.fault.FormatFault.TheVariants as faults
use Rattle.vx_format.specs.declared.image.Version.{Version}
use Rattle.vx_format.specs.declared.image.Version.TheVariants.{One, Two}
use Rattle.vx_format.specs.declared.image.Initial.{Initial}
use Rattle.vx_format.specs.declared.image.Initial.TheVariants as values
use Rattle.vx_format.specs.declared.image.Slot.{Slot}
use Rattle.vx_format.specs.declared.image.ClassTest.{ClassTest}
use Rattle.vx_format.specs.declared.image.Step.{Step}
use Rattle.vx_format.specs.declared.image.Step.TheVariants as forms
use Rattle.vx_format.specs.declared.image.Test.{Test}
use Rattle.vx_format.specs.declared.image.ClassMask.{ClassMask}
use Rattle.vx_format.specs.declared.image.Split.{Split}
use Rattle.vx_format.specs.declared.image.Does.{Does}
use Rattle.vx_format.specs.declared.image.Does.TheVariants as leads
use Rattle.vx_format.specs.declared.image.Row.{Row}
use Rattle.vx_format.specs.declared.image.Position.{Position}
use Rattle.vx_format.specs.declared.image.Table.{Table}
use Rattle.vx_format.specs.declared.image.Instr.{Instr}
use Rattle.vx_format.specs.declared.image.Instr.TheVariants as instrs
use Rattle.vx_format.specs.declared.image.Block.{Block}
use Rattle.vx_format.specs.declared.image.Own.{Own}
use Rattle.vx_format.specs.declared.image.Image.{Image}
use Rattle.vx_format.specs.Numbers.{Bytes}
use Rattle.vx_format.specs.Reading.{Cursor, Reading, ◌>>=◌, give, wrong, here, check, bytes, a_number, valid, below, listed, until}
use Rattle.vx_format.specs.declared.image.Roster.{Roster}
use Rattle.vx_format.specs.Layout.{depth_after, values_left, is_name, mask_width, most_rows, starts, may_capture, image_bytes}

-- bytes, with how many there are before them
abbrev pub a_long : ℕ → Reading Bytes
a_long width = do
  count ← a_number width
  bytes count

-- a list, with how many there are before it
abbrev pub a_list : {A : Type 0} → ℕ → Reading A → Reading (List A)
a_list width read = do
  count ← a_number width
  listed count 0 (λ i. read)

-- a place in a list of so many
abbrev pub a_symbol : ℕ → Reading ℕ
a_symbol bound = below 4 bound

-- the symbol that was read at the place, if it is in range
abbrev pub some_symbol : ℕ → ℕ → ℕ → Reading (Option ℕ)
some_symbol bound place x = do
  ok ← check (nat_lt x bound) place
  give (Some x)

-- a symbol, or ffffffff for none
unfoldable pub an_optional : ℕ → Reading (Option ℕ)
an_optional bound = do
  place ← here
  x ← a_number 4
  if x == 4294967295 then give None else some_symbol bound place x

-- the reading of the tag's number, if there is one
abbrev pub chosen : {A : Type 0} → List (Reading A) → ℕ → ℕ → Reading A
chosen [] place tag = wrong place
chosen (read ∷ rest) place zero = read
chosen (read ∷ rest) place (suc tag) = chosen rest place tag

-- what begins with a tag, read by the reading of that number
abbrev pub tagged : {A : Type 0} → List (Reading A) → Reading A
tagged readings = do
  place ← here
  tag ← a_number 1
  chosen readings place tag

-- a whole number of 16 bytes
unfoldable pub an_integer : Reading ℤ
an_integer = do
  n ← a_number 16
  give (cast_signed w128 n)

-- what begins at the place and has so many bytes ends within the end
abbrev pub room : ℕ → ℕ → ℕ → Reading (Unit {0})
room end place size = check (nat_le (place + size) end) place

-- so many bytes are there
abbrev pub present : ℕ → Reading (Unit {0})
present count = λ at. if nat_lt (length at.left) count then Err (Short (at.place + length at.left)) else Ok (tt, at)

-- what has a tag at the place and so many bytes with it
abbrev pub fixed : {A : Type 0} → ℕ → ℕ → ℕ → Reading A → Reading A
fixed end place size read = do
  ok ← room end place size
  all_there ← present (size - 1)
  read

-- ---- shapes

-- what a slot may hold at first, by its tag
abbrev pub initials : List (Reading Initial)
initials = give values.Nil ∷ give values.False ∷ give values.True ∷ (an_integer >>= λ z. give (values.Int z)) ∷
    (a_long 4 >>= λ text. give (values.Text text)) ∷ []

-- what a slot holds at first
unfoldable pub an_initial : Reading Initial
an_initial = tagged initials

-- a field, and what its slot holds at first
unfoldable pub a_slot : Roster → Reading Slot
a_slot r = do
  field ← a_symbol r.fields
  start ← an_initial
  give (record { field = field; start = start })

-- the slots of an object
unfoldable pub a_shape : Roster → Reading (List Slot)
a_shape r = a_list 4 (a_slot r)

-- ---- tests

-- a class, and the field or none for each of so many names
unfoldable pub a_class_test : Roster → ℕ → Reading ClassTest
a_class_test r names = do
  object ← a_symbol r.objects
  fields ← listed names 0 (λ i. an_optional r.fields)
  give (record { object = object; fields = fields })

-- what stands behind the tag of a comparison
abbrev pub a_compare : ℕ → Reading Step
a_compare names = do
  operator ← below 1 5
  name ← a_symbol names
  z ← an_integer
  give (forms.Compare operator name z)

-- a step that joins so many truth values at least, where there are depth of them
abbrev pub joining : ℕ → ℕ → ℕ → Step → Reading Step
joining least depth place step = do
  ok ← check (nat_le least depth) place
  give step

-- the steps that begin at the place, by their tags
abbrev pub steps : ℕ → ℕ → ℕ → ℕ → List (Reading Step)
steps names end depth place = fixed end place 22 (a_compare names) ∷ joining 2 depth place forms.And ∷ joining 2 depth place forms.Or ∷
    joining 1 depth place forms.Not ∷ []

-- a step of a form with the end, where there are depth truth values
unfoldable pub a_step : ℕ → ℕ → ℕ → Reading Step
a_step names end depth = do
  place ← here
  tag ← a_number 1
  chosen (steps names end depth place) place tag

-- a test in postfix form; the number of values that it leaves is looked at behind its steps
unfoldable pub a_form : ℕ → Reading (List Step)
a_form names = do
  place ← here
  count ← a_number 4
  begin ← here
  form ← until count (begin + count) (a_step names (begin + count)) depth_after 0
  ok ← check (values_left 0 form == 1) place
  give form

-- the test of a predicate
unfoldable pub a_test : Roster → Reading Test
a_test r = do
  count ← a_number 4
  names ← a_number 4
  classes ← listed count 0 (λ i. a_class_test r names)
  form ← a_form names
  give (record { names = names; classes = classes; steps = form })

-- ---- tables

-- a mask of the width of the version
abbrev pub a_mask : Version → Reading ℕ
a_mask v = a_number (mask_width v)

-- a class and the code for it
unfoldable pub a_pair : Roster → Reading (ℕ × ℕ)
a_pair r = do
  object ← a_symbol r.objects
  code ← a_symbol r.codes
  give (object, code)

-- the position and its pairs, or ff for none
unfoldable pub a_split : Roster → Reading (Option Split)
a_split r = do
  position ← a_number 1
  if position == 255 then give None else (do
    pairs ← a_list 1 (a_pair r)
    give (Some (record { position = position; pairs = pairs })))

-- what stands behind the tag of a row that enters a code
abbrev pub a_code_row : Roster → Reading Does
a_code_row r = do
  code ← a_symbol r.codes
  clones ← a_split r
  give (leads.Code code clones)

-- what a row may lead to, by its tag
abbrev pub deeds : Roster → List (Reading Does)
deeds r = a_code_row r ∷ (below 1 18 >>= λ p. give (leads.Prim p)) ∷ (a_symbol r.fields >>= λ f. give (leads.Get f)) ∷
    (a_symbol r.fields >>= λ f. give (leads.Set f)) ∷ []

-- what a row leads to
unfoldable pub a_deed : Roster → Reading Does
a_deed r = tagged (deeds r)

-- a row of a table
unfoldable pub a_row : Version → Roster → Reading Row
a_row v r = do
  does ← a_deed r
  beats ← a_mask v
  give (record { does = does; beats = beats })

-- a class or a test, of which there are so many, and its mask
unfoldable pub a_class_mask : Version → ℕ → Reading ClassMask
a_class_mask v bound = do
  x ← a_symbol bound
  m ← a_mask v
  give (record { symbol = x; mask = m })

-- the masks of a position
unfoldable pub a_position : Version → Roster → Reading Position
a_position v r = do
  default ← a_mask v
  classes ← a_list 4 (a_class_mask v r.objects)
  tests ← a_list 4 (a_class_mask v r.tests)
  give (record { default = default; classes = classes; tests = tests })

-- a name; its place is that of its length
unfoldable pub a_name : Reading Bytes
a_name = do
  place ← here
  name ← a_long 1
  ok ← check (is_name name) place
  give name

-- the table with the number; the one with which a run begins takes no arguments
unfoldable pub a_table : Version → Roster → Option ℕ → ℕ → Reading Table
a_table v r main number = do
  name ← a_name
  arity ← valid 1 (starts main number)
  count ← valid 1 (λ n. nat_le n (most_rows v))
  rows ← listed count 0 (λ i. a_row v r)
  positions ← listed arity 0 (λ i. a_position v r)
  give (record { name = name; arity = arity; rows = rows; positions = positions })

-- ---- codes

-- the operands of an instruction that pushes a string
abbrev pub a_text : ℕ → ℕ → Reading Instr
a_text end place = do
  ok ← room end place 5
  count ← a_number 4
  whole ← room end place (5 + count)
  text ← bytes count
  give (instrs.Text text)

-- the operands of an instruction that makes a closure
abbrev pub a_closure : ℕ → ℕ → Reading Instr
a_closure end place = do
  ok ← room end place 9
  block ← a_number 4
  count ← a_number 4
  whole ← room end place (9 + 4 * count)
  xs ← listed count 0 (λ i. a_number 4)
  give (instrs.Closure block xs)

-- the operands of a resend
abbrev pub a_resend : Roster → Reading Instr
a_resend r = do
  table ← a_symbol r.tables
  row ← a_number 1
  give (instrs.Resend table row)

-- the operands of an instruction that makes an object: whether it ends in its block, whether its bytes are there, and then its parts
abbrev pub a_new : Roster → ℕ → ℕ → Reading Instr
a_new r end place = do
  ok ← room end place 9
  object ← a_number 4
  count ← a_number 4
  whole ← room end place (9 + 4 * count)
  there ← present (4 * count)
  plain ← check (nat_lt object r.objects) (place + 1)
  fields ← listed count 0 (λ i. a_symbol r.fields)
  give (instrs.New object fields)

-- the operands of an instruction that ends the run, looked at in the same order
abbrev pub a_failure : ℕ → ℕ → Reading Instr
a_failure end place = do
  ok ← room end place 3
  kind ← a_number 1
  count ← a_number 1
  whole ← room end place (4 + count)
  there ← present (count + 1)
  known ← check (nat_lt kind 3) (place + 1)
  name ← bytes count
  good ← check (is_name name) (place + 2)
  arity ← a_number 1
  none ← check ((kind == 2) || (arity == 0)) (place + 3 + count)
  give (instrs.Fail kind name arity)

-- the readings of operands, by the byte of the operation
abbrev pub instructions : Roster → ℕ → ℕ → List (Reading Instr)
instructions r end place =
    wrong place ∷
    fixed end place 17 (an_integer >>= λ z. give (instrs.Int z)) ∷
    a_text end place ∷
    fixed end place 5 (a_symbol r.objects >>= λ o. give (instrs.Object o)) ∷
    fixed end place 5 (a_number 4 >>= λ x. give (instrs.Load x)) ∷
    fixed end place 5 (a_number 4 >>= λ x. give (instrs.Store x)) ∷
    fixed end place 5 (a_number 4 >>= λ x. give (instrs.Cell x)) ∷
    fixed end place 5 (a_number 4 >>= λ x. give (instrs.CellGet x)) ∷
    fixed end place 5 (a_number 4 >>= λ x. give (instrs.CellSet x)) ∷
    a_closure end place ∷
    fixed end place 5 (a_symbol r.tables >>= λ t. give (instrs.Send t)) ∷
    fixed end place 5 (a_symbol r.codes >>= λ c. give (instrs.Call c)) ∷
    fixed end place 6 (a_resend r) ∷
    fixed end place 2 (below 1 18 >>= λ p. give (instrs.Prim p)) ∷
    fixed end place 5 (a_symbol r.fields >>= λ f. give (instrs.Get f)) ∷
    fixed end place 5 (a_symbol r.fields >>= λ f. give (instrs.Set f)) ∷
    a_new r end place ∷
    give instrs.Pop ∷ give instrs.Ret ∷ give instrs.Home ∷ give instrs.Mark ∷
    a_failure end place ∷ []

-- an instruction of a block with the end; the depth counts for nothing
unfoldable pub an_instruction : Roster → ℕ → ℕ → Reading Instr
an_instruction r end depth = do
  place ← here
  tag ← a_number 1
  chosen (instructions r end place) place tag

-- instructions do not depend on those before them
abbrev pub no_depth : ℕ → Instr → ℕ
no_depth depth instr = 0

-- the block with the number among those of its code
unfoldable pub a_block : Roster → ℕ → Reading Block
a_block r number = do
  locals ← a_number 4
  captures ← valid 4 (may_capture number)
  formals ← valid 1 (λ n. nat_le (captures + n) locals)
  count ← a_number 4
  begin ← here
  code ← until count (begin + count) (an_instruction r (begin + count)) no_depth 0
  give (record { locals = locals; captures = captures; formals = formals; code = code })

-- the blocks of a code
unfoldable pub a_code : Roster → Reading (List Block)
a_code r = do
  count ← valid 4 (λ n. nat_le 1 n)
  listed count 0 (a_block r)

-- ---- images

-- the objects that an image names itself
unfoldable pub an_own : Roster → Reading Own
an_own r = do
  closure ← a_symbol r.objects
  lie ← a_symbol r.objects
  int ← a_symbol r.objects
  nil ← a_symbol r.objects
  string ← a_symbol r.objects
  truth ← a_symbol r.objects
  give (record { closure = closure; false_ = lie; int = int; nil = nil; string = string; true_ = truth })

-- all that follows the byte of the version
unfoldable pub the_parts : Version → Reading Image
the_parts v = do
  fields ← a_number 4
  objects ← a_number 4
  tests ← a_number 4
  tables ← a_number 4
  codes ← a_number 4
  let r : Roster = record { fields = fields; objects = objects; tests = tests; tables = tables; codes = codes } in do
    own ← an_own r
    main ← an_optional tables
    all_shapes ← listed objects 0 (λ i. a_shape r)
    all_tests ← listed tests 0 (λ i. a_test r)
    all_tables ← listed tables 0 (a_table v r main)
    all_codes ← listed codes 0 (λ i. a_code r)
    give (record { fields = fields; own = own; main = main; shapes = all_shapes; tests = all_tests; tables = all_tables; codes = all_codes })

-- the four bytes with which each image begins
unfoldable pub a_magic : Reading (Unit {0})
a_magic = do
  front ← bytes 4
  if bytes_eq front (codes "VXIC") then give tt else (λ at. Err BadMagic)

-- the version of which this is the byte
abbrev pub versioned : ℕ → Reading Version
versioned b = if b == 1 then give One else (if b == 2 then give Two else (λ at. Err (faults.Version b)))

-- an image, and its version
unfoldable pub an_image : Reading (Version × Image)
an_image = do
  magic ← a_magic
  byte ← a_number 1
  v ← versioned byte
  x ← the_parts v
  give (v, x)

-- nothing follows
abbrev pub ended : Result ((Version × Image) × Cursor) FormatFault → Result (Version × Image) FormatFault
ended (Ok x) = if nat_eq (length x.1.left) 0 then Ok x.0 else Err (Trailing x.1.place)
ended (Err fault) = Err fault

-- What bytes mean, or the first fault in them. All of them must belong to the image.
unfoldable pub loaded : Bytes → Result (Version × Image) FormatFault
loaded bytes = ended (an_image (record { place = 0; left = bytes }))

-- the bytes of the same image in version 2, or the first fault
abbrev pub widened : Result (Version × Image) FormatFault → Result Bytes FormatFault
widened (Ok x) = Ok (image_bytes Two x.1)
widened (Err fault) = Err fault

-- The image that bytes stand for, in version 2. Where they stand for one in version 1, each mask gets 64 further bits, all 0.
abbrev pub widen : Bytes → Result Bytes FormatFault
widen bytes = widened (loaded bytes)
