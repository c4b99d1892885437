-- The bytes of an image, and which images have bytes.
use Rattle.std.specs.Char.{is_ascii_alphabetic, is_ascii_digit}
use Rattle.std.specs.List.{list_all, list_any}
use Rattle.std.specs.Str.{bytes_eq}
use Rattle.std.specs.Prelude.{◌≡◌, ℕ, ◌+◌, ◌-◌, Bool, true, false, ◌&&◌, ◌||◌, not, List, [], ◌∷◌, ◌++◌, length, Option, Some, None, nat_lt, nat_le}
use Rattle.std.specs.Prelude.{◌==◌, codes}
use Rattle.vx_format.specs.declared.image.Roster.{Roster}
use Rattle.vx_format.specs.declared.image.Version.{Version}
use Rattle.vx_format.specs.declared.image.Version.TheVariants.{One, Two}
use Rattle.vx_format.specs.declared.image.Initial.{Initial}
use Rattle.vx_format.specs.declared.image.Initial.TheVariants as values
use Rattle.vx_format.specs.declared.image.Slot.{Slot}
use Rattle.vx_format.specs.declared.image.ClassTest.{ClassTest}
use Rattle.vx_format.specs.declared.image.Step.{Step}
use Rattle.vx_format.specs.declared.image.Step.TheVariants as forms
use Rattle.vx_format.specs.declared.image.Test.{Test}
use Rattle.vx_format.specs.declared.image.ClassMask.{ClassMask}
use Rattle.vx_format.specs.declared.image.Split.{Split}
use Rattle.vx_format.specs.declared.image.Does.{Does}
use Rattle.vx_format.specs.declared.image.Does.TheVariants as leads
use Rattle.vx_format.specs.declared.image.Row.{Row}
use Rattle.vx_format.specs.declared.image.Position.{Position}
use Rattle.vx_format.specs.declared.image.Table.{Table}
use Rattle.vx_format.specs.declared.image.Instr.{Instr}
use Rattle.vx_format.specs.declared.image.Instr.TheVariants as instrs
use Rattle.vx_format.specs.declared.image.Block.{Block}
use Rattle.vx_format.specs.declared.image.Own.{Own}
use Rattle.vx_format.specs.declared.image.Image.{Image}
use Rattle.vx_format.specs.Numbers.{Bytes, number, is_number, integer, is_integer, text, all, each, every, follow}

-- how many there are of what symbols name
abbrev pub roster_of : Image → Roster
roster_of image = record {
  fields = image.fields;
  objects = length image.shapes;
  tests = length image.tests;
  tables = length image.tables;
  codes =
      length image.codes;
}

-- ---- symbols and lists

-- a place in a list of the image
abbrev pub symbol : ℕ → Bytes
symbol = number 4

-- a place below the length of the list
abbrev pub is_symbol : ℕ → ℕ → Bool
is_symbol bound x = is_number 4 x && nat_lt x bound

-- a symbol, or none
abbrev pub optional : Option ℕ → Bytes
optional None = number 4 4294967295
optional (Some x) = number 4 x

-- ffffffff stands for none, so no symbol is that large
abbrev pub is_optional : ℕ → Option ℕ → Bool
is_optional bound None = true
is_optional bound (Some x) = nat_lt x 4294967295 && nat_lt x bound

-- bytes, and a list, with their length before them
abbrev pub long : ℕ → Bytes → Bytes
long width bytes = number width (length bytes) ++ bytes

-- a list, with how many there are before it
abbrev pub list : {A : Type 0} → ℕ → (A → Bytes) → List A → Bytes
list width spell xs = number width (length xs) ++ each spell xs

-- a list whose length has so many bytes and whose parts all fit
abbrev pub is_list : {A : Type 0} → ℕ → (A → Bool) → List A → Bool
is_list width fits xs = is_number width (length xs) && every (λ i. fits) 0 xs

-- ---- shapes

-- the byte that says what a slot holds at first
abbrev pub initial_tag : Initial → ℕ
initial_tag values.Nil = 0
initial_tag values.False = 1
initial_tag values.True = 2
initial_tag (values.Int z) = 3
initial_tag (values.Text bytes) = 4

-- what stands behind that byte
abbrev pub initial_parts : Initial → Bytes
initial_parts (values.Int z) = integer z
initial_parts (values.Text bytes) = long 4 bytes
initial_parts start = []

-- what a slot holds at first
abbrev pub initial : Initial → Bytes
initial start = number 1 (initial_tag start) ++ initial_parts start

-- numbers and texts have the bytes that are kept for them
abbrev pub is_initial : Initial → Bool
is_initial (values.Int z) = is_integer z
is_initial (values.Text bytes) = is_number 4 (length bytes)
is_initial start = true

-- a field, and what its slot holds at first
abbrev pub slot : Slot → Bytes
slot x = text (symbol x.field ∷ initial x.start ∷ [])

-- the field is one of the image
abbrev pub is_slot : Roster → Slot → Bool
is_slot r x = all (is_symbol r.fields x.field ∷ is_initial x.start ∷ [])

-- the slots of an object
abbrev pub shape : List Slot → Bytes
shape = list 4 slot

-- each slot fits
abbrev pub is_shape : Roster → List Slot → Bool
is_shape r = is_list 4 (is_slot r)

-- ---- tests

-- a class, and the field for each tested name
abbrev pub class_test : ClassTest → Bytes
class_test x = text (symbol x.object ∷ each optional x.fields ∷ [])

-- there is a field, or none, for each tested name
abbrev pub is_class_test : Roster → ℕ → ClassTest → Bool
is_class_test r names x = all (is_symbol r.objects x.object ∷ (every (λ i. is_optional r.fields) 0 x.fields && (length x.fields == names)) ∷ [])

-- the byte that says what a step does
abbrev pub step_tag : Step → ℕ
step_tag (forms.Compare operator name z) = 0
step_tag forms.And = 1
step_tag forms.Or = 2
step_tag forms.Not = 3

-- what stands behind that byte: operator, name and number of a comparison
abbrev pub step_parts : Step → Bytes
step_parts (forms.Compare operator name z) = text (number 1 operator ∷ symbol name ∷ integer z ∷ [])
step_parts step = []

-- a step of a test
abbrev pub step : Step → Bytes
step x = number 1 (step_tag x) ++ step_parts x

-- how many truth values a step leaves where there were so many
abbrev pub depth_after : ℕ → Step → ℕ
depth_after depth (forms.Compare operator name z) = depth + 1
depth_after depth forms.And = depth - 1
depth_after depth forms.Or = depth - 1
depth_after depth forms.Not = depth

-- a step finds the truth values that it joins
abbrev pub is_step : ℕ → ℕ → Step → Bool
is_step names depth (forms.Compare operator name z) = all ((is_number 1 operator && nat_lt operator 5) ∷ is_symbol names name ∷ is_integer z ∷ [])
is_step names depth forms.And = nat_le 2 depth
is_step names depth forms.Or = nat_le 2 depth
is_step names depth forms.Not = nat_le 1 depth

-- how many truth values are left at the end
abbrev pub values_left : ℕ → List Step → ℕ
values_left depth [] = depth
values_left depth (step ∷ rest) = values_left (depth_after depth step) rest

-- the steps of a test, with the number of their bytes before them
abbrev pub form : List Step → Bytes
form steps = number 4 (length (each step steps)) ++ each step steps

-- each step finds what it joins, and one truth value is left at the end
abbrev pub is_form : ℕ → List Step → Bool
is_form names steps = is_number 4 (length (each step steps)) && (follow (is_step names) depth_after 0 steps && (values_left 0 steps == 1))

-- the test of a predicate
abbrev pub test : Test → Bytes
test x = text (number 4 (length x.classes) ∷ number 4 x.names ∷ each class_test x.classes ∷ form x.steps ∷ [])

-- each class and the steps fit
abbrev pub is_test : Roster → Test → Bool
is_test r x = all (is_number 4 (length x.classes) ∷ is_number 4 x.names ∷ every (λ i. is_class_test r x.names) 0 x.classes ∷ is_form x.names x.steps ∷ [])

-- ---- tables

-- how many bytes a mask has
abbrev pub mask_width : Version → ℕ
mask_width One = 8
mask_width Two = 16

-- how many rows a table has at most
abbrev pub most_rows : Version → ℕ
most_rows One = 64
most_rows Two = 128

-- the rows that count, one bit each
abbrev pub mask : Version → ℕ → Bytes
mask v = number (mask_width v)

-- no bit stands beyond the width
abbrev pub is_mask : Version → ℕ → Bool
is_mask v = is_number (mask_width v)

-- a class and the code for it
abbrev pub pair : ℕ × ℕ → Bytes
pair x = text (symbol x.0 ∷ symbol x.1 ∷ [])

-- both are in the image
abbrev pub is_pair : Roster → ℕ × ℕ → Bool
is_pair r x = all (is_symbol r.objects x.0 ∷ is_symbol r.codes x.1 ∷ [])

-- no split is the byte 255
abbrev pub split : Option Split → Bytes
split None = number 1 255
split (Some x) = text (number 1 x.position ∷ list 1 pair x.pairs ∷ [])

-- the position 255 would mean that there is no split
abbrev pub is_split : Roster → Option Split → Bool
is_split r None = true
is_split r (Some x) = all (nat_lt x.position 255 ∷ is_list 1 (is_pair r) x.pairs ∷ [])

-- the byte that says what a row leads to
abbrev pub does_tag : Does → ℕ
does_tag (leads.Code code clones) = 0
does_tag (leads.Prim p) = 1
does_tag (leads.Get field) = 2
does_tag (leads.Set field) = 3

-- what stands behind that byte
abbrev pub does_parts : Does → Bytes
does_parts (leads.Code code clones) = text (symbol code ∷ split clones ∷ [])
does_parts (leads.Prim p) = number 1 p
does_parts (leads.Get field) = symbol field
does_parts (leads.Set field) = symbol field

-- what a row leads to
abbrev pub does : Does → Bytes
does x = number 1 (does_tag x) ++ does_parts x

-- there are 18 primitives
abbrev pub is_prim : ℕ → Bool
is_prim p = is_number 1 p && nat_lt p 18

-- codes, fields and primitives are in range
abbrev pub is_does : Roster → Does → Bool
is_does r (leads.Code code clones) = all (is_symbol r.codes code ∷ is_split r clones ∷ [])
is_does r (leads.Prim p) = is_prim p
is_does r (leads.Get field) = is_symbol r.fields field
is_does r (leads.Set field) = is_symbol r.fields field

-- what a row leads to, and the rows that it goes before
abbrev pub row : Version → Row → Bytes
row v x = text (does x.does ∷ mask v x.beats ∷ [])

-- both fit
abbrev pub is_row : Version → Roster → Row → Bool
is_row v r x = all (is_does r x.does ∷ is_mask v x.beats ∷ [])

-- a class or a test, and its mask
abbrev pub class_mask : Version → ClassMask → Bytes
class_mask v x = text (symbol x.symbol ∷ mask v x.mask ∷ [])

-- the class or test is in the image
abbrev pub is_class_mask : Version → ℕ → ClassMask → Bool
is_class_mask v bound x = all (is_symbol bound x.symbol ∷ is_mask v x.mask ∷ [])

-- the default mask, those of classes and those of tests
abbrev pub position : Version → Position → Bytes
position v x = text (mask v x.default ∷ list 4 (class_mask v) x.classes ∷ list 4 (class_mask v) x.tests ∷ [])

-- each mask fits
abbrev pub is_position : Version → Roster → Position → Bool
is_position v r x = all (is_mask v x.default ∷ is_list 4 (is_class_mask v r.objects) x.classes ∷ is_list 4 (is_class_mask v r.tests) x.tests ∷ [])

-- what an identifier begins with, a letter or an underscore
abbrev pub is_letter : ℕ → Bool
is_letter b = is_ascii_alphabetic b || b == 95

-- what an identifier goes on with
abbrev pub is_word_byte : ℕ → Bool
is_word_byte b = is_letter b || is_ascii_digit b

-- a letter, and then letters and digits
abbrev pub is_identifier : Bytes → Bool
is_identifier [] = false
is_identifier (b ∷ rest) = is_letter b && list_all is_word_byte rest

-- the names that are no identifiers
abbrev pub operators : List Bytes
operators =
    codes "+" ∷ codes "-" ∷ codes "*" ∷ codes "/" ∷ codes "%" ∷ codes "<" ∷ codes ">" ∷ codes "<=" ∷ codes ">=" ∷ codes "=" ∷ codes "++" ∷ codes "==" ∷ []

-- an identifier of at most 64 bytes, or an operator
unfoldable pub is_name : Bytes → Bool
is_name bytes = (is_identifier bytes && nat_le (length bytes) 64) || list_any (bytes_eq bytes) operators

-- a selector, its rows and its positions
abbrev pub table : Version → Table → Bytes
table v x = text (long 1 x.name ∷ number 1 x.arity ∷ number 1 (length x.rows) ∷ each (row v) x.rows ∷ each (position v) x.positions ∷ [])

-- the name of a selector, with its length
abbrev pub is_long_name : Bytes → Bool
is_long_name bytes = is_number 1 (length bytes) && is_name bytes

-- the table with which a run begins takes no arguments
abbrev pub starts : Option ℕ → ℕ → ℕ → Bool
starts None place arity = true
starts (Some main) place arity = not (main == place) || (arity == 0)

-- a table has a position for each argument, and no more rows than the version allows
abbrev pub is_table : Version → Roster → Option ℕ → ℕ → Table → Bool
is_table v r main place x = all (is_long_name x.name ∷ (is_number 1 x.arity && starts main place x.arity) ∷
    (is_number 1 (length x.rows) && nat_le (length x.rows) (most_rows v)) ∷ every (λ i. is_row v r) 0 x.rows ∷
    (every (λ i. is_position v r) 0 x.positions && (length x.positions == x.arity)) ∷ [])

-- ---- codes

-- the byte of an operation
abbrev pub op : Instr → ℕ
op (instrs.Int z) = 1
op (instrs.Text bytes) = 2
op (instrs.Object o) = 3
op (instrs.Load x) = 4
op (instrs.Store x) = 5
op (instrs.Cell x) = 6
op (instrs.CellGet x) = 7
op (instrs.CellSet x) = 8
op (instrs.Closure block xs) = 9
op (instrs.Send t) = 10
op (instrs.Call c) = 11
op (instrs.Resend t row) = 12
op (instrs.Prim p) = 13
op (instrs.Get f) = 14
op (instrs.Set f) = 15
op (instrs.New o fs) = 16
op instrs.Pop = 17
op instrs.Ret = 18
op instrs.Home = 19
op instrs.Mark = 20
op (instrs.Fail kind name arity) = 21

-- what stands behind that byte
abbrev pub operands : Instr → Bytes
operands (instrs.Int z) = integer z
operands (instrs.Text bytes) = long 4 bytes
operands (instrs.Object o) = symbol o
operands (instrs.Load x) = number 4 x
operands (instrs.Store x) = number 4 x
operands (instrs.Cell x) = number 4 x
operands (instrs.CellGet x) = number 4 x
operands (instrs.CellSet x) = number 4 x
operands (instrs.Closure block xs) = text (number 4 block ∷ list 4 (number 4) xs ∷ [])
operands (instrs.Send t) = symbol t
operands (instrs.Call c) = symbol c
operands (instrs.Resend t row) = text (symbol t ∷ number 1 row ∷ [])
operands (instrs.Prim p) = number 1 p
operands (instrs.Get f) = symbol f
operands (instrs.Set f) = symbol f
operands (instrs.New o fs) = text (symbol o ∷ list 4 symbol fs ∷ [])
operands (instrs.Fail kind name arity) = text (number 1 kind ∷ long 1 name ∷ number 1 arity ∷ [])
operands simple = []

-- an instruction
abbrev pub instr : Instr → Bytes
instr x = number 1 (op x) ++ operands x

-- a failure of kind 0 or 1 is written with arity 0
abbrev pub is_failure : ℕ → Bytes → ℕ → Bool
is_failure kind name arity = all ((is_number 1 kind && nat_lt kind 3) ∷ is_long_name name ∷ is_number 1 arity ∷ ((kind == 2) || (arity == 0)) ∷ [])

-- symbols and primitives are in range; locals, blocks and rows need not be
abbrev pub is_instr : Roster → Instr → Bool
is_instr r (instrs.Int z) = is_integer z
is_instr r (instrs.Text bytes) = is_number 4 (length bytes)
is_instr r (instrs.Object o) = is_symbol r.objects o
is_instr r (instrs.Load x) = is_number 4 x
is_instr r (instrs.Store x) = is_number 4 x
is_instr r (instrs.Cell x) = is_number 4 x
is_instr r (instrs.CellGet x) = is_number 4 x
is_instr r (instrs.CellSet x) = is_number 4 x
is_instr r (instrs.Closure block xs) = all (is_number 4 block ∷ is_list 4 (is_number 4) xs ∷ [])
is_instr r (instrs.Send t) = is_symbol r.tables t
is_instr r (instrs.Call c) = is_symbol r.codes c
is_instr r (instrs.Resend t row) = all (is_symbol r.tables t ∷ is_number 1 row ∷ [])
is_instr r (instrs.Prim p) = is_prim p
is_instr r (instrs.Get f) = is_symbol r.fields f
is_instr r (instrs.Set f) = is_symbol r.fields f
is_instr r (instrs.New o fs) = all (is_symbol r.objects o ∷ is_list 4 (is_symbol r.fields) fs ∷ [])
is_instr r (instrs.Fail kind name arity) = is_failure kind name arity
is_instr r simple = true

-- the head of a block, and its instructions with the number of their bytes before them
abbrev pub block : Block → Bytes
block x = text (number 4 x.locals ∷ number 4 x.captures ∷ number 1 x.formals ∷ number 4 (length (each instr x.code)) ∷ each instr x.code ∷ [])

-- block 0 has no captures
abbrev pub may_capture : ℕ → ℕ → Bool
may_capture place captures = not (place == 0) || (captures == 0)

-- no block has fewer locals than captures and formals
abbrev pub is_block : Roster → ℕ → Block → Bool
is_block r place x = all (is_number 4 x.locals ∷ (is_number 4 x.captures && may_capture place x.captures) ∷
    (is_number 1 x.formals && nat_le (x.captures + x.formals) x.locals) ∷ is_number 4 (length (each instr x.code)) ∷ every (λ i. is_instr r) 0 x.code ∷ [])

-- the blocks of a code
abbrev pub code : List Block → Bytes
code = list 4 block

-- there is at least one block, and each fits at its place
abbrev pub is_code : Roster → List Block → Bool
is_code r blocks = (is_number 4 (length blocks) && nat_le 1 (length blocks)) && every (is_block r) 0 blocks

-- ---- images

-- the objects that an image names itself
abbrev pub own : Own → Bytes
own x = text (symbol x.closure ∷ symbol x.false_ ∷ symbol x.int ∷ symbol x.nil ∷ symbol x.string ∷ symbol x.true_ ∷ [])

-- each is an object of the image
abbrev pub is_own : Roster → Own → Bool
is_own r x = all (is_symbol r.objects x.closure ∷ is_symbol r.objects x.false_ ∷ is_symbol r.objects x.int ∷ is_symbol r.objects x.nil ∷
    is_symbol r.objects x.string ∷ is_symbol r.objects x.true_ ∷ [])

-- the byte of the version
abbrev pub version_byte : Version → ℕ
version_byte One = 1
version_byte Two = 2

-- all that follows the byte of the version
abbrev pub parts : Version → Image → Bytes
parts v x = text (number 4 x.fields ∷ number 4 (length x.shapes) ∷ number 4 (length x.tests) ∷ number 4 (length x.tables) ∷ number 4 (length x.codes) ∷
    own x.own ∷ optional x.main ∷ each shape x.shapes ∷ each test x.tests ∷ each (table v) x.tables ∷ each code x.codes ∷ [])

-- each part fits the numbers of the head
abbrev pub fits : Version → Roster → Image → Bool
fits v r x = all (is_number 4 x.fields ∷ is_number 4 (length x.shapes) ∷ is_number 4 (length x.tests) ∷ is_number 4 (length x.tables) ∷
    is_number 4 (length x.codes) ∷
    is_own r x.own ∷ is_optional r.tables x.main ∷ every (λ i. is_shape r) 0 x.shapes ∷ every (λ i. is_test r) 0 x.tests ∷
    every (is_table v r x.main) 0 x.tables ∷ every (λ i. is_code r) 0 x.codes ∷ [])

-- whether an image has bytes, and keeps what loaded images keep
abbrev pub is_image : Version → Image → Bool
is_image v x = fits v (roster_of x) x

-- The bytes of an image.
abbrev pub image_bytes : Version → Image → Bytes
image_bytes v x = text (codes "VXIC" ∷ number 1 (version_byte v) ∷ parts v x ∷ [])

-- Bytes are those of an image in some version.
abbrev pub Laid : Bytes → Type 0
Laid bytes = (v : Version) × (x : Image) × (is_image v x ≡ true) × (bytes ≡ image_bytes v x)
