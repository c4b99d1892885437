-- What the machine's words, stacks and lists mean.
use Rattle.std.specs.Prelude.{◌≡◌, ℕ, ◌+◌, ◌<◌, ◌≤◌, Bool, true, false, List, [], ◌∷◌, ◌++◌, length, map, get_or, slice_get, take, drop, reverse, Option}
use Rattle.std.specs.Prelude.{Some, None, Result, IfOk}
use Rattle.std.specs.declared.alloc.AllocError.{AllocError}
use Rattle.vx_syntax.specs.Expressions.{Bytes}
use Rattle.vx_model.specs.declared.value.Value.{Value}
use Rattle.vx_model.specs.declared.value.Value.TheVariants as v
use Rattle.vx_format.specs.declared.image.Instr.{Instr}
use Rattle.vx_format.specs.declared.image.Block.{Block}
use Rattle.vx_format.specs.declared.image.Table.{Table}
use Rattle.vx_format.specs.declared.image.Position.{Position}
use Rattle.vx_format.specs.declared.image.Image.{Image}
use Rattle.vx_names.specs.Name.{IsName}
use Rattle.vx_compilation.specs.Activations.{Slot, Unset, Plain, Cell, Closed, State, Target}
use Rattle.vx_compilation.specs.Machine.{Frame, Machine, Stepped, On, Over, Stops, Finds, Lacks, act, reaches, waiting, going, delivered, turns}
use Rattle.vx_compilation.specs.Machine.{evaluates, repeats, gets, sets}
use Rattle.vx_compilation.specs.Machine as machine
use Rattle.vx_places.specs.Dispatch.{Placed}
use Rattle.vx_places.specs.ImageMachine.{by_place, block_at, instruction, codes_of, world}
use Rattle.vx_machine.specs.declared.word.Word.{Word}
use Rattle.vx_machine.specs.declared.word.Word.TheVariants as w
use Rattle.vx_machine.specs.declared.word.Local.{Local}
use Rattle.vx_machine.specs.declared.word.Local.TheVariants as h
use Rattle.vx_machine.specs.declared.word.Held.{Held}
use Rattle.vx_machine.specs.declared.word.Role.{Role}
use Rattle.vx_machine.specs.declared.word.Role.TheVariants as roles
use Rattle.vx_machine.specs.declared.word.Object.{Object}
use Rattle.vx_machine.specs.declared.word.Step.{Step}
use Rattle.vx_machine.specs.declared.word.Step.TheVariants as steps
use Rattle.vx_machine.specs.Cuts.{Cut, Stacked, Extends, AreNamed}
use Rattle.vx_machine.specs.Rising.{Rises}

-- a machine as it is kept
pub record Kept : Type 0 where
  pub stacked : Stacked
  pub objects : List Object
  pub cells : List Word
  pub closures : List Held
  pub captured : List Local
  pub texts : List Bytes
  pub next : ℕ
  pub lines : List Bytes

-- All strings that are made, all that is captured and all lines, up to some later moment. What the words of a moment mean doesn't change when more is
-- added.
pub record Whole : Type 0 where
  pub texts : List Bytes
  pub captured : List Local
  pub lines : List Bytes

-- the moment is later than the machine
abbrev pub Covers : Whole → Kept → Type 0
Covers all m = Extends m.texts all.texts × Extends m.captured all.captured × Extends m.lines all.lines

-- strings that are made are places in the list of all of them
abbrev pub value_of : List Bytes → Word → Value
value_of texts (w.Int z) = v.Int z
value_of texts (w.Constant bytes) = v.Text bytes.now
value_of texts (w.Text place) = v.Text (get_or texts place [])
value_of texts (w.Closure c) = v.Closure c
value_of texts (w.Object o) = v.Object o

abbrev pub slot_of : List Bytes → Local → Slot
slot_of texts h.Unset = Unset
slot_of texts (h.Plain word) = Plain (value_of texts word)
slot_of texts (h.Cell c) = Cell c

abbrev pub closed_of : Whole → Held → Closed by_place
closed_of all held = record {
  code = held.code;
  block = held.block;
  captures = map (slot_of all.texts) (take held.count (drop held.first all.captured));
  home = held.home;
}

abbrev pub role_of : Whole → Role → machine.Role by_place
role_of all (roles.Method number) = machine.Method number
role_of all (roles.Evaluation home) = machine.Evaluation home
role_of all (roles.Turn held) = machine.Turn (closed_of all held)

abbrev pub frame_of : Image → Whole → Cut → Frame by_place
frame_of image all cut = record {
  code = cut.code;
  left = map (instruction image) cut.left;
  stack = map (value_of all.texts) cut.operands;
  locals = map (slot_of all.texts) cut.locals;
  role = role_of all cut.role;
}

abbrev pub placed_of : List Bytes → Object → Placed
placed_of texts o = record { class = o.class; slots = map (λ slot. (slot.0, value_of texts slot.1)) o.slots }

abbrev pub Texts : Type 0
Texts = List Bytes

abbrev pub things_of : Texts → List Object → List Placed
things_of texts objects = map (placed_of texts) objects

abbrev pub state_of : Whole → Kept → State by_place
state_of all m = record {
  objects = map (placed_of all.texts) m.objects;
  cells = map (value_of all.texts) m.cells;
  closures = map (closed_of all) m.closures;
  next = m.next;
  lines = m.lines;
}

abbrev pub machine_of : Image → Whole → Kept → Machine by_place
machine_of image all m = record {
  now = frame_of image all m.stacked.running;
  below = map (frame_of image all) m.stacked.waiting;
  state = state_of all m;
}

-- what a step answers, where the definition says that next comes, and the machine after it
abbrev pub Does : Step → Stepped by_place → Machine by_place → Type 0
Does steps.On next after = next ≡ On after
Does steps.Over next after = next ≡ Over after.state
Does steps.Lacks next after = next ≡ Lacks
Does steps.Finds next after = next ≡ Finds
Does (steps.Stops error) next after = next ≡ Stops error after.state

-- what an instruction comes to
abbrev pub acted : Image → Instr → Machine by_place → Stepped by_place
acted image instr m = act (world image) (codes_of image) (instruction image instr) m

-- a call did what the definition says of the instruction, if it had memory
abbrev pub Did : Image → Instr → Result Step AllocError → Kept → Kept → Type 0
Did image instr result old new = IfOk result (λ step. (all : Whole) → Covers all new →
    Does step (acted image instr (machine_of image all old)) (machine_of image all new))

-- the arguments, which are so many of the topmost operands, and the activations that wait without them
abbrev pub arguments : Whole → ℕ → Kept → List Value
arguments all count m = map (value_of all.texts) (reverse (take count m.stacked.running.operands))

abbrev pub frames : Image → Whole → ℕ → Kept → List (Frame by_place)
frames image all count m = waiting (machine_of image all m) (map (value_of all.texts) (drop count m.stacked.running.operands))

-- what a message comes to that finds this and has so many arguments
abbrev pub reached : Image → Target by_place → Whole → ℕ → Kept → Stepped by_place
reached image target all count m = reaches (world image) (codes_of image) target (arguments all count m) (frames image all count m) (state_of all m)

-- a call did what the definition says of it
abbrev pub Reached : Image → Target by_place → ℕ → Result Step AllocError → Kept → Kept → Type 0
Reached image target count result old new = IfOk result (λ step. (all : Whole) → Covers all new →
    Does step (reached image target all count old) (machine_of image all new))

-- the activation is left with a value
abbrev pub Delivers : Image → Word → Result Step AllocError → Kept → Kept → Type 0
Delivers image word result old new = IfOk result (λ step. (all : Whole) → Covers all new
    → Does step (going (delivered (value_of all.texts word) (machine_of image all old).below) (state_of all old)) (machine_of image all new))

-- the next turn of a loop over the closure begins
abbrev pub Turns : Image → Held → Result Step AllocError → Kept → Kept → Type 0
Turns image held result old new = IfOk result (λ step. (all : Whole) → Covers all new
    → Does step (turns (closed_of all held) (codes_of image held.code held.block) (machine_of image all old).below (state_of all old))
    (machine_of image all new))

abbrev pub is_unset : Local → Bool
is_unset h.Unset = true
is_unset held = false

-- what a closure captures, or none where a local is missing or unset
abbrev pub captured_one : Option Local → Option (List Local) → Option (List Local)
captured_one (Some (h.Plain word)) (Some locals) = Some (h.Plain word ∷ locals)
captured_one (Some (h.Cell c)) (Some locals) = Some (h.Cell c ∷ locals)
captured_one local locals = None

abbrev pub captured_of : List ℕ → List Local → Option (List Local)
captured_of [] locals = Some []
captured_of (x ∷ xs) locals = captured_one (slice_get locals x) (captured_of xs locals)

abbrev pub prefixed : List Local → Option (List Local) → Option (List Local)
prefixed before None = None
prefixed before (Some rest) = Some (before ++ rest)

-- All is captured, or something is missing.
abbrev pub Captures : Bool → List ℕ → List Local → List Local → List Local → Type 0
Captures true xs locals old new = (added : List Local) × (captured_of xs locals ≡ Some added) × (new ≡ old ++ added)
Captures false xs locals old new = captured_of xs locals ≡ None

-- what an evaluation and a loop come to
abbrev pub Evaluates : Image → ℕ → ℕ → Result Step AllocError → Kept → Kept → Type 0
Evaluates image closure count result old new = IfOk result (λ step. (all : Whole) → Covers all new
    → Does step (evaluates (codes_of image) (slice_get (map (closed_of all) old.closures) closure) (arguments all count old)
    (frames image all (count + 1) old) (state_of all old))
    (machine_of image all new))

abbrev pub Repeats : Image → ℕ → Result Step AllocError → Kept → Kept → Type 0
Repeats image closure result old new = IfOk result (λ step. (all : Whole) → Covers all new
    → Does step (repeats (codes_of image) (slice_get (map (closed_of all) old.closures) closure) (frames image all 1 old) (state_of all old))
    (machine_of image all new))

-- what accessors come to
abbrev pub Gets : Image → ℕ → Result Step AllocError → Kept → Kept → Type 0
Gets image field result old new = IfOk result (λ step. (all : Whole) → Covers all new
    → Does step (gets (world image) field (arguments all 1 old) (frames image all 1 old) (state_of all old)) (machine_of image all new))

abbrev pub Sets : Image → ℕ → Result Step AllocError → Kept → Kept → Type 0
Sets image field result old new = IfOk result (λ step. (all : Whole) → Covers all new
    → Does step (sets (world image) field (arguments all 2 old) (frames image all 2 old) (state_of all old)) (machine_of image all new))

-- No block of the image fails with what is no name, the tables' names are names, no table has more rows than masks have bits, and the number of objects has
-- four bytes.
pub record IsFine (image : Image) : Type 0 where
  pub objects : length image.shapes < 4294967296
  pub named : (code block : ℕ) (found : Block) → block_at image code block ≡ Some found → AreNamed found.code
  pub names : (t : ℕ) (table : Table) → slice_get image.tables t ≡ Some table → IsName table.name
  pub rows : (t : ℕ) (table : Table) → slice_get image.tables t ≡ Some table → length table.rows ≤ 128

-- the classes of each position of each table rise
abbrev pub AllRise : Image → Type 0
AllRise image = (t : ℕ) (table : Table) (p : ℕ) (position : Position) → slice_get image.tables t ≡ Some table
    → slice_get table.positions p ≡ Some position → Rises position.classes

-- what the rows of a table beat
abbrev pub beats_in : Table → List ℕ
beats_in table = map (λ row. row.beats) table.rows

-- for each table, what its rows beat
abbrev pub beats_of : Image → List (List ℕ)
beats_of image = map beats_in image.tables

-- an image with what was made ready for it
pub record IsReady (image : Image) (beats : List (List ℕ)) (rise : Bool) : Type 0 where
  pub fine : IsFine image
  pub beaten : beats ≡ beats_of image
  pub rising : rise ≡ true → AllRise image

-- what covers the one covers the other, since nothing that was made or printed is forgotten
abbrev pub IsLater : Kept → Kept → Type 0
IsLater old new = (all : Whole) → Covers all new → Covers all old

-- up to this moment
abbrev pub whole_of : Kept → Whole
whole_of m = record { texts = m.texts; captured = m.captured; lines = m.lines }
