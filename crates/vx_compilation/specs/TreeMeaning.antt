-- What trees mean: their evaluation, call by call, with an allowance of calls.
use Rattle.std.specs.Prelude.{ℕ, zero, suc, ◌==◌, Bool, true, false, List, [], ◌∷◌, length, map, codes, Option, Some, None, slice_get}
use Rattle.vx_names.specs.declared.key.Selector.{Selector}
use Rattle.vx_names.specs.declared.key.MethodKey.{MethodKey}
use Rattle.vx_names.specs.declared.key.FieldKey.{FieldKey}
use Rattle.vx_syntax.specs.Expressions.{Bytes}
use Rattle.vx_model.specs.declared.value.Value.{Value}
use Rattle.vx_model.specs.declared.value.Value.TheVariants as v
use Rattle.vx_model.specs.declared.value.Thing.{Thing}
use Rattle.vx_model.specs.declared.report.RunError.{RunError}
use Rattle.vx_model.specs.declared.report.RunError.TheVariants as e
use Rattle.vx_model.specs.declared.report.Report.{Report}
use Rattle.vx_model.specs.declared.report.Report.TheVariants as r
use Rattle.vx_model.specs.declared.primitives.Deed.{Deed}
use Rattle.vx_model.specs.declared.primitives.Deed.TheVariants.{Answers, Prints, Breaks, Evaluates, Repeats, Lacks}
use Rattle.vx_node.specs.declared.node.Variant.{Variant}
use Rattle.vx_compilation.specs.declared.tree.TreeBlock.{TreeBlock}
use Rattle.vx_compilation.specs.declared.tree.Part as p
use Rattle.vx_compilation.specs.declared.tree.Act as a
use Rattle.vx_model.specs.Meaning.{Stop, Back, Fails, Out, Stuck}
use Rattle.vx_compilation.specs.Activations.{Symbols, Making, Makes, NoSlot, NoClass, Slot, Unset, Plain, Cell, Closed, Target, ToCode, ToPrimitive}
use Rattle.vx_compilation.specs.Activations.{ToGetter, ToSetter, ToError, ToNothing, stored, opened, captured}
use Rattle.vx_compilation.specs.Activations as activations

-- ---- trees run by names and keys

-- a send, or a resend from a method, which stands at this place among the methods of its selector
pub data Sent : Type 0 where
  Sends : (selector : Selector) → Sent
  Resends : (method : MethodKey) (row : Option ℕ) → Sent

pub record CodeKey : Type 0 where
  pub method : MethodKey
  pub variant : Variant

abbrev pub by_name : Symbols
by_name = record { Object = Bytes; Message = Sent; Code = CodeKey; Field = FieldKey; Objects = List Thing }

abbrev pub World : Type 0
World = activations.World by_name

abbrev pub State : Type 0
State = activations.State by_name

abbrev pub Closure : Type 0
Closure = Closed by_name

-- the blocks of each code
abbrev pub Blocks : Type 0
Blocks = CodeKey → ℕ → Option TreeBlock

-- ---- how evaluations end

-- a call
pub data Ended : Type 0 where
  Gives : (value : Value) (state : State) → Ended
  Ends : (stop : Stop) (state : State) → Ended

-- an expression inside an activation, which leaves its locals
pub data Done : Type 0 where
  Goes : (value : Value) (locals : List Slot) (state : State) → Done
  Stops : (stop : Stop) (state : State) → Done

-- ---- calls and their allowance

-- All of these stand for sends: a message, a primitive, a field that is read or set, a method that is entered, and a message that nobody understands.
pub data Call : Type 0 where
  Message : (sent : Sent) (values : List Value) → Call
  Primitive : (number : ℕ) (values : List Value) → Call
  Getting : (field : FieldKey) (values : List Value) → Call
  Setting : (field : FieldKey) (values : List Value) → Call
  Entering : (code : CodeKey) (values : List Value) → Call
  Failing : (error : RunError) (values : List Value) → Call

-- An allowance is a list: for each call that is left, what a call does that takes it.
abbrev pub Levels : Type 0
Levels = List (Call → State → Ended)

-- where an evaluation stands: the code, and the activation to which a return leads
pub record Place : Type 0 where
  pub code : CodeKey
  pub home : ℕ

abbrev pub Meaning : Type 0
Meaning = Place → Levels → List Slot → State → Done

abbrev pub after : Done → (Value → List Slot → State → Done) → Done
after (Goes value locals state) go = go value locals state
after (Stops stop state) go = Stops stop state

-- the parts from the left with the same allowance, and then what follows
abbrev pub all : List Meaning → Place → Levels → List Slot → State → (List Value → List Slot → State → Done) → Done
all [] place lower locals state go = go [] locals state
all (part ∷ rest) place lower locals state go =
    after (part place lower locals state) (λ value locals' state'. all rest place lower locals' state' (λ values. go (value ∷ values)))

abbrev pub back_to : List Slot → Ended → Done
back_to locals (Gives value state) = Goes value locals state
back_to locals (Ends stop state) = Stops stop state

-- a call takes one of the allowance, and is out where there is none
abbrev pub call : Levels → Call → List Slot → State → Done
call [] what locals state = Stops Out state
call (does ∷ lower) what locals state = back_to locals (does what state)

-- ---- expressions

abbrev pub literal : Value → Meaning
literal value place lower locals state = Goes value locals state

abbrev pub local_of : Option Slot → List Slot → State → Done
local_of (Some (Plain value)) locals state = Goes value locals state
local_of slot locals state = Stops Stuck state

abbrev pub local : ℕ → Meaning
local x place lower locals state = local_of (slice_get locals x) locals state

abbrev pub content_of : Option Value → List Slot → State → Done
content_of (Some value) locals state = Goes value locals state
content_of None locals state = Stops Stuck state

abbrev pub cell_of : Option Slot → List Slot → State → Done
cell_of (Some (Cell i)) locals state = content_of (slice_get state.cells i) locals state
cell_of slot locals state = Stops Stuck state

abbrev pub cell : ℕ → Meaning
cell x place lower locals state = cell_of (slice_get locals x) locals state

abbrev pub if_so : Bool → Stop → State → (State → Done) → Done
if_so true stop state go = go state
if_so false stop state go = Stops stop state

-- a closure is made of a block that is there and captures as much
abbrev pub closed : Option TreeBlock → ℕ → Place → Option (List Slot) → List Slot → State → Done
closed None block place slots locals state = Stops Stuck state
closed (Some own) block place None locals state = Stops Stuck state
closed (Some own) block place (Some captures) locals state =
    if_so (own.captures == length captures) Stuck state (λ state'.
    Goes (v.Closure (length state'.closures)) locals (activations.with_closure state'
    (record { code = place.code; block = block; captures = captures; home = place.home })))

abbrev pub closure : Blocks → ℕ → List ℕ → Meaning
closure blocks block xs place lower locals state = closed (blocks place.code block) block place (captured xs locals) locals state

abbrev pub calls : (List Value → Call) → List Meaning → Meaning
calls what parts place lower locals state = all parts place lower locals state (λ values locals' state'. call lower (what values) locals' state')

-- a new object is no send
abbrev pub made_of : Making by_name → List Slot → State → Done
made_of (Makes value objects) locals state = Goes value locals (activations.with_objects state objects)
made_of NoSlot locals state = Stops Stuck state
made_of NoClass locals state = Stops Stuck state

abbrev pub makes : World → Bytes → List FieldKey → List Meaning → Meaning
makes world class fields parts place lower locals state =
    all parts place lower locals state (λ values locals' state'. made_of (world.made class fields values state'.objects) locals' state')

-- nor is a name without a value, or an object that can't be made
abbrev pub fails : RunError → List Meaning → Meaning
fails error parts place lower locals state = all parts place lower locals state (λ values locals' state'. Stops (Fails error) state')

abbrev pub failing : RunError → List Meaning → Meaning
failing (e.NotUnderstood selector) parts = calls (Failing (e.NotUnderstood selector)) parts
failing error parts = fails error parts

-- ---- statements

pub data Effect : Type 0 where
  Let : (local : ℕ) → Effect
  LetVar : (local : ℕ) → Effect
  Set : (local : ℕ) → Effect

-- a statement around what its expression is: its meaning, or its code
pub data Statement (A : Type 0) : Type 0 where
  Does : (effect : Effect) (own : A) → Statement A
  Do : (own : A) → Statement A
  Return : (own : A) → Statement A

-- A return in a method's own text only ends it, as it is the last statement; out of a closure it leads to the home activation.
pub data Mode : Type 0 where
  Stays : Mode
  Leaves : Mode

abbrev pub returning : Mode → Place → Value → List Slot → State → Done
returning Stays place value locals state = Goes value locals state
returning Leaves place value locals state = Stops (Back place.home value) state

abbrev pub if_stored : Option (List Slot) → State → (List Slot → State → Done) → Done
if_stored None state go = Stops Stuck state
if_stored (Some locals) state go = go locals state

abbrev pub set_in : Option Slot → Value → List Slot → State → (List Slot → State → Done) → Done
set_in (Some (Cell i)) value locals state go = go locals (activations.with_content state i value)
set_in slot value locals state go = Stops Stuck state

-- what a statement does with its value, before the others
abbrev pub does : Effect → Value → List Slot → State → (List Slot → State → Done) → Done
does (Let x) value locals state go = if_stored (stored x (Plain value) locals) state go
does (LetVar x) value locals state go = if_stored (stored x (Cell (length state.cells)) locals) (activations.with_cell state value) go
does (Set x) value locals state go = set_in (slice_get locals x) value locals state go

-- the value is that of the last statement where it is an expression, and else nil
abbrev pub statements : World → Mode → List (Statement Meaning) → Meaning
statements world mode [] place lower locals state = Goes (world.named (codes "nil")) locals state
statements world mode (Does effect own ∷ rest) place lower locals state =
    after (own place lower locals state) (λ value locals' state'. does effect value locals' state' (statements world mode rest place lower))
statements world mode (Return own ∷ rest) place lower locals state = after (own place lower locals state) (returning mode place)
statements world mode (Do own ∷ []) place lower locals state = own place lower locals state
statements world mode (Do own ∷ next ∷ rest) place lower locals state =
    after (own place lower locals state) (λ value. statements world mode (next ∷ rest) place lower)

-- ---- inlined calls

abbrev pub placed_one : ℕ → Value → Option (List Slot) → Option (List Slot)
placed_one x value None = None
placed_one x value (Some locals) = stored x (Plain value) locals

-- arguments in the locals of formals
abbrev pub placed : List ℕ → List Value → List Slot → Option (List Slot)
placed [] values locals = Some locals
placed (x ∷ xs) [] locals = Some locals
placed (x ∷ xs) (value ∷ values) locals = placed_one x value (placed xs values locals)

-- an inlined body takes one of the allowance and the number of an activation, as a called one does
abbrev pub inside : World → List ℕ → List (Statement Meaning) → Place → Levels → List Value → List Slot → State → Done
inside world xs body place [] values locals state = Stops Out state
inside world xs body place (does ∷ lower) values locals state = if_stored (placed xs values locals) (activations.counted state)
    (statements world Stays body place lower)

abbrev pub inlined : World → List Meaning → List ℕ → List (Statement Meaning) → Meaning
inlined world parts xs body place lower locals state = all parts place lower locals state (inside world xs body place lower)

-- ---- trees

abbrev pub field_keys : {n : _} → p.Row_of-Part-New-1-2 n → List FieldKey
field_keys p.end_of-Part-New-1-2 = []
field_keys (p.more_of-Part-New-1-2 key own rest) = key ∷ field_keys rest

abbrev mutual
  pub part : World → Blocks → p.Part → Meaning
  part world blocks (p.Int n) = literal (v.Int n)
  part world blocks (p.Text bytes) = literal (v.Text bytes)
  part world blocks (p.Local x) = local x
  part world blocks (p.Cell x) = cell x
  part world blocks (p.Object name) = literal (world.named name)
  part world blocks (p.Closure block xs) = closure blocks block xs
  part world blocks (p.New' class shape row) = makes world class (field_keys row) (new_parts world blocks row)
  part world blocks (p.Send' selector shape row) = calls (Message (Sends selector)) (parts world blocks row)
  part world blocks (p.Resend' method place shape row) = calls (Message (Resends method place)) (parts world blocks row)
  part world blocks (p.Prim' number shape row) = calls (Primitive number) (parts world blocks row)
  part world blocks (p.Get' field shape row) = calls (Getting field) (parts world blocks row)
  part world blocks (p.Set' field shape row) = calls (Setting field) (parts world blocks row)
  part world blocks (p.Call' method variant shape row) = calls (Entering (record { method = method; variant = variant })) (parts world blocks row)
  part world blocks (p.Inlined' shape row xs shape2 body) = inlined world (parts world blocks row) xs (body_of world blocks body)
  part world blocks (p.Fail' error shape row) = failing error (parts world blocks row)

  pub parts : World → Blocks → {n : _} → p.Row_of-Part n → List Meaning
  parts world blocks p.end_of-Part = []
  parts world blocks (p.more_of-Part own rest) = part world blocks own ∷ parts world blocks rest

  pub new_parts : World → Blocks → {n : _} → p.Row_of-Part-New-1-2 n → List Meaning
  new_parts world blocks p.end_of-Part-New-1-2 = []
  new_parts world blocks (p.more_of-Part-New-1-2 key own rest) = part world blocks own ∷ new_parts world blocks rest

  pub body_of : World → Blocks → {n : _} → p.Row_of-Act n → List (Statement Meaning)
  body_of world blocks p.end_of-Act = []
  body_of world blocks (p.more_of-Act own rest) = statement world blocks own ∷ body_of world blocks rest

  pub statement : World → Blocks → a.Act → Statement Meaning
  statement world blocks (a.Let x own) = Does (Let x) (part world blocks own)
  statement world blocks (a.LetVar x own) = Does (LetVar x) (part world blocks own)
  statement world blocks (a.Set x own) = Does (Set x) (part world blocks own)
  statement world blocks (a.Do own) = Do (part world blocks own)
  statement world blocks (a.Back own) = Return (part world blocks own)

-- ---- calls

abbrev pub mode_of : ℕ → Mode
mode_of zero = Stays
mode_of (suc block) = Leaves

abbrev pub block : World → Blocks → ℕ → TreeBlock → Meaning
block world blocks number own = statements world (mode_of number) (map (statement world blocks) own.acts)

abbrev pub if_fit : Bool → Stop → State → (State → Ended) → Ended
if_fit true stop state go = go state
if_fit false stop state go = Ends stop state

abbrev pub if_home : Bool → ℕ → Value → State → Ended
if_home true home value state = Gives value state
if_home false home value state = Ends (Back home value) state

-- a return ends at its home activation
abbrev pub caught : ℕ → Done → Ended
caught own (Goes value locals state) = Gives value state
caught own (Stops (Back home value) state) = if_home (home == own) home value state
caught own (Stops (Fails error) state) = Ends (Fails error) state
caught own (Stops Out state) = Ends Out state
caught own (Stops Stuck state) = Ends Stuck state

abbrev pub passed : Done → Ended
passed (Goes value locals state) = Gives value state
passed (Stops stop state) = Ends stop state

-- the body of a method, in an activation of its own number
abbrev pub entered : World → Blocks → Levels → CodeKey → Option TreeBlock → List Value → State → Ended
entered world blocks lower code None values state = Ends Stuck state
entered world blocks lower code (Some own) values state =
    if_fit (length own.formals == length values) Stuck state (λ state'. caught state'.next
    (block world blocks 0 own (record { code = code; home = state'.next }) lower (opened own.locals [] values) (activations.counted state')))

-- the body of a closure
abbrev pub evaluated : World → Blocks → Levels → Closure → TreeBlock → List Value → State → Ended
evaluated world blocks lower held own values state =
    passed (block world blocks held.block own (record { code = held.code; home = held.home }) lower (opened own.locals held.captures values) state)

-- the evaluation of a closure costs one more than its send
abbrev pub evaluation : World → Blocks → Levels → Closure → TreeBlock → List Value → State → Ended
evaluation world blocks [] held own values state = Ends Out state
evaluation world blocks (does ∷ lower) held own values state = evaluated world blocks lower held own values state

abbrev pub again : Ended → (State → Ended) → Ended
again (Gives value state) go = go state
again (Ends stop state) go = Ends stop state

-- each turn of a loop costs one, and the next has one less
abbrev pub turns : World → Blocks → Levels → Closure → TreeBlock → State → Ended
turns world blocks [] held own state = Ends Out state
turns world blocks (does ∷ lower) held own state = again (evaluated world blocks lower held own [] state) (turns world blocks lower held own)

-- a closure is to have so many formals
abbrev pub evaluation_of : World → Blocks → Levels → Closure → Option TreeBlock → List Value → State → Ended
evaluation_of world blocks lower held None values state = Ends Stuck state
evaluation_of world blocks lower held (Some own) values state =
    if_fit (length own.formals == length values) (Fails (e.ClosureArity (length values))) state (evaluation world blocks lower held own values)

abbrev pub evaluates : World → Blocks → Levels → Option Closure → List Value → State → Ended
evaluates world blocks lower None values state = Ends Stuck state
evaluates world blocks lower (Some held) values state = evaluation_of world blocks lower held (blocks held.code held.block) values state

abbrev pub turns_of : World → Blocks → Levels → Closure → Option TreeBlock → State → Ended
turns_of world blocks lower held None state = Ends Stuck state
turns_of world blocks lower held (Some own) state = if_fit (length own.formals == 0) (Fails (e.ClosureArity 0)) state (turns world blocks lower held own)

abbrev pub repeats : World → Blocks → Levels → Option Closure → State → Ended
repeats world blocks lower None state = Ends Stuck state
repeats world blocks lower (Some held) state = turns_of world blocks lower held (blocks held.code held.block) state

abbrev pub doing : World → Blocks → Levels → Deed → State → Ended
doing world blocks lower (Answers value) state = Gives value state
doing world blocks lower (Prints line) state = Gives world.nil (activations.with_line state line)
doing world blocks lower (Breaks error) state = Ends (Fails error) state
doing world blocks lower (Evaluates i values) state = evaluates world blocks lower (slice_get state.closures i) values state
doing world blocks lower (Repeats i) state = repeats world blocks lower (slice_get state.closures i) state
doing world blocks lower Lacks state = Ends Stuck state

abbrev pub performing : World → Blocks → Levels → Option Deed → State → Ended
performing world blocks lower (Some what) state = doing world blocks lower what state
performing world blocks lower None state = Ends Stuck state

abbrev pub given : Option Value → State → Ended
given (Some value) state = Gives value state
given None state = Ends Stuck state

abbrev pub getting : World → FieldKey → List Value → State → Ended
getting world field (value ∷ []) state = given (world.got field value state.objects) state
getting world field values state = Ends Stuck state

abbrev pub put_in : World → Option (List Thing) → State → Ended
put_in world (Some objects) state = Gives world.nil (activations.with_objects state objects)
put_in world None state = Ends Stuck state

abbrev pub setting : World → FieldKey → List Value → State → Ended
setting world field (own ∷ value ∷ []) state = put_in world (world.put field own value state.objects) state
setting world field values state = Ends Stuck state

-- by dispatch an accessor may be reached with a value that is no object
abbrev pub of_object : Value → Bytes → Ended → State → Ended
of_object (v.Object i) name ended state = ended
of_object value name ended state = Ends (Fails (e.NoField name)) state

abbrev pub getting_of : World → FieldKey → Bytes → List Value → State → Ended
getting_of world field name (value ∷ []) state = of_object value name (getting world field (value ∷ []) state) state
getting_of world field name values state = Ends Stuck state

abbrev pub setting_of : World → FieldKey → Bytes → List Value → State → Ended
setting_of world field name (own ∷ value ∷ []) state = of_object own name (setting world field (own ∷ value ∷ []) state) state
setting_of world field name values state = Ends Stuck state

abbrev pub reached : World → Blocks → Levels → Target by_name → List Value → State → Ended
reached world blocks lower (ToCode code) values state = entered world blocks lower code (blocks code 0) values state
reached world blocks lower (ToPrimitive number) values state = performing world blocks lower (world.deed number values) state
reached world blocks lower (ToGetter field name) values state = getting_of world field name values state
reached world blocks lower (ToSetter field name) values state = setting_of world field name values state
reached world blocks lower (ToError error) values state = Ends (Fails error) state
reached world blocks lower ToNothing values state = Ends Stuck state

-- what a call does, where what it calls has this allowance
abbrev pub answer : World → Blocks → Levels → Call → State → Ended
answer world blocks lower (Message sent values) state = reached world blocks lower (world.dispatch state.objects sent values) values state
answer world blocks lower (Primitive number values) state = performing world blocks lower (world.deed number values) state
answer world blocks lower (Getting field values) state = getting world field values state
answer world blocks lower (Setting field values) state = setting world field values state
answer world blocks lower (Entering code values) state = entered world blocks lower code (blocks code 0) values state
answer world blocks lower (Failing error values) state = Ends (Fails error) state

abbrev pub one_more : World → Blocks → Levels → Levels
one_more world blocks lower = answer world blocks lower ∷ lower

-- the allowance of so many calls
unfoldable pub levels : World → Blocks → ℕ → Levels
levels world blocks zero = []
levels world blocks (suc n) = one_more world blocks (levels world blocks n)

-- ---- runs

abbrev pub report : Done → Report
report (Goes value locals state) = r.End state.lines
report (Stops (Back home value) state) = r.Error state.lines e.DeadReturn
report (Stops (Fails error) state) = r.Error state.lines error
report (Stops Out state) = r.Unfinished state.lines
report (Stops Stuck state) = r.Stuck state.lines

-- the call of `main` with an allowance of so many calls
unfoldable pub tree_meaning : World → Blocks → State → Sent → ℕ → Report
tree_meaning world blocks begun main n = report (call (levels world blocks n) (Message main []) [] begun)
