-- The machine: one step function, over any symbols and any world.
use Rattle.std.specs.Prelude.{ℕ, zero, suc, ◌==◌, ℤ, Bool, true, false, List, [], ◌∷◌, length, Option, Some, None, slice_get, if◌then◌else◌}
use Rattle.vx_syntax.specs.Expressions.{Bytes}
use Rattle.vx_model.specs.declared.value.Value.{Value}
use Rattle.vx_model.specs.declared.value.Value.TheVariants as v
use Rattle.vx_model.specs.declared.report.RunError.{RunError}
use Rattle.vx_model.specs.declared.report.RunError.TheVariants as e
use Rattle.vx_model.specs.declared.report.Report.{Report}
use Rattle.vx_model.specs.declared.report.Report.TheVariants as r
use Rattle.vx_model.specs.declared.primitives.Deed.{Deed}
use Rattle.vx_model.specs.declared.primitives.Deed.TheVariants as deeds
use Rattle.vx_compilation.specs.Activations.{Symbols, Slot, Plain, Cell, Closed, State, World, Making, Makes, NoSlot, NoClass, Target, ToCode}
use Rattle.vx_compilation.specs.Activations.{ToPrimitive, ToGetter, ToSetter, ToError, ToNothing, stored, opened, captured, with_cell, with_closure}
use Rattle.vx_compilation.specs.Activations.{with_content, with_objects, with_line, counted}

-- Instructions, each with the number of operands that it takes from the stack where its text does not tell it.
pub data Instruction (y : Symbols) : Type 0 where
  PushInt : (n : ℤ) → Instruction y
  PushText : (bytes : Bytes) → Instruction y
  PushObject : (object : y.Object) → Instruction y
  Load : (x : ℕ) → Instruction y
  Store : (x : ℕ) → Instruction y
  NewCell : (x : ℕ) → Instruction y
  GetCell : (x : ℕ) → Instruction y
  SetCell : (x : ℕ) → Instruction y
  Close : (block : ℕ) (xs : List ℕ) → Instruction y
  Send : (message : y.Message) (count : ℕ) → Instruction y
  Enter : (code : y.Code) (count : ℕ) → Instruction y
  Perform : (number count : ℕ) → Instruction y
  Get : (field : y.Field) (count : ℕ) → Instruction y
  Set : (field : y.Field) (count : ℕ) → Instruction y
  Make : (object : y.Object) (fields : List y.Field) (count : ℕ) → Instruction y
  Pop : Instruction y
  Leave : Instruction y
  LeaveHome : Instruction y
  Mark : Instruction y
  Fail : (error : RunError) → Instruction y

-- a block of code
pub record Block (y : Symbols) : Type 0 where
  pub locals : ℕ
  pub captures : ℕ
  pub formals : ℕ
  pub code : List (Instruction y)

-- the blocks of each code
abbrev pub Codes : Symbols → Type 0
Codes y = y.Code → ℕ → Option (Block y)

-- what an activation runs: a method, with its number; a closure of this home; a turn of a loop over a closure
pub data Role (y : Symbols) : Type 0 where
  Method : (number : ℕ) → Role y
  Evaluation : (home : ℕ) → Role y
  Turn : (held : Closed y) → Role y

abbrev pub home_of : {y : Symbols} → Role y → ℕ
home_of (Method number) = number
home_of (Evaluation home) = home
home_of (Turn held) = held.home

-- an activation: the instructions left to it, its operands with the top first, its locals
pub record Frame (y : Symbols) : Type 0 where
  pub code : y.Code
  pub left : List (Instruction y)
  pub stack : List Value
  pub locals : List Slot
  pub role : Role y

abbrev pub frame : {y : Symbols} → y.Code → List (Instruction y) → List Value → List Slot → Role y → Frame y
frame code left stack locals role = record { code = code; left = left; stack = stack; locals = locals; role = role }

-- the activation that runs, those that wait, the innermost first, and the state
pub record Machine (y : Symbols) : Type 0 where
  pub now : Frame y
  pub below : List (Frame y)
  pub state : State y

-- What a step comes to. `Lacks`: the state lacks something. `Finds`: an operand of a wrong class, or an object without the slot.
pub data Stepped (y : Symbols) : Type 0 where
  On : (machine : Machine y) → Stepped y
  Over : (state : State y) → Stepped y
  Stops : (error : RunError) (state : State y) → Stepped y
  Finds : Stepped y
  Lacks : Stepped y

-- the innermost of the activations runs; the run is over where there is none
abbrev pub going : {y : Symbols} → List (Frame y) → State y → Stepped y
going [] state = Over state
going (own ∷ frames) state = On (record { now = own; below = frames; state = state })

-- ---- activations and returns

-- a value for the activation that waits for it
abbrev pub delivered : {y : Symbols} → Value → List (Frame y) → List (Frame y)
delivered value [] = []
delivered value (own ∷ frames) = record own { stack = value ∷ own.stack } ∷ frames

abbrev pub below_at : {y : Symbols} → Bool → List (Frame y) → Option (List (Frame y)) → Option (List (Frame y))
below_at true frames more = Some frames
below_at false frames more = more

abbrev pub below_role : {y : Symbols} → ℕ → Role y → List (Frame y) → Option (List (Frame y)) → Option (List (Frame y))
below_role home (Method number) frames more = below_at (home == number) frames more
below_role home (Evaluation own) frames more = more
below_role home (Turn held) frames more = more

-- the activations below the home, if it has not ended
abbrev pub below : {y : Symbols} → ℕ → List (Frame y) → Option (List (Frame y))
below home [] = None
below home (own ∷ frames) = below_role home own.role frames (below home frames)

abbrev pub unwound : {y : Symbols} → Value → Option (List (Frame y)) → State y → Stepped y
unwound value None state = Stops e.DeadReturn state
unwound value (Some frames) state = going (delivered value frames) state

-- ---- what an instruction needs

-- so many operands from the stack, the last of them on top
abbrev pub popped : ℕ → List Value → List Value → Option (List Value × List Value)
popped zero values stack = Some (values, stack)
popped (suc n) values [] = None
popped (suc n) values (value ∷ stack) = popped n (value ∷ values) stack

abbrev pub if_top : {y : Symbols} → List Value → (Value → List Value → Stepped y) → Stepped y
if_top [] go = Lacks
if_top (value ∷ stack) go = go value stack

abbrev pub if_popped : {y : Symbols} → Option (List Value × List Value) → (List Value → List Value → Stepped y) → Stepped y
if_popped None go = Lacks
if_popped (Some two) go = go two.0 two.1

abbrev pub if_there : {y : Symbols} {A : Type 0} → Option A → (A → Stepped y) → Stepped y
if_there None go = Lacks
if_there (Some found) go = go found

abbrev pub if_plain : {y : Symbols} → Option Slot → (Value → Stepped y) → Stepped y
if_plain (Some (Plain value)) go = go value
if_plain slot go = Lacks

abbrev pub if_cell : {y : Symbols} → Option Slot → (ℕ → Stepped y) → Stepped y
if_cell (Some (Cell place)) go = go place
if_cell slot go = Lacks

abbrev pub if_fits : {y : Symbols} → Bool → Stepped y → (State y → Stepped y) → State y → Stepped y
if_fits true other go state = go state
if_fits false other go state = other

-- ---- calls

-- the first block of a method's code
abbrev pub enters : {y : Symbols} → y.Code → Option (Block y) → List Value → List (Frame y) → State y → Stepped y
enters code None values frames state = Lacks
enters code (Some own) values frames state =
    if_fits (own.formals == length values) Lacks (λ state'. going (frame code own.code [] (opened own.locals [] values) (Method state'.next) ∷ frames)
    (counted state')) state

abbrev pub begins : {y : Symbols} → Closed y → Block y → List Value → Role y → List (Frame y) → State y → Stepped y
begins held own values role frames state = going (frame held.code own.code [] (opened own.locals held.captures values) role ∷ frames) state

abbrev pub evaluates_block : {y : Symbols} → Closed y → Option (Block y) → List Value → List (Frame y) → State y → Stepped y
evaluates_block held None values frames state = Lacks
evaluates_block held (Some own) values frames state =
    if_fits (own.formals == length values) (Stops (e.ClosureArity (length values)) state) (begins held own values (Evaluation held.home) frames) state

abbrev pub evaluates : {y : Symbols} → Codes y → Option (Closed y) → List Value → List (Frame y) → State y → Stepped y
evaluates codes None values frames state = Lacks
evaluates codes (Some held) values frames state = evaluates_block held (codes held.code held.block) values frames state

abbrev pub repeats_block : {y : Symbols} → Closed y → Option (Block y) → List (Frame y) → State y → Stepped y
repeats_block held None frames state = Lacks
repeats_block held (Some own) frames state = if_fits (own.formals == 0) (Stops (e.ClosureArity 0) state) (begins held own [] (Turn held) frames) state

abbrev pub repeats : {y : Symbols} → Codes y → Option (Closed y) → List (Frame y) → State y → Stepped y
repeats codes None frames state = Lacks
repeats codes (Some held) frames state = repeats_block held (codes held.code held.block) frames state

-- what a primitive does; `Deed.Lacks` is an argument of a wrong class
abbrev pub does : {y : Symbols} → World y → Codes y → Deed → List (Frame y) → State y → Stepped y
does world codes (deeds.Answers value) frames state = going (delivered value frames) state
does world codes (deeds.Prints line) frames state = going (delivered world.nil frames) (with_line state line)
does world codes (deeds.Breaks error) frames state = Stops error state
does world codes (deeds.Evaluates i values) frames state = evaluates codes (slice_get state.closures i) values frames state
does world codes (deeds.Repeats i) frames state = repeats codes (slice_get state.closures i) frames state
does world codes deeds.Lacks frames state = Finds

abbrev pub performs : {y : Symbols} → World y → Codes y → Option Deed → List (Frame y) → State y → Stepped y
performs world codes None frames state = Lacks
performs world codes (Some what) frames state = does world codes what frames state

abbrev pub gives : {y : Symbols} → Option Value → List (Frame y) → State y → Stepped y
gives None frames state = Finds
gives (Some value) frames state = going (delivered value frames) state

abbrev pub gets : {y : Symbols} → World y → y.Field → List Value → List (Frame y) → State y → Stepped y
gets world field (value ∷ []) frames state = gives (world.got field value state.objects) frames state
gets world field values frames state = Lacks

abbrev pub puts : {y : Symbols} → World y → Option y.Objects → List (Frame y) → State y → Stepped y
puts world None frames state = Finds
puts world (Some objects) frames state = going (delivered world.nil frames) (with_objects state objects)

abbrev pub sets : {y : Symbols} → World y → y.Field → List Value → List (Frame y) → State y → Stepped y
sets world field (own ∷ value ∷ []) frames state = puts world (world.put field own value state.objects) frames state
sets world field values frames state = Lacks

-- By dispatch an accessor may be reached with a value that is no object.
abbrev pub of_object : {y : Symbols} → Value → Bytes → Stepped y → State y → Stepped y
of_object (v.Object i) name step state = step
of_object value name step state = Stops (e.NoField name) state

abbrev pub gets_of : {y : Symbols} → World y → y.Field → Bytes → List Value → List (Frame y) → State y → Stepped y
gets_of world field name (value ∷ []) frames state = of_object value name (gets world field (value ∷ []) frames state) state
gets_of world field name values frames state = Lacks

abbrev pub sets_of : {y : Symbols} → World y → y.Field → Bytes → List Value → List (Frame y) → State y → Stepped y
sets_of world field name (own ∷ value ∷ []) frames state = of_object own name (sets world field (own ∷ value ∷ []) frames state) state
sets_of world field name values frames state = Lacks

abbrev pub reaches : {y : Symbols} → World y → Codes y → Target y → List Value → List (Frame y) → State y → Stepped y
reaches world codes (ToCode code) values frames state = enters code (codes code 0) values frames state
reaches world codes (ToPrimitive number) values frames state = performs world codes (world.deed number values) frames state
reaches world codes (ToGetter field name) values frames state = gets_of world field name values frames state
reaches world codes (ToSetter field name) values frames state = sets_of world field name values frames state
reaches world codes (ToError error) values frames state = Stops error state
reaches world codes ToNothing values frames state = Lacks

-- ---- what else an instruction does

-- the next turn of a loop
abbrev pub turns : {y : Symbols} → Closed y → Option (Block y) → List (Frame y) → State y → Stepped y
turns held None frames state = Lacks
turns held (Some own) frames state = begins held own [] (Turn held) frames state

abbrev pub leaves : {y : Symbols} → Codes y → Value → Role y → List (Frame y) → State y → Stepped y
leaves codes value (Method number) frames state = going (delivered value frames) state
leaves codes value (Evaluation home) frames state = going (delivered value frames) state
leaves codes value (Turn held) frames state = turns held (codes held.code held.block) frames state

abbrev pub makes : {y : Symbols} → Making y → List (Frame y) → State y → Stepped y
makes (Makes value objects) frames state = going (delivered value frames) (with_objects state objects)
makes NoSlot frames state = Finds
makes NoClass frames state = Lacks

-- ---- instructions of the activation that runs

abbrev pub with_stack : {y : Symbols} → Machine y → List Value → Machine y
with_stack machine stack = record machine { now = record machine.now { stack = stack } }

abbrev pub pushed : {y : Symbols} → Value → Machine y → Stepped y
pushed value machine = On (with_stack machine (value ∷ machine.now.stack))

-- the activations that wait where so much is left of the stack
abbrev pub waiting : {y : Symbols} → Machine y → List Value → List (Frame y)
waiting machine stack = record machine.now { stack = stack } ∷ machine.below

-- with so many operands off the stack
abbrev pub taking : {y : Symbols} → ℕ → Machine y → (List Value → List (Frame y) → Stepped y) → Stepped y
taking count machine go = if_popped (popped count [] machine.now.stack) (λ values stack. go values (waiting machine stack))

-- a local gets what it holds
abbrev pub set_local : {y : Symbols} → Machine y → List Value → Option (List Slot) → State y → Stepped y
set_local machine stack slots state =
    if_there slots (λ slots'. On (record { now = record machine.now { stack = stack; locals = slots' }; below = machine.below; state = state }))

-- a closure is made of a block that is there and captures as much
abbrev pub closes : {y : Symbols} → Option (Block y) → ℕ → Option (List Slot) → Machine y → Stepped y
closes None block slots machine = Lacks
closes (Some own) block None machine = Lacks
closes (Some own) block (Some captures) machine =
    if_fits (own.captures == length captures) Lacks (λ state.
    On (record {
      now = record machine.now { stack = v.Closure (length state.closures) ∷ machine.now.stack };
      below = machine.below;
      state = with_closure state (record { code = machine.now.code; block = block; captures = captures; home = home_of machine.now.role });
    })) machine.state

-- what an instruction does, which is off the code already
abbrev pub act : {y : Symbols} → World y → Codes y → Instruction y → Machine y → Stepped y
act world codes (PushInt n) machine = pushed (v.Int n) machine
act world codes (PushText bytes) machine = pushed (v.Text bytes) machine
act world codes (PushObject object) machine = pushed (world.named object) machine
act world codes (Load x) machine = if_plain (slice_get machine.now.locals x) (λ value. pushed value machine)
act world codes (Store x) machine = if_top machine.now.stack (λ value stack. set_local machine stack (stored x (Plain value) machine.now.locals) machine.state)
act world codes (NewCell x) machine = if_top machine.now.stack (λ value stack. set_local machine stack
    (stored x (Cell (length machine.state.cells)) machine.now.locals) (with_cell machine.state value))
act world codes (GetCell x) machine = if_cell (slice_get machine.now.locals x)
    (λ place. if_there (slice_get machine.state.cells place) (λ value. pushed value machine))
act world codes (SetCell x) machine = if_top machine.now.stack (λ value stack. if_cell (slice_get machine.now.locals x)
    (λ place. On (record (with_stack machine stack) { state = with_content machine.state place value })))
act world codes (Close block xs) machine = closes (codes machine.now.code block) block (captured xs machine.now.locals) machine
act world codes (Send message count) machine = taking count machine (λ values frames. reaches world codes
    (world.dispatch machine.state.objects message values) values frames machine.state)
act world codes (Enter code count) machine = taking count machine (λ values frames. enters code (codes code 0) values frames machine.state)
act world codes (Perform number count) machine = taking count machine (λ values frames. performs world codes (world.deed number values) frames machine.state)
act world codes (Get field count) machine = taking count machine (λ values frames. gets world field values frames machine.state)
act world codes (Set field count) machine = taking count machine (λ values frames. sets world field values frames machine.state)
act world codes (Make object fields count) machine = taking count machine
    (λ values frames. makes (world.made object fields values machine.state.objects) frames machine.state)
act world codes Pop machine = if_top machine.now.stack (λ value stack. On (with_stack machine stack))
act world codes Leave machine = if_top machine.now.stack (λ value stack. leaves codes value machine.now.role machine.below machine.state)
act world codes LeaveHome machine = if_top machine.now.stack (λ value stack. unwound value
    (below (home_of machine.now.role) (machine.now ∷ machine.below)) machine.state)
act world codes Mark machine = On (record machine { state = counted machine.state })
act world codes (Fail error) machine = Stops error machine.state

-- the next instruction, with those behind it left
abbrev pub taken : {y : Symbols} → World y → Codes y → List (Instruction y) → Machine y → Stepped y
taken world codes [] machine = Lacks
taken world codes (instruction ∷ left) machine = act world codes instruction (record machine { now = record machine.now { left = left } })

abbrev pub step : {y : Symbols} → World y → Codes y → Machine y → Stepped y
step world codes machine = taken world codes machine.now.left machine

-- ---- runs

-- whether the state lacks something, as its next step tells
abbrev pub lacks : {y : Symbols} → Stepped y → Bool
lacks Lacks = true
lacks other = false

-- At most n instructions, of which the next comes to this in this state. Before it is done the state may lack something.
abbrev pub comes : {y : Symbols} → World y → Codes y → ℕ → State y → Stepped y → Report
comes world codes zero state next = if lacks next then r.Stuck state.lines else r.Unfinished state.lines
comes world codes (suc n) state (On machine) = comes world codes n machine.state (step world codes machine)
comes world codes (suc n) state (Over after) = r.End after.lines
comes world codes (suc n) state (Stops error after) = r.Error after.lines error
comes world codes (suc n) state Finds = r.Stuck state.lines
comes world codes (suc n) state Lacks = r.Stuck state.lines

-- The report of at most n instructions, of which the send of `main`, which finds this, is the first.
abbrev pub run_report : {y : Symbols} → World y → Codes y → State y → Target y → ℕ → Report
run_report world codes begun main n = comes world codes n begun (reaches world codes main [] [] begun)
