-- An instruction counts at most one activation.
use Rattle.std.proofs.Common.{◌≡◌, ℕ, suc, ◌≤◌, Bool, true, false, List, [], ◌∷◌, length, Option, Some, None, eqb, subst, sym, arith}
use Rattle.std.proofs.lemmas.List.{append-nil}
use Rattle.std.specs.Prelude.{slice_get}
use Rattle.vx_model.specs.declared.value.Value.{Value}
use Rattle.vx_model.specs.declared.value.Value.TheVariants as v
use Rattle.vx_model.specs.declared.primitives.Deed.{Deed}
use Rattle.vx_model.specs.declared.primitives.Deed.TheVariants as deeds
use Rattle.vx_syntax.specs.Expressions.{Bytes}
use Rattle.vx_format.specs.declared.image.Image.{Image}
use Rattle.vx_compilation.specs.Activations.{Symbols, Slot, Unset, Plain, Cell, Closed, State, World, Making, Makes, NoSlot, NoClass, Target, ToCode}
use Rattle.vx_compilation.specs.Activations.{ToPrimitive, ToGetter, ToSetter, ToError, ToNothing, captured, stored, with_line}
use Rattle.vx_compilation.specs.Machine as machine
use Rattle.vx_compilation.specs.Machine.{Instruction, Block, Codes, Role, Frame, Machine, Stepped, On, Over, Stops, Finds, Lacks}
use Rattle.vx_compilation.specs.Machine.{act, going, below, unwound, popped}
use Rattle.vx_compilation.specs.Machine.{if_top, if_popped, if_there, if_plain, if_cell, if_fits, enters, evaluates, evaluates_block, repeats, repeats_block}
use Rattle.vx_compilation.specs.Machine.{does, performs, gives, gets, puts, sets, of_object, gets_of, sets_of, reaches, turns, leaves}
use Rattle.vx_compilation.specs.Machine.{makes, taking, waiting, closes}
use Rattle.vx_places.specs.ImageMachine.{codes_of, world}
use Rattle.vx_machine.specs.Meaning.{Kept, Whole, Covers, machine_of, whole_of}
use Rattle.vx_machine.specs.Running.{stepped}

-- a machine is covered by its own moment
pub covers_own : (m : Kept) → Covers (whole_of m) m
covers_own m = (([], sym (append-nil m.texts)), ([], sym (append-nil m.captured)), ([], sym (append-nil m.lines)))

-- the number of the next activation is at most this
abbrev pub Upto : {y : Symbols} → ℕ → Stepped y → Type 0
Upto n (On m) = m.state.next ≤ n
Upto n (Over state) = state.next ≤ n
Upto n (Stops error state) = state.next ≤ n
Upto n Finds = Unit {0}
Upto n Lacks = Unit {0}

-- ---- what an instruction needs

goes : {y : Symbols} (n : ℕ) (frames : List (Frame y)) (state : State y) → state.next ≤ n → Upto n (going frames state)
goes n [] state le = le
goes n (own ∷ frames) state le = le

fits : {y : Symbols} (n : ℕ) (is : Bool) (other : Stepped y) (go : State y → Stepped y) (state : State y) → Upto n other → Upto n (go state)
    → Upto n (if_fits is other go state)
fits n true other go state less more = more
fits n false other go state less more = less

top : {y : Symbols} (n : ℕ) (values : List Value) (go : Value → List Value → Stepped y) → ((value : Value) (stack : List Value) → Upto n (go value stack))
    → Upto n (if_top values go)
top n [] go all = tt
top n (value ∷ stack) go all = all value stack

taken : {y : Symbols} (n : ℕ) (two : Option (List Value × List Value)) (go : List Value → List Value → Stepped y)
    → ((values stack : List Value) → Upto n (go values stack)) → Upto n (if_popped two go)
taken n None go all = tt
taken n (Some two) go all = all two.0 two.1

there : {y : Symbols} {A : Type 0} (n : ℕ) (found : Option A) (go : A → Stepped y) → ((own : A) → Upto n (go own)) → Upto n (if_there found go)
there n None go all = tt
there n (Some own) go all = all own

plain : {y : Symbols} (n : ℕ) (slot : Option Slot) (go : Value → Stepped y) → ((value : Value) → Upto n (go value)) → Upto n (if_plain slot go)
plain n None go all = tt
plain n (Some Unset) go all = tt
plain n (Some (Plain value)) go all = all value
plain n (Some (Cell place)) go all = tt

cell : {y : Symbols} (n : ℕ) (slot : Option Slot) (go : ℕ → Stepped y) → ((place : ℕ) → Upto n (go place)) → Upto n (if_cell slot go)
cell n None go all = tt
cell n (Some Unset) go all = tt
cell n (Some (Plain value)) go all = tt
cell n (Some (Cell place)) go all = all place

-- ---- calls

entering : {y : Symbols} (code : y.Code) (own : Option (Block y)) (values : List Value) (frames : List (Frame y)) (state : State y)
    → Upto (suc state.next) (enters code own values frames state)
entering code None values frames state = tt
entering code (Some own) values frames state = fits (suc state.next) (eqb own.formals (length values)) _ _ state tt (omega arith)

evaluating_block : {y : Symbols} (n : ℕ) (held : Closed y) (own : Option (Block y)) (values : List Value) (frames : List (Frame y)) (state : State y)
    → state.next ≤ n → Upto n (evaluates_block held own values frames state)
evaluating_block n held None values frames state le = tt
evaluating_block n held (Some own) values frames state le = fits n (eqb own.formals (length values)) _ _ state le le

evaluating : {y : Symbols} (n : ℕ) (codes : Codes y) (held : Option (Closed y)) (values : List Value) (frames : List (Frame y)) (state : State y)
    → state.next ≤ n → Upto n (evaluates codes held values frames state)
evaluating n codes None values frames state le = tt
evaluating n codes (Some held) values frames state le = evaluating_block n held (codes held.code held.block) values frames state le

repeating_block : {y : Symbols} (n : ℕ) (held : Closed y) (own : Option (Block y)) (frames : List (Frame y)) (state : State y) → state.next ≤ n
    → Upto n (repeats_block held own frames state)
repeating_block n held None frames state le = tt
repeating_block n held (Some own) frames state le = fits n (eqb own.formals 0) _ _ state le le

repeating : {y : Symbols} (n : ℕ) (codes : Codes y) (held : Option (Closed y)) (frames : List (Frame y)) (state : State y) → state.next ≤ n
    → Upto n (repeats codes held frames state)
repeating n codes None frames state le = tt
repeating n codes (Some held) frames state le = repeating_block n held (codes held.code held.block) frames state le

doing : {y : Symbols} (n : ℕ) (world : World y) (codes : Codes y) (deed : Deed) (frames : List (Frame y)) (state : State y) → state.next ≤ n
    → Upto n (does world codes deed frames state)
doing n world codes (deeds.Answers value) frames state le = goes n (machine.delivered value frames) state le
doing n world codes (deeds.Prints line) frames state le = goes n (machine.delivered world.nil frames) (with_line state line) le
doing n world codes (deeds.Breaks error) frames state le = le
doing n world codes (deeds.Evaluates i values) frames state le = evaluating n codes (slice_get state.closures i) values frames state le
doing n world codes (deeds.Repeats i) frames state le = repeating n codes (slice_get state.closures i) frames state le
doing n world codes deeds.Lacks frames state le = tt

performing : {y : Symbols} (n : ℕ) (world : World y) (codes : Codes y) (deed : Option Deed) (frames : List (Frame y)) (state : State y) → state.next ≤ n
    → Upto n (performs world codes deed frames state)
performing n world codes None frames state le = tt
performing n world codes (Some deed) frames state le = doing n world codes deed frames state le

giving : {y : Symbols} (n : ℕ) (value : Option Value) (frames : List (Frame y)) (state : State y) → state.next ≤ n → Upto n (gives value frames state)
giving n None frames state le = tt
giving n (Some value) frames state le = goes n (machine.delivered value frames) state le

getting : {y : Symbols} (n : ℕ) (world : World y) (field : y.Field) (values : List Value) (frames : List (Frame y)) (state : State y) → state.next ≤ n
    → Upto n (gets world field values frames state)
getting n world field [] frames state le = tt
getting n world field (value ∷ []) frames state le = giving n (world.got field value state.objects) frames state le
getting n world field (value ∷ more ∷ values) frames state le = tt

putting : {y : Symbols} (n : ℕ) (world : World y) (objects : Option y.Objects) (frames : List (Frame y)) (state : State y) → state.next ≤ n
    → Upto n (puts world objects frames state)
putting n world None frames state le = tt
putting n world (Some objects) frames state le = goes n (machine.delivered world.nil frames) _ le

setting : {y : Symbols} (n : ℕ) (world : World y) (field : y.Field) (values : List Value) (frames : List (Frame y)) (state : State y) → state.next ≤ n
    → Upto n (sets world field values frames state)
setting n world field [] frames state le = tt
setting n world field (own ∷ []) frames state le = tt
setting n world field (own ∷ value ∷ []) frames state le = putting n world (world.put field own value state.objects) frames state le
setting n world field (own ∷ value ∷ more ∷ values) frames state le = tt

object : {y : Symbols} (n : ℕ) (value : Value) (name : Bytes) (step : Stepped y) (state : State y) → state.next ≤ n → Upto n step
    → Upto n (of_object value name step state)
object n (v.Int z) name step state le more = le
object n (v.Text bytes) name step state le more = le
object n (v.Closure i) name step state le more = le
object n (v.Object i) name step state le more = more

getting_of : {y : Symbols} (n : ℕ) (world : World y) (field : y.Field) (name : Bytes) (values : List Value) (frames : List (Frame y)) (state : State y)
    → state.next ≤ n → Upto n (gets_of world field name values frames state)
getting_of n world field name [] frames state le = tt
getting_of n world field name (value ∷ []) frames state le = object n value name _ state le (getting n world field (value ∷ []) frames state le)
getting_of n world field name (value ∷ more ∷ values) frames state le = tt

setting_of : {y : Symbols} (n : ℕ) (world : World y) (field : y.Field) (name : Bytes) (values : List Value) (frames : List (Frame y)) (state : State y)
    → state.next ≤ n → Upto n (sets_of world field name values frames state)
setting_of n world field name [] frames state le = tt
setting_of n world field name (own ∷ []) frames state le = tt
setting_of n world field name (own ∷ value ∷ []) frames state le = object n own name _ state le (setting n world field (own ∷ value ∷ []) frames state le)
setting_of n world field name (own ∷ value ∷ more ∷ values) frames state le = tt

pub reaching : {y : Symbols} (world : World y) (codes : Codes y) (target : Target y) (values : List Value) (frames : List (Frame y)) (state : State y)
    → Upto (suc state.next) (reaches world codes target values frames state)
reaching world codes (ToCode code) values frames state = entering code (codes code 0) values frames state
reaching world codes (ToPrimitive number) values frames state = performing (suc state.next) world codes (world.deed number values) frames state (omega arith)
reaching world codes (ToGetter field name) values frames state = getting_of (suc state.next) world field name values frames state (omega arith)
reaching world codes (ToSetter field name) values frames state = setting_of (suc state.next) world field name values frames state (omega arith)
reaching world codes (ToError error) values frames state = let le : state.next ≤ suc state.next = omega arith in le
reaching world codes ToNothing values frames state = tt

-- ---- what else an instruction does

turning : {y : Symbols} (n : ℕ) (held : Closed y) (own : Option (Block y)) (frames : List (Frame y)) (state : State y) → state.next ≤ n
    → Upto n (turns held own frames state)
turning n held None frames state le = tt
turning n held (Some own) frames state le = le

leaving : {y : Symbols} (n : ℕ) (codes : Codes y) (value : Value) (role : Role y) (frames : List (Frame y)) (state : State y) → state.next ≤ n
    → Upto n (leaves codes value role frames state)
leaving n codes value (machine.Method number) frames state le = goes n (machine.delivered value frames) state le
leaving n codes value (machine.Evaluation home) frames state le = goes n (machine.delivered value frames) state le
leaving n codes value (machine.Turn held) frames state le = turning n held (codes held.code held.block) frames state le

unwinding : {y : Symbols} (n : ℕ) (value : Value) (found : Option (List (Frame y))) (state : State y) → state.next ≤ n → Upto n (unwound value found state)
unwinding n value None state le = le
unwinding n value (Some frames) state le = goes n (machine.delivered value frames) state le

making : {y : Symbols} (n : ℕ) (what : Making y) (frames : List (Frame y)) (state : State y) → state.next ≤ n → Upto n (makes what frames state)
making n (Makes value objects) frames state le = goes n (machine.delivered value frames) _ le
making n NoSlot frames state le = tt
making n NoClass frames state le = tt

closing : {y : Symbols} (own : Option (Block y)) (block : ℕ) (slots : Option (List Slot)) (m : Machine y) → Upto (suc m.state.next) (closes own block slots m)
closing None block slots m = tt
closing (Some own) block None m = tt
closing (Some own) block (Some captures) m = fits (suc m.state.next) (eqb own.captures (length captures)) _ _ m.state tt (omega arith)

taking_so_many : {y : Symbols} (n count : ℕ) (m : Machine y) (go : List Value → List (Frame y) → Stepped y)
    → ((values : List Value) (frames : List (Frame y)) → Upto n (go values frames)) → Upto n (taking count m go)
taking_so_many n count m go all = taken n (popped count [] m.now.stack) _ (λ values stack. all values (waiting m stack))

-- ---- instructions

pub counts_once : {y : Symbols} (world : World y) (codes : Codes y) (instr : Instruction y) (m : Machine y)
    → Upto (suc m.state.next) (act world codes instr m)
counts_once world codes (machine.PushInt z) m = let le : m.state.next ≤ suc m.state.next = omega arith in le
counts_once world codes (machine.PushText bytes) m = let le : m.state.next ≤ suc m.state.next = omega arith in le
counts_once world codes (machine.PushObject o) m = let le : m.state.next ≤ suc m.state.next = omega arith in le
counts_once world codes (machine.Load x) m =
    let le : m.state.next ≤ suc m.state.next = omega arith in plain (suc m.state.next) (slice_get m.now.locals x) _ (λ value. le)
counts_once world codes (machine.Store x) m =
    let le : m.state.next ≤ suc m.state.next = omega arith in
    top (suc m.state.next) m.now.stack _ (λ value stack. there (suc m.state.next) (stored x (Plain value) m.now.locals) _ (λ slots. le))
counts_once world codes (machine.NewCell x) m =
    let le : m.state.next ≤ suc m.state.next = omega arith in
    top (suc m.state.next) m.now.stack _ (λ value stack. there (suc m.state.next) (stored x (Cell (length m.state.cells)) m.now.locals) _ (λ slots. le))
counts_once world codes (machine.GetCell x) m =
    let le : m.state.next ≤ suc m.state.next = omega arith in
    cell (suc m.state.next) (slice_get m.now.locals x) _ (λ place. there (suc m.state.next) (slice_get m.state.cells place) _ (λ value. le))
counts_once world codes (machine.SetCell x) m =
    let le : m.state.next ≤ suc m.state.next = omega arith in
    top (suc m.state.next) m.now.stack _ (λ value stack. cell (suc m.state.next) (slice_get m.now.locals x) _ (λ place. le))
counts_once world codes (machine.Close block xs) m = closing (codes m.now.code block) block (captured xs m.now.locals) m
counts_once world codes (machine.Send message count) m =
    taking_so_many (suc m.state.next) count m _
    (λ values frames. reaching world codes (world.dispatch m.state.objects message values) values frames m.state)
counts_once world codes (machine.Enter code count) m =
    taking_so_many (suc m.state.next) count m _ (λ values frames. entering code (codes code 0) values frames m.state)
counts_once world codes (machine.Perform number count) m =
    let le : m.state.next ≤ suc m.state.next = omega arith in
    taking_so_many (suc m.state.next) count m _
    (λ values frames. performing (suc m.state.next) world codes (world.deed number values) frames m.state le)
counts_once world codes (machine.Get field count) m =
    let le : m.state.next ≤ suc m.state.next = omega arith in
    taking_so_many (suc m.state.next) count m _ (λ values frames. getting (suc m.state.next) world field values frames m.state le)
counts_once world codes (machine.Set field count) m =
    let le : m.state.next ≤ suc m.state.next = omega arith in
    taking_so_many (suc m.state.next) count m _ (λ values frames. setting (suc m.state.next) world field values frames m.state le)
counts_once world codes (machine.Make o fields count) m =
    let le : m.state.next ≤ suc m.state.next = omega arith in
    taking_so_many (suc m.state.next) count m _ (λ values frames. making (suc m.state.next) (world.made o fields values m.state.objects) frames m.state le)
counts_once world codes machine.Pop m =
    let le : m.state.next ≤ suc m.state.next = omega arith in top (suc m.state.next) m.now.stack _ (λ value stack. le)
counts_once world codes machine.Leave m =
    let le : m.state.next ≤ suc m.state.next = omega arith in
    top (suc m.state.next) m.now.stack _ (λ value stack. leaving (suc m.state.next) codes value m.now.role m.below m.state le)
counts_once world codes machine.LeaveHome m =
    let le : m.state.next ≤ suc m.state.next = omega arith in
    top (suc m.state.next) m.now.stack _
    (λ value stack. unwinding (suc m.state.next) value (below (machine.home_of m.now.role) (m.now ∷ m.below)) m.state le)
counts_once world codes machine.Mark m = let le : suc m.state.next ≤ suc m.state.next = omega arith in le
counts_once world codes (machine.Fail error) m = let le : m.state.next ≤ suc m.state.next = omega arith in le

steps_once : {y : Symbols} (world : World y) (codes : Codes y) (left : List (Instruction y)) (m : Machine y)
    → Upto (suc m.state.next) (machine.taken world codes left m)
steps_once world codes [] m = tt
steps_once world codes (instr ∷ left) m = counts_once world codes instr (record m { now = record m.now { left = left } })

-- of a machine as it is kept, that goes on
pub next_is_near : (image : Image) (old new : Kept)
    → ((all : Whole) → Covers all new → stepped image all old ≡ On (machine_of image all new)) → new.next ≤ suc old.next
next_is_near image old new does =
    let all : Whole = whole_of new in
    subst (Upto (suc old.next)) (does all (covers_own new))
    (steps_once (world image) (codes_of image) (machine_of image all old).now.left (machine_of image all old))
