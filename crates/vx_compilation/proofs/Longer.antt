-- More instructions: a report that is over stays, and one that is not goes on from its lines. And what it is to look ahead.
use Rattle.std.proofs.Common.{◌≡◌, ℕ, zero, suc, ◌≤◌, ◌==◌, Bool, true, false, List, [], ◌∷◌, ◌++◌, length, Option, Some, None, slice_get, refl, ap}
use Rattle.std.proofs.Common.{◌∙◌, arith, append_assoc}
use Rattle.vx_syntax.specs.Expressions.{Bytes}
use Rattle.vx_model.specs.declared.value.Value.{Value}
use Rattle.vx_model.specs.declared.value.Value.TheVariants as v
use Rattle.vx_model.specs.declared.report.RunError.TheVariants as e
use Rattle.vx_model.specs.declared.report.Report.{Report}
use Rattle.vx_model.specs.declared.report.Report.TheVariants as reports
use Rattle.vx_model.specs.declared.primitives.Deed.{Deed}
use Rattle.vx_model.specs.declared.primitives.Deed.TheVariants as deeds
use Rattle.vx_model.specs.Reports.{lines_of, GoesOn}
use Rattle.vx_compilation.specs.Activations.{Symbols, Making, Makes, NoSlot, NoClass, Slot, Unset, Plain, Cell, Closed, State, World, Target, ToCode}
use Rattle.vx_compilation.specs.Activations.{ToPrimitive, ToGetter, ToSetter, ToError, ToNothing, stored, captured, with_line, with_objects}
use Rattle.vx_compilation.specs.Machine as machine
use Rattle.vx_compilation.specs.Machine.{Instruction, Frame, Role, Method, Evaluation, Turn, home_of, Block, Codes, Machine, Stepped, On, Over}
use Rattle.vx_compilation.specs.Machine.{Stops, Finds, Lacks, going, delivered, below, unwound, popped, act, taken, step, comes, run_report}
use Rattle.vx_model.proofs.Grows.{Begins, begins_self, begins_more}

-- The same without a look at what the state lacks when the count is used up.
abbrev pub ran : {y : Symbols} → World y → Codes y → ℕ → State y → Stepped y → Report
ran w codes zero state next = reports.Unfinished state.lines
ran w codes (suc n) state (On m) = ran w codes n m.state (step w codes m)
ran w codes (suc n) state (Over after) = reports.End after.lines
ran w codes (suc n) state (Stops error after) = reports.Error after.lines error
ran w codes (suc n) state Finds = reports.Stuck state.lines
ran w codes (suc n) state Lacks = reports.Stuck state.lines

begins_on : (a b c : List Bytes) → Begins a b → Begins b c → Begins a c
begins_on a b c p q = record { more = p.more ++ q.more; is = q.is ∙ ap (λ l. l ++ q.more) p.is ∙ append_assoc a p.more q.more }

-- a step from a state with these lines takes none away
abbrev pub Keeps : {y : Symbols} → List Bytes → Stepped y → Type 0
Keeps lines (On m) = Begins lines m.state.lines
Keeps lines (Over state) = Begins lines state.lines
Keeps lines (Stops error state) = Begins lines state.lines
Keeps lines Finds = Unit {0}
Keeps lines Lacks = Unit {0}

module _ (y : Symbols) (w : World y) (codes : Codes y) (lines : List Bytes) where
  goes : (fs : List (Frame y)) (st : State y) → Begins lines st.lines → Keeps lines (going fs st)
  goes [] st b = b
  goes (own ∷ fs) st b = b

  top : (s : List Value) (go : Value → List Value → Stepped y) → ((v : Value) (s' : List Value) → Keeps lines (go v s')) → Keeps lines (machine.if_top s go)
  top [] go k = tt
  top (v ∷ s) go k = k v s

  operands : (o : Option (List Value × List Value)) (go : List Value → List Value → Stepped y) → ((vs s : List Value) → Keeps lines (go vs s)) →
      Keeps lines (machine.if_popped o go)
  operands None go k = tt
  operands (Some two) go k = k two.0 two.1

  there : {A : Type 0} (o : Option A) (go : A → Stepped y) → ((x : A) → Keeps lines (go x)) → Keeps lines (machine.if_there o go)
  there None go k = tt
  there (Some x) go k = k x

  plain : (o : Option Slot) (go : Value → Stepped y) → ((v : Value) → Keeps lines (go v)) → Keeps lines (machine.if_plain o go)
  plain None go k = tt
  plain (Some Unset) go k = tt
  plain (Some (Cell i)) go k = tt
  plain (Some (Plain v)) go k = k v

  cell : (o : Option Slot) (go : ℕ → Stepped y) → ((i : ℕ) → Keeps lines (go i)) → Keeps lines (machine.if_cell o go)
  cell None go k = tt
  cell (Some Unset) go k = tt
  cell (Some (Plain v)) go k = tt
  cell (Some (Cell i)) go k = k i

  fits : (so : Bool) (other : Stepped y) (go : State y → Stepped y) (st : State y) → Keeps lines other → Keeps lines (go st) →
      Keeps lines (machine.if_fits so other go st)
  fits true other go st x k = k
  fits false other go st x k = x

  enters : (c : y.Code) (o : Option (Block y)) (vs : List Value) (fs : List (Frame y)) (st : State y) → Begins lines st.lines →
      Keeps lines (machine.enters c o vs fs st)
  enters c None vs fs st b = tt
  enters c (Some own) vs fs st b = fits (own.formals == length vs) Lacks _ st tt b

  evaluates_block : (held : Closed y) (o : Option (Block y)) (vs : List Value) (fs : List (Frame y)) (st : State y) → Begins lines st.lines →
      Keeps lines (machine.evaluates_block held o vs fs st)
  evaluates_block held None vs fs st b = tt
  evaluates_block held (Some own) vs fs st b = fits (own.formals == length vs) (Stops (e.ClosureArity (length vs)) st) _ st b b

  evaluates : (o : Option (Closed y)) (vs : List Value) (fs : List (Frame y)) (st : State y) → Begins lines st.lines →
      Keeps lines (machine.evaluates codes o vs fs st)
  evaluates None vs fs st b = tt
  evaluates (Some held) vs fs st b = evaluates_block held (codes held.code held.block) vs fs st b

  repeats_block : (held : Closed y) (o : Option (Block y)) (fs : List (Frame y)) (st : State y) → Begins lines st.lines →
      Keeps lines (machine.repeats_block held o fs st)
  repeats_block held None fs st b = tt
  repeats_block held (Some own) fs st b = fits (own.formals == 0) (Stops (e.ClosureArity 0) st) _ st b b

  repeats : (o : Option (Closed y)) (fs : List (Frame y)) (st : State y) → Begins lines st.lines → Keeps lines (machine.repeats codes o fs st)
  repeats None fs st b = tt
  repeats (Some held) fs st b = repeats_block held (codes held.code held.block) fs st b

  does : (what : Deed) (fs : List (Frame y)) (st : State y) → Begins lines st.lines → Keeps lines (machine.does w codes what fs st)
  does (deeds.Answers v) fs st b = goes (delivered v fs) st b
  does (deeds.Prints line) fs st b = goes (delivered w.nil fs) (with_line st line)
      (begins_on lines st.lines (st.lines ++ line ∷ []) b (begins_more st.lines (line ∷ [])))
  does (deeds.Breaks error) fs st b = b
  does (deeds.Evaluates i vs) fs st b = evaluates (slice_get st.closures i) vs fs st b
  does (deeds.Repeats i) fs st b = repeats (slice_get st.closures i) fs st b
  does deeds.Lacks fs st b = tt

  performs : (o : Option Deed) (fs : List (Frame y)) (st : State y) → Begins lines st.lines → Keeps lines (machine.performs w codes o fs st)
  performs None fs st b = tt
  performs (Some what) fs st b = does what fs st b

  gives : (o : Option Value) (fs : List (Frame y)) (st : State y) → Begins lines st.lines → Keeps lines (machine.gives o fs st)
  gives None fs st b = tt
  gives (Some v) fs st b = goes (delivered v fs) st b

  gets : (field : y.Field) (vs : List Value) (fs : List (Frame y)) (st : State y) → Begins lines st.lines → Keeps lines (machine.gets w field vs fs st)
  gets field [] fs st b = tt
  gets field (v ∷ []) fs st b = gives (w.got field v st.objects) fs st b
  gets field (v ∷ u ∷ vs) fs st b = tt

  puts : (o : Option y.Objects) (fs : List (Frame y)) (st : State y) → Begins lines st.lines → Keeps lines (machine.puts w o fs st)
  puts None fs st b = tt
  puts (Some objects) fs st b = goes (delivered w.nil fs) (with_objects st objects) b

  sets : (field : y.Field) (vs : List Value) (fs : List (Frame y)) (st : State y) → Begins lines st.lines → Keeps lines (machine.sets w field vs fs st)
  sets field [] fs st b = tt
  sets field (v ∷ []) fs st b = tt
  sets field (v ∷ u ∷ []) fs st b = puts (w.put field v u st.objects) fs st b
  sets field (v ∷ u ∷ x ∷ vs) fs st b = tt

  of_object : (value : Value) (name : Bytes) (o : Stepped y) (st : State y) → Begins lines st.lines → Keeps lines o →
      Keeps lines (machine.of_object value name o st)
  of_object (v.Object i) name o st b k = k
  of_object (v.Int i) name o st b k = b
  of_object (v.Text bytes) name o st b k = b
  of_object (v.Closure i) name o st b k = b

  gets_of : (field : y.Field) (name : Bytes) (vs : List Value) (fs : List (Frame y)) (st : State y) → Begins lines st.lines →
      Keeps lines (machine.gets_of w field name vs fs st)
  gets_of field name [] fs st b = tt
  gets_of field name (v ∷ []) fs st b = of_object v name (machine.gets w field (v ∷ []) fs st) st b (gets field (v ∷ []) fs st b)
  gets_of field name (v ∷ u ∷ vs) fs st b = tt

  sets_of : (field : y.Field) (name : Bytes) (vs : List Value) (fs : List (Frame y)) (st : State y) → Begins lines st.lines →
      Keeps lines (machine.sets_of w field name vs fs st)
  sets_of field name [] fs st b = tt
  sets_of field name (v ∷ []) fs st b = tt
  sets_of field name (v ∷ u ∷ []) fs st b = of_object v name (machine.sets w field (v ∷ u ∷ []) fs st) st b (sets field (v ∷ u ∷ []) fs st b)
  sets_of field name (v ∷ u ∷ x ∷ vs) fs st b = tt

  reaches : (to : Target y) (vs : List Value) (fs : List (Frame y)) (st : State y) → Begins lines st.lines → Keeps lines (machine.reaches w codes to vs fs st)
  reaches (ToCode c) vs fs st b = enters c (codes c 0) vs fs st b
  reaches (ToPrimitive number) vs fs st b = performs (w.deed number vs) fs st b
  reaches (ToGetter field name) vs fs st b = gets_of field name vs fs st b
  reaches (ToSetter field name) vs fs st b = sets_of field name vs fs st b
  reaches (ToError error) vs fs st b = b
  reaches ToNothing vs fs st b = tt

  turns : (held : Closed y) (o : Option (Block y)) (fs : List (Frame y)) (st : State y) → Begins lines st.lines → Keeps lines (machine.turns held o fs st)
  turns held None fs st b = tt
  turns held (Some own) fs st b = b

  leaves : (v : Value) (role : Role y) (fs : List (Frame y)) (st : State y) → Begins lines st.lines → Keeps lines (machine.leaves codes v role fs st)
  leaves v (Method id) fs st b = goes (delivered v fs) st b
  leaves v (Evaluation home) fs st b = goes (delivered v fs) st b
  leaves v (Turn held) fs st b = turns held (codes held.code held.block) fs st b

  homes : (v : Value) (o : Option (List (Frame y))) (st : State y) → Begins lines st.lines → Keeps lines (unwound v o st)
  homes v None st b = b
  homes v (Some fs) st b = goes (delivered v fs) st b

  makes : (o : Making y) (fs : List (Frame y)) (st : State y) → Begins lines st.lines → Keeps lines (machine.makes o fs st)
  makes (Makes value objects) fs st b = goes (delivered value fs) (with_objects st objects) b
  makes NoSlot fs st b = tt
  makes NoClass fs st b = tt

  closes : (own : Option (Block y)) (block : ℕ) (o : Option (List Slot)) (now : Machine y) → Begins lines now.state.lines →
      Keeps lines (machine.closes own block o now)
  closes None block o now b = tt
  closes (Some own) block None now b = tt
  closes (Some own) block (Some captures) now b = fits (own.captures == length captures) Lacks _ now.state tt b

  acts : (i : Instruction y) (now : Machine y) → Begins lines now.state.lines → Keeps lines (act w codes i now)
  acts (machine.PushInt n) now b = b
  acts (machine.PushText bytes) now b = b
  acts (machine.PushObject object) now b = b
  acts (machine.Load x) now b = plain (slice_get now.now.locals x) _ (λ v. b)
  acts (machine.Store x) now b = top now.now.stack _ (λ v s. there (stored x (Plain v) now.now.locals) _ (λ ls. b))
  acts (machine.NewCell x) now b = top now.now.stack _ (λ v s. there (stored x (Cell (length now.state.cells)) now.now.locals) _ (λ ls. b))
  acts (machine.GetCell x) now b = cell (slice_get now.now.locals x) _ (λ a. there (slice_get now.state.cells a) _ (λ v. b))
  acts (machine.SetCell x) now b = top now.now.stack _ (λ v s. cell (slice_get now.now.locals x) _ (λ a. b))
  acts (machine.Close block xs) now b = closes (codes now.now.code block) block (captured xs now.now.locals) now b
  acts (machine.Send message count) now b = operands (popped count [] now.now.stack) _
      (λ vs s. reaches (w.dispatch now.state.objects message vs) vs _ now.state b)
  acts (machine.Enter code count) now b = operands (popped count [] now.now.stack) _ (λ vs s. enters code (codes code 0) vs _ now.state b)
  acts (machine.Perform number count) now b = operands (popped count [] now.now.stack) _ (λ vs s. performs (w.deed number vs) _ now.state b)
  acts (machine.Get field count) now b = operands (popped count [] now.now.stack) _ (λ vs s. gets field vs _ now.state b)
  acts (machine.Set field count) now b = operands (popped count [] now.now.stack) _ (λ vs s. sets field vs _ now.state b)
  acts (machine.Make object fields count) now b = operands (popped count [] now.now.stack) _
      (λ vs s. makes (w.made object fields vs now.state.objects) _ now.state b)
  acts machine.Pop now b = top now.now.stack _ (λ v s. b)
  acts machine.Leave now b = top now.now.stack _ (λ v s. leaves v now.now.role now.below now.state b)
  acts machine.LeaveHome now b = top now.now.stack _ (λ v s. homes v (below (home_of now.now.role) (now.now ∷ now.below)) now.state b)
  acts machine.Mark now b = b
  acts (machine.Fail error) now b = b

  takes : (left : List (Instruction y)) (now : Machine y) → Begins lines now.state.lines → Keeps lines (taken w codes left now)
  takes [] now b = tt
  takes (i ∷ left) now b = acts i _ b

module _ (y : Symbols) (w : World y) (codes : Codes y) where
  steps : (now : Machine y) → Keeps now.state.lines (step w codes now)
  steps now = takes y w codes now.state.lines now.now.left now (begins_self now.state.lines)

  -- whatever comes, the lines stay
  begins : (n : ℕ) (st : State y) (o : Stepped y) → Keeps st.lines o → Begins st.lines (lines_of (ran w codes n st o))
  begins zero st o k = begins_self st.lines
  begins (suc n) st (On now) k = begins_on st.lines now.state.lines (lines_of (ran w codes n now.state (step w codes now))) k
      (begins n now.state (step w codes now) (steps now))
  begins (suc n) st (Over after) k = k
  begins (suc n) st (Stops error after) k = k
  begins (suc n) st Finds k = begins_self st.lines
  begins (suc n) st Lacks k = begins_self st.lines

  longer : (n n' : ℕ) (st : State y) (o : Stepped y) → Keeps st.lines o → n ≤ n' → GoesOn (ran w codes n st o) (ran w codes n' st o)
  longer zero n' st o k le = let b = begins n' st o k in (b.more, b.is)
  longer (suc n) zero st o k le = absurd (omega (arith, le))
  longer (suc n) (suc n') st (On now) k le = longer n n' now.state (step w codes now) (steps now) (omega (arith, le))
  longer (suc n) (suc n') st (Over after) k le = refl
  longer (suc n) (suc n') st (Stops error after) k le = refl
  longer (suc n) (suc n') st Finds k le = refl
  longer (suc n) (suc n') st Lacks k le = refl

  pub report_longer : (begun : State y) (main : Target y) (n n' : ℕ) → n ≤ n' →
      GoesOn (ran w codes n begun (machine.reaches w codes main [] [] begun)) (ran w codes n' begun (machine.reaches w codes main [] [] begun))
  report_longer begun main n n' le = longer n n' begun _ (reaches y w codes begun.lines main [] [] begun (begins_self begun.lines)) le

  -- a look ahead changes nothing where one instruction more is not stuck
  pub looking : (n : ℕ) (st : State y) (o : Stepped y) → ((lines : List Bytes) → ran w codes (suc n) st o ≡ reports.Stuck lines → ⊥) →
      ran w codes n st o ≡ comes w codes n st o
  looking zero st (On now) ok = refl
  looking zero st (Over after) ok = refl
  looking zero st (Stops error after) ok = refl
  looking zero st Finds ok = refl
  looking zero st Lacks ok = absurd (ok st.lines refl)
  looking (suc n) st (On now) ok = looking n now.state (step w codes now) ok
  looking (suc n) st (Over after) ok = refl
  looking (suc n) st (Stops error after) ok = refl
  looking (suc n) st Finds ok = refl
  looking (suc n) st Lacks ok = refl
