-- Parts of trees as instructions that run: what it is to run, and the small parts.
use Rattle.std.proofs.Common.{◌≡◌, ℕ, suc, ◌+◌, ◌≤◌, ◌==◌, Bool, true, false, List, [], ◌∷◌, ◌++◌, length, Option, Some, None, slice_get, refl, sym}
use Rattle.std.proofs.Common.{ap, ◌∙◌, subst, arith, append-nil}
use Rattle.vx_names.specs.declared.key.FieldKey.{FieldKey}
use Rattle.vx_syntax.specs.Expressions.{Bytes}
use Rattle.vx_model.specs.declared.value.Value.{Value}
use Rattle.vx_model.specs.declared.value.Value.TheVariants as v
use Rattle.vx_model.specs.declared.report.RunError.{RunError}
use Rattle.vx_model.specs.declared.report.RunError.TheVariants as e
use Rattle.vx_model.specs.declared.report.Report.{Report}
use Rattle.vx_model.specs.declared.report.Report.TheVariants as reports
use Rattle.vx_compilation.specs.declared.tree.TreeBlock.{TreeBlock}
use Rattle.vx_model.specs.Meaning.{Back, Fails, Out, Stuck}
use Rattle.vx_compilation.specs.Activations.{Making, Makes, NoSlot, NoClass, Slot, Unset, Plain, Cell, captured, with_closure}
use Rattle.vx_compilation.specs.TreeMeaning as trees
use Rattle.vx_compilation.specs.TreeMeaning.{by_name, World, State, Closure, Blocks, CodeKey, Ended, Gives, Ends, Done, Goes, Stops, Call, Message}
use Rattle.vx_compilation.specs.TreeMeaning.{Primitive, Getting, Setting, Entering, Failing, Sends, Resends, Levels, Place, Meaning, after, all}
use Rattle.vx_compilation.specs.TreeMeaning.{back_to, Effect, Let, LetVar, Set, Statement, Does, Do, Return, Mode, Stays, Leaves, mode_of, levels}
use Rattle.vx_compilation.specs.TreeMeaning.{field_keys}
use Rattle.vx_compilation.specs.Machine as machine
use Rattle.vx_compilation.specs.Machine.{Instruction, Frame, frame, Role, Method, Evaluation, Turn, home_of, Stepped, On, Block, Codes, going}
use Rattle.vx_compilation.specs.Machine.{delivered, below, below_role, unwound, popped}
use Rattle.vx_compilation.specs.Code as c
use Rattle.vx_compilation.specs.Code.{Instructions, Code, in_order, statements_code, codes_of, code_of, block_code}
use Rattle.vx_compilation.proofs.Longer.{ran}

abbrev pub Frames : Type 0
Frames = List (Frame by_name)

abbrev pub push_all : List Value → List Value → List Value
push_all [] s = s
push_all (value ∷ values) s = push_all values (value ∷ s)

abbrev pub args_of : Call → List Value
args_of (Message sent values) = values
args_of (Primitive number values) = values
args_of (Getting field values) = values
args_of (Setting field values) = values
args_of (Entering code values) = values
args_of (Failing error values) = values

pub popped_back : (vs s acc : List Value) (n k : ℕ) → n ≡ length vs + k → popped n acc (push_all vs s) ≡ popped k (vs ++ acc) s
popped_back [] s acc n k e = let e' : n ≡ k = omega (arith, e) in ap (λ i. popped i acc s) e'
popped_back (v ∷ vs) s acc n k e = let e' : n ≡ length vs + suc k = omega (arith, e) in popped_back vs (v ∷ s) acc n (suc k) e'

pub popped_all : (vs s : List Value) → popped (length vs) [] (push_all vs s) ≡ Some (vs, s)
popped_all vs s = let e : length vs ≡ length vs + 0 = omega arith in popped_back vs s [] (length vs) 0 e ∙ ap (λ l. Some (l, s)) (append-nil vs)

module _ (w : World) (bs : Blocks) where
  abbrev pub prog : Codes by_name
  prog = codes_of bs

  -- so many instructions more, where a step came to this
  abbrev pub on : ℕ → State → Stepped by_name → Report
  on n st o = ran w prog (suc n) st o

  abbrev pub ex : ℕ → Frames → State → Report
  ex n fs st = on n st (going fs st)

  -- the state before counts no more where activations go on
  pub anew : (n : ℕ) (st st' : State) (fs : Frames) → on n st (going fs st') ≡ ex n fs st'
  anew n st st' [] = refl
  anew n st st' (own ∷ fs) = refl

  abbrev pub place : CodeKey → Role by_name → Place
  place k r = record { code = k; home = home_of r }

  -- where a return to a home leads, from an activation of this role
  abbrev pub homes : Role by_name → Frames → ℕ → Option Frames
  homes r fs h = below_role h r fs (below h fs)

  -- A run does what a meaning says: d instructions at least before a value or a return arrives, and with n units of allowance used n - credit where it is
  -- out.
  abbrev pub Runs : (ℕ → Report) → (d credit n : ℕ) → (ℕ → Option Frames) → (Value → List Slot → Frames) → Done → Type 0
  Runs run d credit n out target (Goes v ls st) = (k : ℕ) → (j : ℕ) × (k + d ≤ j) × (run j ≡ ex k (target v ls) st)
  Runs run d credit n out target (Stops (Back h v) st) = (k : ℕ) → (j : ℕ) × (k + d ≤ j) × (run j ≡ on k st (unwound v (out h) st))
  Runs run d credit n out target (Stops (Fails e) st) = (j : ℕ) × (run j ≡ reports.Error st.lines e)
  Runs run d credit n out target (Stops Out st) = (j : ℕ) × (n ≤ j + credit) × (run j ≡ reports.Unfinished st.lines)
  Runs run d credit n out target (Stops Stuck st) = (j : ℕ) × (run j ≡ reports.Stuck st.lines)

  -- weaker counts
  pub looser : (run : ℕ → Report) (d d' credit credit' n n' : ℕ) (out : ℕ → Option Frames) (target : Value → List Slot → Frames) (o : Done) → d' ≤ d →
      n' + credit ≤ n + credit' → Runs run d credit n out target o → Runs run d' credit' n' out target o
  looser run d d' credit credit' n n' out target (Goes v ls st) h g x = λ k. let y = x k in (y.0, omega (arith, y.1), y.2)
  looser run d d' credit credit' n n' out target (Stops (Back b v) st) h g x = λ k. let y = x k in (y.0, omega (arith, y.1), y.2)
  looser run d d' credit credit' n n' out target (Stops (Fails e) st) h g x = x
  looser run d d' credit credit' n n' out target (Stops Out st) h g x = (x.0, omega (arith, x.1), x.2)
  looser run d d' credit credit' n n' out target (Stops Stuck st) h g x = x

  -- one instruction first
  pub stepped : (run run' : ℕ → Report) (d credit n : ℕ) (out : ℕ → Option Frames) (target : Value → List Slot → Frames) (o : Done) →
      ((j : ℕ) → run (suc j) ≡ run' j) → Runs run' d (suc credit) n out target o → Runs run (suc d) credit n out target o
  stepped run run' d credit n out target (Goes v ls st) e x = λ k. let y = x k in (suc y.0, omega (arith, y.1), e y.0 ∙ y.2)
  stepped run run' d credit n out target (Stops (Back b v) st) e x = λ k. let y = x k in (suc y.0, omega (arith, y.1), e y.0 ∙ y.2)
  stepped run run' d credit n out target (Stops (Fails b) st) e x = (suc x.0, e x.0 ∙ x.1)
  stepped run run' d credit n out target (Stops Out st) e x = (suc x.0, omega (arith, x.1), e x.0 ∙ x.2)
  stepped run run' d credit n out target (Stops Stuck st) e x = (suc x.0, e x.0 ∙ x.1)

  -- a stretch of at least one instruction first
  pub led : (run run' : ℕ → Report) (d credit n : ℕ) (out : ℕ → Option Frames) (target : Value → List Slot → Frames) (o : Done) →
      ((k : ℕ) → (j : ℕ) × (k + 1 ≤ j) × (run j ≡ run' k)) → Runs run' d (suc credit) n out target o → Runs run (suc d) credit n out target o
  led run run' d credit n out target (Goes v ls st) e x = λ k. let y = x k in let z = e y.0 in (z.0, omega (arith, y.1, z.1), z.2 ∙ y.2)
  led run run' d credit n out target (Stops (Back b v) st) e x = λ k. let y = x k in let z = e y.0 in (z.0, omega (arith, y.1, z.1), z.2 ∙ y.2)
  led run run' d credit n out target (Stops (Fails b) st) e x = let z = e x.0 in (z.0, z.2 ∙ x.1)
  led run run' d credit n out target (Stops Out st) e x = let z = e x.0 in (z.0, omega (arith, x.1, z.1), z.2 ∙ x.2)
  led run run' d credit n out target (Stops Stuck st) e x = let z = e x.0 in (z.0, z.2 ∙ x.1)

  -- one after the other
  pub then_runs : (run : ℕ → Report) (credit n : ℕ) (out : ℕ → Option Frames) (middle target : Value → List Slot → Frames) (o : Done)
      (go : Value → List Slot → State → Done) → Runs run 1 0 n out middle o →
      ((v : Value) (ls : List Slot) (st : State) → Runs (λ j. ex j (middle v ls) st) 0 (suc credit) n out target (go v ls st)) →
      Runs run 1 credit n out target (after o go)
  then_runs run credit n out middle target (Goes v ls st) go x y = led run (λ j. ex j (middle v ls) st) 0 credit n out target (go v ls st) x (y v ls st)
  then_runs run credit n out middle target (Stops (Back b v) st) go x y = x
  then_runs run credit n out middle target (Stops (Fails b) st) go x y = x
  then_runs run credit n out middle target (Stops Out st) go x y = (x.0, omega (arith, x.1), x.2)
  then_runs run credit n out middle target (Stops Stuck st) go x y = x

  -- the instruction of a call; nothing is known of an error's operands
  abbrev pub instr_of : Call → Instruction by_name
  instr_of (Message sent vs) = machine.Send sent (length vs)
  instr_of (Primitive number vs) = machine.Perform number (length vs)
  instr_of (Getting field vs) = machine.Get field (length vs)
  instr_of (Setting field vs) = machine.Set field (length vs)
  instr_of (Entering code vs) = machine.Enter code (length vs)
  instr_of (Failing error vs) = machine.Fail error

  abbrev pub CallOk : (Call → State → Ended) → ℕ → Type 0
  CallOk does n = (what : Call) (c0 : CodeKey) (k : Instructions) (s : List Value) (ls : List Slot) (r : Role by_name) (fs : Frames) (st : State) →
      Runs (λ j. ex j (frame c0 (instr_of what ∷ k) (push_all (args_of what) s) ls r ∷ fs) st) 1 (length (args_of what)) n (homes r fs)
      (λ v ls'. frame c0 k (v ∷ s) ls' r ∷ fs) (back_to ls (does what st))

  abbrev pub Good : Levels → Type 0
  Good [] = Unit {0}
  Good (does ∷ lower) = CallOk does (suc (length lower)) × Good lower

  pub record Sim (meaning : Meaning) (code : Code) : Type 0 where
    pub at : (lv : Levels) → Good lv → (c0 : CodeKey) (r : Role by_name) (k : Instructions) (s : List Value) (ls : List Slot) (fs : Frames) (st : State) →
        Runs (λ j. ex j (frame c0 (code k) s ls r ∷ fs) st) 1 0 (length lv) (homes r fs) (λ v ls'. frame c0 k (v ∷ s) ls' r ∷ fs)
        (meaning (place c0 r) lv ls st)

  pub call_runs : (lv : Levels) → Good lv → (what : Call) (c0 : CodeKey) (k : Instructions) (s : List Value) (ls : List Slot) (r : Role by_name) (fs : Frames)
      (st : State) → Runs (λ j. ex j (frame c0 (instr_of what ∷ k) (push_all (args_of what) s) ls r ∷ fs) st) 1 (length (args_of what)) (length lv)
      (homes r fs) (λ v ls'. frame c0 k (v ∷ s) ls' r ∷ fs) (trees.call lv what ls st)
  call_runs [] good what c0 k s ls r fs st = (0, omega arith, refl)
  call_runs (does ∷ lower) good what c0 k s ls r fs st = good.0 what c0 k s ls r fs st

  abbrev pub AllSim : List Meaning → List Code → Type 0
  AllSim [] [] = Unit {0}
  AllSim [] (c ∷ cs) = ⊥
  AllSim (m ∷ ms) [] = ⊥
  AllSim (m ∷ ms) (c ∷ cs) = Sim m c × AllSim ms cs

  pub same_length : (ms : List Meaning) (cs : List Code) → AllSim ms cs → length ms ≡ length cs
  same_length [] [] h = refl
  same_length [] (c ∷ cs) h = absurd h
  same_length (m ∷ ms) [] h = absurd h
  same_length (m ∷ ms) (c ∷ cs) h = ap suc (same_length ms cs h.1)

  -- the parts, and what follows them
  pub all_runs : (ms : List Meaning) (cs : List Code) → AllSim ms cs → (credit : ℕ) (lv : Levels) → Good lv →
      (c0 : CodeKey) (r : Role by_name) (k : Instructions) (s : List Value) (ls : List Slot) (fs : Frames) (st : State)
      (target : Value → List Slot → Frames) (go : List Value → List Slot → State → Done) →
      ((vs : List Value) (ls' : List Slot) (st' : State) → length vs ≡ length ms →
      Runs (λ j. ex j (frame c0 k (push_all vs s) ls' r ∷ fs) st') 1 (credit + length ms) (length lv) (homes r fs) target (go vs ls' st')) →
      Runs (λ j. ex j (frame c0 (in_order cs k) s ls r ∷ fs) st) 1 credit (length lv) (homes r fs) target (all ms (place c0 r) lv ls st go)
  all_runs [] [] h credit lv good c0 r k s ls fs st target go next =
      looser _ 1 1 (credit + 0) credit (length lv) (length lv) (homes r fs) target (go [] ls st) (omega arith) (omega arith) (next [] ls st refl)
  all_runs [] (c ∷ cs) h credit lv good c0 r k s ls fs st target go next = absurd h
  all_runs (m ∷ ms) [] h credit lv good c0 r k s ls fs st target go next = absurd h
  all_runs (m ∷ ms) (c ∷ cs) h credit lv good c0 r k s ls fs st target go next =
      then_runs _ credit (length lv) (homes r fs) (λ v ls'. frame c0 (in_order cs k) (v ∷ s) ls' r ∷ fs) target (m (place c0 r) lv ls st)
      (λ v ls' st'. all ms (place c0 r) lv ls' st' (λ vs. go (v ∷ vs))) (h.0.at lv good c0 r (in_order cs k) s ls fs st)
      (λ v ls' st'. looser _ 1 0 (suc credit) (suc credit) (length lv) (length lv) (homes r fs) target _ (omega arith) (omega arith)
      (all_runs ms cs h.1 (suc credit) lv good c0 r k (v ∷ s) ls' fs st' target (λ vs. go (v ∷ vs))
      (λ vs ls2 st2 e. looser _ 1 1 (credit + suc (length ms)) (suc credit + length ms) (length lv) (length lv) (homes r fs) target (go (v ∷ vs) ls2 st2)
      (omega arith) (omega arith) (next (v ∷ vs) ls2 st2 (ap suc e)))))

  -- what stands for a send
  pub calls_sim : (make : List Value → Call) (i : ℕ → Instruction by_name) (ms : List Meaning) (cs : List Code) →
      ((vs : List Value) → instr_of (make vs) ≡ i (length vs)) → ((vs : List Value) → args_of (make vs) ≡ vs) → AllSim ms cs →
      Sim (trees.calls make ms) (c.calling cs i)
  calls_sim make i ms cs is args h = record {
    at = λ lv good c0 r k s ls fs st.
        all_runs ms cs h 0 lv good c0 r (i (length cs) ∷ k) s ls fs st (λ v ls'. frame c0 k (v ∷ s) ls' r ∷ fs) (λ vs ls' st'. trees.call lv (make vs) ls' st')
        (λ vs ls' st' e.
        let n : length (args_of (make vs)) ≡ length ms = ap length (args vs) ∙ e in
        let ii : instr_of (make vs) ≡ i (length cs) = is vs ∙ ap i (e ∙ same_length ms cs h) in
        let P : Instruction by_name → List Value → Type 0 = λ x a. Runs (λ j. ex j (frame c0 (x ∷ k) (push_all a s) ls' r ∷ fs) st') 1
        (length (args_of (make vs))) (length lv) (homes r fs) (λ v ls'. frame c0 k (v ∷ s) ls' r ∷ fs) (trees.call lv (make vs) ls' st') in
        let base = call_runs lv good (make vs) c0 k s ls' r fs st' in
        let moved = subst (λ a. P (i (length cs)) a) (args vs) (subst (λ x. P x (args_of (make vs))) ii base) in
        looser _ 1 1 (length (args_of (make vs))) (0 + length ms) (length lv) (length lv) (homes r fs) (λ v ls2. frame c0 k (v ∷ s) ls2 r ∷ fs)
        (trees.call lv (make vs) ls' st') (omega arith) (omega (arith, n)) moved);
  }

  -- a new object, and an error that stands for no send
  pub made_runs : (o : Making by_name) (run : ℕ → Report) (credit n : ℕ) (c0 : CodeKey) (r : Role by_name) (k : Instructions) (s : List Value) (ls : List Slot)
      (fs : Frames) (st : State) → ((j : ℕ) → run (suc j) ≡ on j st (machine.makes o (frame c0 k s ls r ∷ fs) st)) →
      Runs run 1 credit n (homes r fs) (λ v ls'. frame c0 k (v ∷ s) ls' r ∷ fs) (trees.made_of o ls st)
  made_runs (Makes value objects) run credit n c0 r k s ls fs st e = λ k'. (suc k', omega arith, e k')
  made_runs NoSlot run credit n c0 r k s ls fs st e = (1, e 0)
  made_runs NoClass run credit n c0 r k s ls fs st e = (1, e 0)

  pub makes_sim : (class : Bytes) (fields : List FieldKey) (ms : List Meaning) (cs : List Code) → AllSim ms cs →
      Sim (trees.makes w class fields ms) (c.calling cs (machine.Make class fields))
  makes_sim class fields ms cs h = record {
    at = λ lv good c0 r k s ls fs st.
        all_runs ms cs h 0 lv good c0 r (machine.Make class fields (length cs) ∷ k) s ls fs st (λ v ls'. frame c0 k (v ∷ s) ls' r ∷ fs)
        (λ vs ls' st'. trees.made_of (w.made class fields vs st'.objects) ls' st')
        (λ vs ls' st' e.
        made_runs (w.made class fields vs st'.objects) _ (0 + length ms) (length lv) c0 r k s ls' fs st'
        (λ j. ap (λ n. on j st' (machine.if_popped (popped n [] (push_all vs s))
        (λ values s'. machine.makes (w.made class fields values st'.objects) (frame c0 k s' ls' r ∷ fs) st'))) (sym (same_length ms cs h) ∙ sym e)
        ∙ ap (λ o. on j st' (machine.if_popped o (λ values s'. machine.makes (w.made class fields values st'.objects) (frame c0 k s' ls' r ∷ fs) st')))
        (popped_all vs s)));
  }

  pub fails_sim : (error : RunError) (ms : List Meaning) (cs : List Code) → AllSim ms cs →
      Sim (trees.fails error ms) (λ k. in_order cs (machine.Fail error ∷ k))
  fails_sim error ms cs h = record {
    at = λ lv good c0 r k s ls fs st.
        all_runs ms cs h 0 lv good c0 r (machine.Fail error ∷ k) s ls fs st (λ v ls'. frame c0 k (v ∷ s) ls' r ∷ fs) (λ vs ls' st'. Stops (Fails error) st')
        (λ vs ls' st' e. (1, refl));
  }

  pub understood_sim : (error : RunError) (ms : List Meaning) (cs : List Code) → AllSim ms cs →
      Sim (trees.calls (Failing error) ms) (λ k. in_order cs (machine.Fail error ∷ k))
  understood_sim error ms cs h = calls_sim (Failing error) (λ n. machine.Fail error) ms cs (λ vs. refl) (λ vs. refl) h

  pub failing_sim : (error : RunError) (ms : List Meaning) (cs : List Code) → AllSim ms cs →
      Sim (trees.failing error ms) (λ k. in_order cs (machine.Fail error ∷ k))
  failing_sim (e.NotUnderstood selector) ms cs h = understood_sim (e.NotUnderstood selector) ms cs h
  failing_sim (e.Ambiguous selector) ms cs h = fails_sim (e.Ambiguous selector) ms cs h
  failing_sim e.Overflow ms cs h = fails_sim e.Overflow ms cs h
  failing_sim e.DivideByZero ms cs h = fails_sim e.DivideByZero ms cs h
  failing_sim e.DeadReturn ms cs h = fails_sim e.DeadReturn ms cs h
  failing_sim (e.NoField name) ms cs h = fails_sim (e.NoField name) ms cs h
  failing_sim (e.UnknownObject name) ms cs h = fails_sim (e.UnknownObject name) ms cs h
  failing_sim (e.ClosureArity count) ms cs h = fails_sim (e.ClosureArity count) ms cs h
  failing_sim e.StringLimit ms cs h = fails_sim e.StringLimit ms cs h

  -- ---- the small parts

  pub literal_sim : (value : Value) (i : Instruction by_name) → ((j : ℕ) (c0 : CodeKey) (k : Instructions) (s : List Value) (ls : List Slot) (r : Role by_name)
      (fs : Frames) (st : State) → ex (suc j) (frame c0 (i ∷ k) s ls r ∷ fs) st ≡ ex j (frame c0 k (value ∷ s) ls r ∷ fs) st) →
      Sim (trees.literal value) (λ k. i ∷ k)
  literal_sim value i does = record { at = λ lv good c0 r k s ls fs st. λ k'. (suc k', omega arith, does k' c0 k s ls r fs st) }

  pub local_runs : (o : Option Slot) (run : ℕ → Report) (n : ℕ) (c0 : CodeKey) (r : Role by_name) (k : Instructions) (s : List Value) (ls : List Slot)
      (fs : Frames) (st : State) → ((j : ℕ) → run (suc j) ≡ on j st (machine.if_plain o (λ v. going (frame c0 k (v ∷ s) ls r ∷ fs) st))) →
      Runs run 1 0 n (homes r fs) (λ v ls'. frame c0 k (v ∷ s) ls' r ∷ fs) (trees.local_of o ls st)
  local_runs (Some (Plain v)) run n c0 r k s ls fs st e = λ k'. (suc k', omega arith, e k')
  local_runs (Some (Cell c)) run n c0 r k s ls fs st e = (1, e 0)
  local_runs (Some Unset) run n c0 r k s ls fs st e = (1, e 0)
  local_runs None run n c0 r k s ls fs st e = (1, e 0)

  pub local_sim : (x : ℕ) → Sim (trees.local x) (λ k. machine.Load x ∷ k)
  local_sim x = record { at = λ lv good c0 r k s ls fs st. local_runs (slice_get ls x) _ (length lv) c0 r k s ls fs st (λ j. refl) }

  pub content_runs : (o : Option Value) (run : ℕ → Report) (n : ℕ) (c0 : CodeKey) (r : Role by_name) (k : Instructions) (s : List Value) (ls : List Slot)
      (fs : Frames) (st : State) → ((j : ℕ) → run (suc j) ≡ on j st (machine.if_there o (λ v. going (frame c0 k (v ∷ s) ls r ∷ fs) st))) →
      Runs run 1 0 n (homes r fs) (λ v ls'. frame c0 k (v ∷ s) ls' r ∷ fs) (trees.content_of o ls st)
  content_runs (Some v) run n c0 r k s ls fs st e = λ k'. (suc k', omega arith, e k')
  content_runs None run n c0 r k s ls fs st e = (1, e 0)

  pub cell_runs : (o : Option Slot) (run : ℕ → Report) (n : ℕ) (c0 : CodeKey) (r : Role by_name) (k : Instructions) (s : List Value) (ls : List Slot)
      (fs : Frames) (st : State) →
      ((j : ℕ) → run (suc j) ≡ on j st (machine.if_cell o (λ a. machine.if_there (slice_get st.cells a) (λ v. going (frame c0 k (v ∷ s) ls r ∷ fs) st)))) →
      Runs run 1 0 n (homes r fs) (λ v ls'. frame c0 k (v ∷ s) ls' r ∷ fs) (trees.cell_of o ls st)
  cell_runs (Some (Cell i)) run n c0 r k s ls fs st e = content_runs (slice_get st.cells i) run n c0 r k s ls fs st e
  cell_runs (Some (Plain v)) run n c0 r k s ls fs st e = (1, e 0)
  cell_runs (Some Unset) run n c0 r k s ls fs st e = (1, e 0)
  cell_runs None run n c0 r k s ls fs st e = (1, e 0)

  pub cell_sim : (x : ℕ) → Sim (trees.cell x) (λ k. machine.GetCell x ∷ k)
  cell_sim x = record { at = λ lv good c0 r k s ls fs st. cell_runs (slice_get ls x) _ (length lv) c0 r k s ls fs st (λ j. refl) }

  pub closed_if : (so : Bool) (run : ℕ → Report) (n b : ℕ) (captures : List Slot) (c0 : CodeKey) (r : Role by_name) (k : Instructions) (s : List Value)
      (ls : List Slot) (fs : Frames) (st : State) → ((j : ℕ) → run (suc j) ≡ on j st
      (machine.if_fits so machine.Lacks (λ st'. going (frame c0 k (v.Closure (length st'.closures) ∷ s) ls r ∷ fs)
      (with_closure st' (record { code = c0; block = b; captures = captures; home = home_of r }))) st)) →
      Runs run 1 0 n (homes r fs) (λ v ls'. frame c0 k (v ∷ s) ls' r ∷ fs)
      (trees.if_so so Stuck st (λ st'. Goes (v.Closure (length st'.closures)) ls
      (with_closure st' (record { code = c0; block = b; captures = captures; home = home_of r }))))
  closed_if true run n b captures c0 r k s ls fs st e = λ k'. (suc k', omega arith, e k')
  closed_if false run n b captures c0 r k s ls fs st e = (1, e 0)

  pub closed_runs : (own : Option TreeBlock) (o : Option (List Slot)) (run : ℕ → Report) (n b : ℕ) (c0 : CodeKey) (r : Role by_name) (k : Instructions)
      (s : List Value) (ls : List Slot) (fs : Frames) (st : State) → ((j : ℕ) →
      run (suc j) ≡ on j st (machine.closes (code_of b own) b o (record { now = frame c0 k s ls r; below = fs; state = st }))) →
      Runs run 1 0 n (homes r fs) (λ v ls'. frame c0 k (v ∷ s) ls' r ∷ fs) (trees.closed own b (place c0 r) o ls st)
  closed_runs None o run n b c0 r k s ls fs st e = (1, e 0)
  closed_runs (Some own) None run n b c0 r k s ls fs st e = (1, e 0)
  closed_runs (Some own) (Some captures) run n b c0 r k s ls fs st e = closed_if (own.captures == length captures) run n b captures c0 r k s ls fs st e

  pub closure_sim : (b : ℕ) (xs : List ℕ) → Sim (trees.closure bs b xs) (λ k. machine.Close b xs ∷ k)
  closure_sim b xs = record { at = λ lv good c0 r k s ls fs st. closed_runs (bs c0 b) (captured xs ls) _ (length lv) b c0 r k s ls fs st (λ j. refl) }
