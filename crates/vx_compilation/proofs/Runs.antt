-- The machine follows the meaning of trees.
use Rattle.std.proofs.Common.{◌≡◌, ℕ, zero, suc, ◌+◌, ◌≤◌, ◌==◌, Bool, true, false, List, [], ◌∷◌, length, map, Option, Some, None, slice_get, refl}
use Rattle.std.proofs.Common.{ap, ◌∙◌, arith}
use Rattle.vx_names.specs.declared.key.FieldKey.{FieldKey}
use Rattle.vx_syntax.specs.Expressions.{Bytes}
use Rattle.vx_model.specs.declared.value.Value.{Value}
use Rattle.vx_model.specs.declared.value.Value.TheVariants as v
use Rattle.vx_model.specs.declared.value.Thing.{Thing}
use Rattle.vx_model.specs.declared.report.RunError.{RunError}
use Rattle.vx_model.specs.declared.report.RunError.TheVariants as e
use Rattle.vx_model.specs.declared.report.Report.{Report}
use Rattle.vx_model.specs.declared.report.Report.TheVariants as reports
use Rattle.vx_model.specs.declared.primitives.Deed.{Deed}
use Rattle.vx_model.specs.declared.primitives.Deed.TheVariants.{Answers, Prints, Breaks, Evaluates, Repeats, Lacks}
use Rattle.vx_compilation.specs.declared.tree.TreeBlock.{TreeBlock}
use Rattle.vx_compilation.specs.declared.tree.Part as p
use Rattle.vx_compilation.specs.declared.tree.Act as a
use Rattle.vx_model.specs.Meaning.{Back, Fails, Out, Stuck}
use Rattle.vx_compilation.specs.Activations.{Making, Makes, NoSlot, NoClass, Slot, Unset, Plain, Cell, Target, ToCode, ToPrimitive, ToGetter}
use Rattle.vx_compilation.specs.Activations.{ToSetter, ToError, ToNothing, stored, opened, captured, with_cell, with_closure, with_content, counted}
use Rattle.vx_compilation.specs.Activations as activations
use Rattle.vx_compilation.specs.TreeMeaning as trees
use Rattle.vx_compilation.specs.TreeMeaning.{by_name, World, State, Closure, Blocks, CodeKey, Ended, Gives, Ends, Done, Goes, Stops, Call, Message}
use Rattle.vx_compilation.specs.TreeMeaning.{Primitive, Getting, Setting, Entering, Failing, Sends, Resends, Levels, Place, Meaning, after, all}
use Rattle.vx_compilation.specs.TreeMeaning.{back_to, Effect, Let, LetVar, Set, Statement, Does, Do, Return, Mode, Stays, Leaves, mode_of, levels}
use Rattle.vx_compilation.specs.TreeMeaning.{field_keys}
use Rattle.vx_compilation.specs.Machine as machine
use Rattle.vx_compilation.specs.Machine.{Instruction, Frame, frame, Role, Method, Evaluation, Turn, home_of, Stepped, On, Block, Codes, going}
use Rattle.vx_compilation.specs.Machine.{delivered, below, below_role, unwound, popped}
use Rattle.vx_compilation.specs.Code as c
use Rattle.vx_compilation.specs.Code.{Instructions, Code, in_order, statements_code, codes_of, code_of, block_code}
use Rattle.vx_compilation.specs.Fits as f
use Rattle.vx_compilation.specs.Fits.{Fits, FitAll, FitNew, FitBody, FitAct, FitActs, FitBlock, AllFit, IsGiven, IsGivenBy, AllGiven}
use Rattle.vx_compilation.proofs.Steps.{Frames, push_all, popped_all, prog, on, ex, anew, place, homes, Runs, looser, stepped, led, then_runs}
use Rattle.vx_compilation.proofs.Steps.{CallOk, Good, Sim, AllSim, all_runs, calls_sim, makes_sim, failing_sim, literal_sim, local_sim, cell_sim}
use Rattle.vx_compilation.proofs.Steps.{closure_sim}

module _ (w : World) (bs : Blocks) where
  -- ---- statements

  data ActSim : Statement Meaning → Statement Code → Type 0 where
    does_sim : {e : Effect} {me : Meaning} {c : Code} → (Sim w bs) me c → ActSim (Does e me) (Does e c)
    do_sim : {me : Meaning} {c : Code} → (Sim w bs) me c → ActSim (Do me) (Do c)
    return_sim : {me : Meaning} {c : Code} → (Sim w bs) me c → ActSim (Return me) (Return c)

  abbrev ActsSim : List (Statement Meaning) → List (Statement Code) → Type 0
  ActsSim [] [] = Unit {0}
  ActsSim [] (c ∷ cs) = ⊥
  ActsSim (a ∷ as') [] = ⊥
  ActsSim (a ∷ as') (c ∷ cs) = ActSim a c × ActsSim as' cs

  stored_runs : (o : Option (List Slot)) (run : ℕ → Report) (credit n : ℕ) (c0 : CodeKey) (r : Role by_name) (k : Instructions) (s : List Value)
      (fs : Frames) (st st' : State) (target : Value → List Slot → Frames) (go : List Slot → State → Done) →
      ((j : ℕ) → run (suc j) ≡ (on w bs) j st (machine.if_there o (λ ls'. going (frame c0 k s ls' r ∷ fs) st'))) → st.lines ≡ st'.lines →
      ((ls' : List Slot) → (Runs w bs) (λ j. (ex w bs) j (frame c0 k s ls' r ∷ fs) st') 0 credit n ((homes w bs) r fs) target (go ls' st')) →
      (Runs w bs) run 0 credit n ((homes w bs) r fs) target (trees.if_stored o st' go)
  stored_runs None run credit n c0 r k s fs st st' target go e same next = (1, e 0 ∙ ap reports.Stuck same)
  stored_runs (Some ls) run credit n c0 r k s fs st st' target go e same next =
      (looser w bs) run 1 0 credit credit n n ((homes w bs) r fs) target (go ls st') (omega arith) (omega arith)
      ((stepped w bs) run _ 0 credit n ((homes w bs) r fs) target (go ls st') e
      ((looser w bs) _ 0 0 credit (suc credit) n n ((homes w bs) r fs) target (go ls st') (omega arith)
      (omega arith) (next ls)))

  set_runs : (o : Option Slot) (run : ℕ → Report) (credit n : ℕ) (c0 : CodeKey) (r : Role by_name) (k : Instructions) (v : Value) (s : List Value)
      (ls : List Slot) (fs : Frames) (st : State) (target : Value → List Slot → Frames) (go : List Slot → State → Done) →
      ((j : ℕ) → run (suc j) ≡ (on w bs) j st (machine.if_cell o (λ a. going (frame c0 k s ls r ∷ fs) (with_content st a v)))) →
      ((st' : State) → (Runs w bs) (λ j. (ex w bs) j (frame c0 k s ls r ∷ fs) st') 0 credit n ((homes w bs) r fs) target (go ls st')) →
      (Runs w bs) run 0 credit n ((homes w bs) r fs) target (trees.set_in o v ls st go)
  set_runs (Some (Cell a)) run credit n c0 r k v s ls fs st target go e next =
      (looser w bs) run 1 0 credit credit n n ((homes w bs) r fs) target (go ls (with_content st a v)) (omega arith) (omega arith)
      ((stepped w bs) run _ 0 credit n ((homes w bs) r fs) target (go ls (with_content st a v)) e
      ((looser w bs) _ 0 0 credit (suc credit) n n ((homes w bs) r fs) target (go ls (with_content st a v)) (omega arith) (omega arith)
      (next (with_content st a v))))
  set_runs (Some (Plain u)) run credit n c0 r k v s ls fs st target go e next = (1, e 0)
  set_runs (Some Unset) run credit n c0 r k v s ls fs st target go e next = (1, e 0)
  set_runs None run credit n c0 r k v s ls fs st target go e next = (1, e 0)

  effect_runs : (e : Effect) (v : Value) (credit n : ℕ) (c0 : CodeKey) (r : Role by_name) (k : Instructions) (s : List Value) (ls : List Slot) (fs : Frames)
      (st : State) (target : Value → List Slot → Frames) (go : List Slot → State → Done) →
      ((ls' : List Slot) (st' : State) → (Runs w bs) (λ j. (ex w bs) j (frame c0 k s ls' r ∷ fs) st') 0 credit n ((homes w bs) r fs) target (go ls' st')) →
      (Runs w bs) (λ j. (ex w bs) j (frame c0 (c.effect_code e ∷ k) (v ∷ s) ls r ∷ fs) st) 0 credit n ((homes w bs) r fs) target (trees.does e v ls st go)
  effect_runs (Let x) v credit n c0 r k s ls fs st target go next = stored_runs (stored x (Plain v) ls) _ credit n c0 r k s fs st st target go
      (λ j. refl) refl (λ ls'. next ls' st)
  effect_runs (LetVar x) v credit n c0 r k s ls fs st target go next = stored_runs (stored x (Cell (length st.cells)) ls) _ credit n c0 r k s fs st
      (with_cell st v) target go (λ j. refl) refl (λ ls'. next ls' (with_cell st v))
  effect_runs (Set x) v credit n c0 r k s ls fs st target go next = set_runs (slice_get ls x) _ credit n c0 r k v s ls fs st target go (λ j. refl)
      (λ st'. next ls st')

  return_runs : (mode : Mode) (credit n : ℕ) (c0 : CodeKey) (r : Role by_name) (k : Instructions) (s : List Value) (fs : Frames) (v : Value)
      (ls : List Slot) (st : State) → (Runs w bs) (λ j. (ex w bs) j (frame c0 (c.returning_code mode k) (v ∷ s) ls r ∷ fs) st) 0 credit n ((homes w bs) r fs)
      (λ v' ls'. frame c0 k (v' ∷ s) ls' r ∷ fs) (trees.returning mode ((place w bs) c0 r) v ls st)
  return_runs Stays credit n c0 r k s fs v ls st = λ k'. (k', omega arith, refl)
  return_runs Leaves credit n c0 r k s fs v ls st = λ k'. (suc k', omega arith, refl)

  acts_runs : (mode : Mode) (as' : List (Statement Meaning)) (cs : List (Statement Code)) → ActsSim as' cs → (lv : Levels) → (Good w bs) lv →
      (c0 : CodeKey) (r : Role by_name) (k : Instructions) (s : List Value) (ls : List Slot) (fs : Frames) (st : State) →
      (Runs w bs) (λ j. (ex w bs) j (frame c0 (statements_code mode cs k) s ls r ∷ fs) st) 1 0 (length lv) ((homes w bs) r fs)
      (λ v ls'. frame c0 k (v ∷ s) ls' r ∷ fs)
      (trees.statements w mode as' ((place w bs) c0 r) lv ls st)
  acts_runs mode [] [] h lv good c0 r k s ls fs st = λ k'. (suc k', omega arith, refl)
  acts_runs mode [] (c ∷ cs) h lv good c0 r k s ls fs st = absurd h
  acts_runs mode (a ∷ as') [] h lv good c0 r k s ls fs st = absurd h
  acts_runs mode (a ∷ as') (b ∷ cs) (does_sim {e = e} {me = me} {c = c1} h, hs) lv good c0 r k s ls fs st =
      (then_runs w bs) _ 0 (length lv) ((homes w bs) r fs) (λ v ls'. frame c0 (c.effect_code e ∷ statements_code mode cs k) (v ∷ s) ls' r ∷ fs)
      (λ v ls'. frame c0 k (v ∷ s) ls' r ∷ fs) (me ((place w bs) c0 r) lv ls st) _ (h.at lv good c0 r _ s ls fs st)
      (λ v ls' st'. effect_runs e v 1 (length lv) c0 r (statements_code mode cs k) s ls' fs st' (λ v2 ls2. frame c0 k (v2 ∷ s) ls2 r ∷ fs)
      (trees.statements w mode as' ((place w bs) c0 r) lv)
      (λ ls2 st2. (looser w bs) _ 1 0 0 1 (length lv) (length lv) ((homes w bs) r fs) (λ v3 ls3. frame c0 k (v3 ∷ s) ls3 r ∷ fs)
      (trees.statements w mode as' ((place w bs) c0 r) lv ls2 st2) (omega arith) (omega arith) (acts_runs mode as' cs hs lv good c0 r k s ls2 fs st2)))
  acts_runs mode (a ∷ as') (b ∷ cs) (return_sim {me = me} {c = c1} h, hs) lv good c0 r k s ls fs st =
      (then_runs w bs) _ 0 (length lv) ((homes w bs) r fs) (λ v ls'. frame c0 (c.returning_code mode k) (v ∷ s) ls' r ∷ fs)
      (λ v ls'. frame c0 k (v ∷ s) ls' r ∷ fs)
      (me ((place w bs) c0 r) lv ls st) (trees.returning mode ((place w bs) c0 r)) (h.at lv good c0 r (c.returning_code mode k) s ls fs st)
      (λ v ls' st'. return_runs mode 1 (length lv) c0 r k s fs v ls' st')
  acts_runs mode (a ∷ []) (b ∷ []) (do_sim {me = me} {c = c1} h, hs) lv good c0 r k s ls fs st = h.at lv good c0 r k s ls fs st
  acts_runs mode (a ∷ []) (b ∷ b' ∷ cs) (do_sim {me = me} {c = c1} h, hs) lv good c0 r k s ls fs st = absurd hs
  acts_runs mode (a ∷ a' ∷ as') (b ∷ []) (do_sim {me = me} {c = c1} h, hs) lv good c0 r k s ls fs st = absurd hs
  acts_runs mode (a ∷ a' ∷ as') (b ∷ b' ∷ cs) (do_sim {me = me} {c = c1} h, hs) lv good c0 r k s ls fs st =
      (then_runs w bs) _ 0 (length lv) ((homes w bs) r fs) (λ v ls'. frame c0 (machine.Pop ∷ statements_code mode (b' ∷ cs) k) (v ∷ s) ls' r ∷ fs)
      (λ v ls'. frame c0 k (v ∷ s) ls' r ∷ fs) (me ((place w bs) c0 r) lv ls st) (λ v. trees.statements w mode (a' ∷ as') ((place w bs) c0 r) lv)
      (h.at lv good c0 r (machine.Pop ∷ statements_code mode (b' ∷ cs) k) s ls fs st)
      (λ v ls' st'. let o = trees.statements w mode (a' ∷ as') ((place w bs) c0 r) lv ls' st' in
      (looser w bs) _ 2 0 0 1 (length lv) (length lv) ((homes w bs) r fs) (λ v ls'. frame c0 k (v ∷ s) ls' r ∷ fs) o (omega arith) (omega arith)
      ((stepped w bs) _ (λ j. (ex w bs) j (frame c0 (statements_code mode (b' ∷ cs) k) s ls' r ∷ fs) st') 1 0 (length lv) ((homes w bs) r fs)
      (λ v ls'. frame c0 k (v ∷ s) ls' r ∷ fs) o (λ j. refl)
      ((looser w bs) _ 1 1 0 1 (length lv) (length lv) ((homes w bs) r fs) (λ v ls'. frame c0 k (v ∷ s) ls' r ∷ fs) o (omega arith) (omega arith)
      (acts_runs mode (a' ∷ as') (b' ∷ cs) hs lv good c0 r k s ls' fs st'))))

  -- ---- inlined bodies

  put_runs : (o : Option (List Slot)) (x : ℕ) (v : Value) (credit n : ℕ) (out : ℕ → Option Frames) (target : Value → List Slot → Frames) (run : ℕ → Report)
      (st : State) (go : List Slot → State → Done) → (Runs w bs) run 0 credit n out target
      (trees.if_stored o st (λ ls2 st2. trees.if_stored (stored x (Plain v) ls2) st2 go)) →
      (Runs w bs) run 0 credit n out target (trees.if_stored (trees.placed_one x v o) st go)
  put_runs None x v credit n out target run st go h = h
  put_runs (Some ls) x v credit n out target run st go h = h

  stores_runs : (xs : List ℕ) (vs : List Value) → length xs ≡ length vs →
      (credit n : ℕ) (c0 : CodeKey) (r : Role by_name) (k : Instructions) (s : List Value) (ls : List Slot) (fs : Frames) (st : State)
      (target : Value → List Slot → Frames) (go : List Slot → State → Done) →
      ((ls' : List Slot) → (Runs w bs) (λ j. (ex w bs) j (frame c0 k s ls' r ∷ fs) st) 0 credit n ((homes w bs) r fs) target (go ls' st)) →
      (Runs w bs) (λ j. (ex w bs) j (frame c0 (c.stores_code xs k) (push_all vs s) ls r ∷ fs) st) 0 credit n ((homes w bs) r fs) target
      (trees.if_stored (trees.placed xs vs ls) st go)
  stores_runs [] [] e credit n c0 r k s ls fs st target go next = next ls
  stores_runs [] (v ∷ vs) e credit n c0 r k s ls fs st target go next = absurd (omega (arith, e))
  stores_runs (x ∷ xs) [] e credit n c0 r k s ls fs st target go next = absurd (omega (arith, e))
  stores_runs (x ∷ xs) (v ∷ vs) e credit n c0 r k s ls fs st target go next =
      put_runs (trees.placed xs vs ls) x v credit n ((homes w bs) r fs) target _ st go
      (stores_runs xs vs (omega (arith, e)) credit n c0 r (machine.Store x ∷ k) (v ∷ s) ls fs st target
      (λ ls2 st2. trees.if_stored (stored x (Plain v) ls2) st2 go)
      (λ ls2. stored_runs (stored x (Plain v) ls2) _ credit n c0 r k s fs st st target go (λ j. refl) refl next))

  inside_runs : (xs : List ℕ) (as' : List (Statement Meaning)) (cs : List (Statement Code)) → ActsSim as' cs → (lv : Levels) → (Good w bs) lv →
      (vs : List Value) →
      length xs ≡ length vs → (credit : ℕ) (c0 : CodeKey) (r : Role by_name) (k : Instructions) (s : List Value) (ls : List Slot) (fs : Frames)
      (st : State) → (Runs w bs) (λ j. (ex w bs) j (frame c0 (machine.Mark ∷ c.stores_code xs (statements_code Stays cs k)) (push_all vs s) ls r ∷
      fs) st) 1 credit
      (length lv) ((homes w bs) r fs) (λ v ls'. frame c0 k (v ∷ s) ls' r ∷ fs) (trees.inside w xs as' ((place w bs) c0 r) lv vs ls st)
  inside_runs xs as' cs h [] good vs e credit c0 r k s ls fs st = (0, omega arith, refl)
  inside_runs xs as' cs h (does ∷ lower) good vs e credit c0 r k s ls fs st =
      let o = trees.inside w xs as' ((place w bs) c0 r) (does ∷ lower) vs ls st in
      let target : Value → List Slot → Frames = λ v ls'. frame c0 k (v ∷ s) ls' r ∷ fs in
      let run' : ℕ → Report = λ j. (ex w bs) j (frame c0 (c.stores_code xs (statements_code Stays cs k)) (push_all vs s) ls r ∷ fs) (counted st) in
      (stepped w bs) _ run' 0 credit (suc (length lower)) ((homes w bs) r fs) target o (λ j. refl)
      ((looser w bs) run' 0 0 0 (suc credit) (length lower) (suc (length lower)) ((homes w bs) r fs) target o (omega arith) (omega arith)
      (stores_runs xs vs e 0 (length lower) c0 r (statements_code Stays cs k) s ls fs (counted st) target
      (trees.statements w Stays as' ((place w bs) c0 r) lower)
      (λ ls2. (looser w bs) _ 1 0 0 0 (length lower) (length lower) ((homes w bs) r fs) target
      (trees.statements w Stays as' ((place w bs) c0 r) lower ls2 (counted st))
      (omega arith) (omega arith) (acts_runs Stays as' cs h lower good.1 c0 r k s ls2 fs (counted st)))))

  inlined_sim : (ms : List Meaning) (cs : List Code) → (AllSim w bs) ms cs → (xs : List ℕ) → length xs ≡ length ms →
      (as' : List (Statement Meaning)) (body : List (Statement Code)) → ActsSim as' body → (Sim w bs) (trees.inlined w ms xs as') (c.inlined_code cs xs body)
  inlined_sim ms cs h xs e as' body hs = record {
    at = λ lv good c0 r k s ls fs st.
        (all_runs w bs) ms cs h 0 lv good c0 r (machine.Mark ∷ c.stores_code xs (statements_code Stays body k)) s ls fs st
        (λ v ls'. frame c0 k (v ∷ s) ls' r ∷ fs)
        (trees.inside w xs as' ((place w bs) c0 r) lv)
        (λ vs ls' st' ee. inside_runs xs as' body hs lv good vs (omega (arith, e, ee)) (0 + length ms) c0 r k s ls' fs st');
  }

  -- ---- trees whose inlined calls have as many formals as arguments

  counted_parts : {n : _} (row : p.Row_of-Part n) → length (f.count row) ≡ length (trees.parts w bs row)
  counted_parts p.end_of-Part = refl
  counted_parts (p.more_of-Part own rest) = ap suc (counted_parts rest)

  mutual
    part_sim : (own : p.Part) → Fits own → (Sim w bs) (trees.part w bs own) (c.part_code own)
    part_sim (p.Int n) h = (literal_sim w bs) (v.Int n) (machine.PushInt n) (λ j c0 k s ls r fs st. refl)
    part_sim (p.Text bytes) h = (literal_sim w bs) (v.Text bytes) (machine.PushText bytes) (λ j c0 k s ls r fs st. refl)
    part_sim (p.Local x) h = (local_sim w bs) x
    part_sim (p.Cell x) h = (cell_sim w bs) x
    part_sim (p.Object name) h = (literal_sim w bs) (w.named name) (machine.PushObject name) (λ j c0 k s ls r fs st. refl)
    part_sim (p.Closure b xs) h = (closure_sim w bs) b xs
    part_sim (p.New' class shape row) h = (makes_sim w bs) class (field_keys row) (trees.new_parts w bs row) (c.new_code row) (new_sim row h)
    part_sim (p.Send' selector shape row) h = (calls_sim w bs) (Message (Sends selector)) (machine.Send (Sends selector)) (trees.parts w bs row)
        (c.parts_code row)
        (λ vs. refl) (λ vs. refl) (parts_sim row h)
    part_sim (p.Resend' method at shape row) h = (calls_sim w bs) (Message (Resends method at)) (machine.Send (Resends method at)) (trees.parts w bs row)
        (c.parts_code row) (λ vs. refl) (λ vs. refl) (parts_sim row h)
    part_sim (p.Prim' number shape row) h = (calls_sim w bs) (Primitive number) (machine.Perform number) (trees.parts w bs row) (c.parts_code row) (λ vs. refl)
        (λ vs. refl) (parts_sim row h)
    part_sim (p.Get' field shape row) h = (calls_sim w bs) (Getting field) (machine.Get field) (trees.parts w bs row) (c.parts_code row) (λ vs. refl)
        (λ vs. refl)
        (parts_sim row h)
    part_sim (p.Set' field shape row) h = (calls_sim w bs) (Setting field) (machine.Set field) (trees.parts w bs row) (c.parts_code row) (λ vs. refl)
        (λ vs. refl)
        (parts_sim row h)
    part_sim (p.Call' method variant shape row) h = (calls_sim w bs) (Entering (record { method = method; variant = variant }))
        (machine.Enter (record { method = method; variant = variant })) (trees.parts w bs row) (c.parts_code row) (λ vs. refl) (λ vs. refl)
        (parts_sim row h)
    part_sim (p.Inlined' shape row xs shape2 body) h = inlined_sim (trees.parts w bs row) (c.parts_code row) (parts_sim row h.0) xs
        (h.1 ∙ counted_parts row) (trees.body_of w bs body) (c.body_code body) (body_sim body h.2)
    part_sim (p.Fail' error shape row) h = (failing_sim w bs) error (trees.parts w bs row) (c.parts_code row) (parts_sim row h)

    parts_sim : {n : _} (row : p.Row_of-Part n) → FitAll row → (AllSim w bs) (trees.parts w bs row) (c.parts_code row)
    parts_sim p.end_of-Part h = tt
    parts_sim (p.more_of-Part own rest) h = (part_sim own h.0, parts_sim rest h.1)

    new_sim : {n : _} (row : p.Row_of-Part-New-1-2 n) → FitNew row → (AllSim w bs) (trees.new_parts w bs row) (c.new_code row)
    new_sim p.end_of-Part-New-1-2 h = tt
    new_sim (p.more_of-Part-New-1-2 key own rest) h = (part_sim own h.0, new_sim rest h.1)

    body_sim : {n : _} (row : p.Row_of-Act n) → FitBody row → ActsSim (trees.body_of w bs row) (c.body_code row)
    body_sim p.end_of-Act h = tt
    body_sim (p.more_of-Act own rest) h = (act_sim own h.0, body_sim rest h.1)

    act_sim : (own : a.Act) → FitAct own → ActSim (trees.statement w bs own) (c.statement_code own)
    act_sim (a.Let x own) h = does_sim (part_sim own h)
    act_sim (a.LetVar x own) h = does_sim (part_sim own h)
    act_sim (a.Set x own) h = does_sim (part_sim own h)
    act_sim (a.Do own) h = do_sim (part_sim own h)
    act_sim (a.Back own) h = return_sim (part_sim own h)

  -- ---- blocks and calls

  list_sim : (as' : List a.Act) → FitActs as' → ActsSim (map (trees.statement w bs) as') (map c.statement_code as')
  list_sim [] h = tt
  list_sim (own ∷ rest) h = (act_sim own h.0, list_sim rest h.1)

  -- a block, up to its end
  block_runs : (b : ℕ) (tb : TreeBlock) → FitActs tb.acts → (lv : Levels) → (Good w bs) lv →
      (c0 : CodeKey) (r : Role by_name) (ls : List Slot) (fs : Frames) (st : State) →
      (Runs w bs) (λ j. (ex w bs) j (frame c0 (block_code b tb).code [] ls r ∷ fs) st) 1 0 (length lv) ((homes w bs) r fs)
      (λ v ls'. frame c0 (machine.Leave ∷ []) (v ∷ []) ls' r ∷ fs) (trees.block w bs b tb ((place w bs) c0 r) lv ls st)
  block_runs b tb fits lv good c0 r ls fs st = acts_runs (mode_of b) (map (trees.statement w bs) tb.acts) (map c.statement_code tb.acts)
      (list_sim tb.acts fits) lv good c0 r (machine.Leave ∷ []) [] ls fs st

  -- one instruction at the end
  ended : (run : ℕ → Report) (d credit n : ℕ) (out : ℕ → Option Frames) (target target' : Value → List Slot → Frames) (o : Done) →
      ((v : Value) (ls : List Slot) (st : State) (j : ℕ) → (ex w bs) (suc j) (target v ls) st ≡ (ex w bs) j (target' v ls) st) →
      (Runs w bs) run d credit n out target o →
      (Runs w bs) run d credit n out target' o
  ended run d credit n out target target' (Goes v ls st) e x = λ k. let y = x (suc k) in (y.0, omega (arith, y.1), y.2 ∙ e v ls st k)
  ended run d credit n out target target' (Stops (Back h v) st) e x = x
  ended run d credit n out target target' (Stops (Fails h) st) e x = x
  ended run d credit n out target target' (Stops Out st) e x = x
  ended run d credit n out target target' (Stops Stuck st) e x = x

  -- a return that is caught here, or passes (on w bs)
  caught_back : (b : Bool) (run : ℕ → Report) (d credit n h : ℕ) (v : Value) (st : State) (F : Frames) (ls : List Slot) →
      ((k : ℕ) → (j : ℕ) × (k + d ≤ j) × (run j ≡ (on w bs) k st (unwound v (machine.below_at b F (below h F)) st))) →
      (Runs w bs) run d credit n (λ h. below h F) (λ v ls'. delivered v F) (back_to ls (trees.if_home b h v st))
  caught_back true run d credit n h v st F ls x = x
  caught_back false run d credit n h v st F ls x = x

  caught_runs : (o : Done) (run : ℕ → Report) (d credit n id : ℕ) (F : Frames) (ls : List Slot) →
      (Runs w bs) run d credit n ((homes w bs) (Method id) F) (λ v ls'. delivered v F) o →
      (Runs w bs) run d credit n (λ h. below h F) (λ v ls'. delivered v F) (back_to ls (trees.caught id o))
  caught_runs (Goes v l st) run d credit n id F ls x = x
  caught_runs (Stops (Back h v) st) run d credit n id F ls x = caught_back (h == id) run d credit n h v st F ls x
  caught_runs (Stops (Fails e) st) run d credit n id F ls x = x
  caught_runs (Stops Out st) run d credit n id F ls x = x
  caught_runs (Stops Stuck st) run d credit n id F ls x = x

  enter_if : (so : Bool) (tb : TreeBlock) → FitActs tb.acts → (lower : Levels) → (Good w bs) lower →
      (credit : ℕ) (k : CodeKey) (vs : List Value) (F : Frames) (ls : List Slot) (st : State) →
      (Runs w bs) (λ j. (on w bs) j st (machine.if_fits so machine.Lacks
      (λ x. going (frame k (block_code 0 tb).code [] (opened tb.locals [] vs) (Method x.next) ∷ F)
      (counted x)) st)) 0 (suc credit) (suc (length lower)) (λ h. below h F) (λ v ls'. delivered v F)
      (back_to ls (trees.if_fit so Stuck st (λ x. trees.caught x.next (trees.block w bs 0 tb (record { code = k; home = x.next }) lower
      (opened tb.locals [] vs) (counted x)))))
  enter_if false tb fits lower good credit k vs F ls st = (0, refl)
  enter_if true tb fits lower good credit k vs F ls st =
      let o = trees.block w bs 0 tb (record { code = k; home = st.next }) lower (opened tb.locals [] vs) (counted st) in
      let target : Value → List Slot → Frames = λ v ls'. delivered v F in
      let run : ℕ → Report = λ j. (ex w bs) j (frame k (block_code 0 tb).code [] (opened tb.locals [] vs) (Method st.next) ∷ F) (counted st) in
      let body = block_runs 0 tb fits lower good k (Method st.next) (opened tb.locals [] vs) F (counted st) in
      let left = ended run 1 0 (length lower) ((homes w bs) (Method st.next) F) (λ v ls'. frame k (machine.Leave ∷ []) (v ∷ []) ls' (Method st.next) ∷ F)
      (λ v ls'. delivered v F) o (λ v l x j. refl) body in
      (looser w bs) run 1 0 0 (suc credit) (length lower) (suc (length lower)) (λ h. below h F) target (back_to ls (trees.caught st.next o)) (omega arith)
      (omega arith) (caught_runs o run 1 0 (length lower) st.next F ls left)

  enter_runs : (o : Option TreeBlock) → FitBlock o → (lower : Levels) → (Good w bs) lower →
      (credit : ℕ) (k : CodeKey) (vs : List Value) (F : Frames) (ls : List Slot) (st : State) →
      (Runs w bs) (λ j. (on w bs) j st (machine.enters k (code_of 0 o) vs F st)) 0 (suc credit) (suc (length lower)) (λ h. below h F) (λ v ls'. delivered v F)
      (back_to ls (trees.entered w bs lower k o vs st))
  enter_runs None fits lower good credit k vs F ls st = (0, refl)
  enter_runs (Some tb) fits lower good credit k vs F ls st = enter_if (length tb.formals == length vs) tb fits lower good credit k vs F ls st

  -- a closure's activation ends
  passed_runs : (o : Done) (run : ℕ → Report) (d credit n home : ℕ) (F : Frames) (ls : List Slot) →
      (Runs w bs) run d credit n ((homes w bs) (Evaluation home) F) (λ v ls'. delivered v F) o →
      (Runs w bs) run d credit n (λ h. below h F) (λ v ls'. delivered v F) (back_to ls (trees.passed o))
  passed_runs (Goes v l st) run d credit n home F ls x = x
  passed_runs (Stops (Back h v) st) run d credit n home F ls x = x
  passed_runs (Stops (Fails e) st) run d credit n home F ls x = x
  passed_runs (Stops Out st) run d credit n home F ls x = x
  passed_runs (Stops Stuck st) run d credit n home F ls x = x

  evaluation_runs : (lv : Levels) → (Good w bs) lv → (h : Closure) (tb : TreeBlock) → FitActs tb.acts →
      (vs : List Value) (credit : ℕ) (F : Frames) (ls : List Slot) (st : State) → 2 ≤ credit →
      (Runs w bs) (λ j. (on w bs) j st (machine.begins h (block_code h.block tb) vs (Evaluation h.home) F st)) 0 credit (suc (length lv)) (λ h. below h F)
      (λ v ls'. delivered v F) (back_to ls (trees.evaluation w bs lv h tb vs st))
  evaluation_runs [] good h tb fits vs credit F ls st le = (0, omega (arith, le), refl)
  evaluation_runs (does ∷ lower) good h tb fits vs credit F ls st le =
      let o = trees.block w bs h.block tb (record { code = h.code; home = h.home }) lower (opened tb.locals h.captures vs) st in
      let target : Value → List Slot → Frames = λ v ls'. delivered v F in
      let run : ℕ → Report = λ j. (ex w bs) j (frame h.code (block_code h.block tb).code [] (opened tb.locals h.captures vs) (Evaluation h.home) ∷ F) st in
      let body = block_runs h.block tb fits lower good.1 h.code (Evaluation h.home) (opened tb.locals h.captures vs) F st in
      let left = ended run 1 0 (length lower) ((homes w bs) (Evaluation h.home) F)
      (λ v ls'. frame h.code (machine.Leave ∷ []) (v ∷ []) ls' (Evaluation h.home) ∷ F) (λ v ls'. delivered v F) o (λ v l x j. refl) body in
      (looser w bs) run 1 0 0 credit (length lower) (suc (suc (length lower))) (λ h. below h F) target (back_to ls (trees.passed o)) (omega arith)
      (omega (arith, le)) (passed_runs o run 1 0 (length lower) h.home F ls left)

  turn_runs : (o : Done) (next : State → Ended) (run : ℕ → Report) (n : ℕ) (h : Closure) (tb : TreeBlock) (F : Frames) (ls : List Slot) →
      (prog w bs) h.code h.block ≡ Some (block_code h.block tb) → (Runs w bs) run 1 0 n ((homes w bs) (Turn h) F)
      (λ v ls'. frame h.code (machine.Leave ∷ []) (v ∷ []) ls' (Turn h) ∷ F) o →
      ((st : State) → (Runs w bs) (λ j. (on w bs) j st (machine.begins h (block_code h.block tb) [] (Turn h) F st)) 0 1 n (λ h. below h F)
      (λ v ls'. delivered v F)
      (back_to ls (next st))) → (Runs w bs) run 0 1 (suc n) (λ h. below h F) (λ v ls'. delivered v F) (back_to ls (trees.again (trees.passed o) next))
  turn_runs (Goes v l st) next run n h tb F ls e x y =
      let target : Value → List Slot → Frames = λ v ls'. delivered v F in
      let o = back_to ls (next st) in
      let run' : ℕ → Report = λ j. (on w bs) j st (machine.begins h (block_code h.block tb) [] (Turn h) F st) in
      let goes : (k : ℕ) → (j : ℕ) × (k + 1 ≤ j) × (run j ≡ run' k) = λ k. let z = x (suc k) in
      (z.0, omega (arith, z.1), z.2 ∙ ap (λ b. (on w bs) k st (machine.turns h b F st)) e) in
      (looser w bs) run 1 0 0 1 n (suc n) (λ h. below h F) target o (omega arith) (omega arith)
      ((led w bs) run run' 0 0 n (λ h. below h F) target o goes (y st))
  turn_runs (Stops (Back b v) st) next run n h tb F ls e x y = λ k. let z = x k in (z.0, omega (arith, z.1), z.2)
  turn_runs (Stops (Fails b) st) next run n h tb F ls e x y = x
  turn_runs (Stops Out st) next run n h tb F ls e x y = (x.0, omega (arith, x.1), x.2)
  turn_runs (Stops Stuck st) next run n h tb F ls e x y = x

  turns_runs : (lv : Levels) → (Good w bs) lv → (h : Closure) (tb : TreeBlock) → FitActs tb.acts → (prog w bs) h.code h.block ≡ Some (block_code h.block tb) →
      (F : Frames) (ls : List Slot) (st : State) → (Runs w bs) (λ j. (on w bs) j st (machine.begins h (block_code h.block tb) [] (Turn h) F st)) 0 1 (length lv)
      (λ h. below h F) (λ v ls'. delivered v F) (back_to ls (trees.turns w bs lv h tb st))
  turns_runs [] good h tb fits e F ls st = (0, omega arith, refl)
  turns_runs (does ∷ lower) good h tb fits e F ls st =
      turn_runs (trees.block w bs h.block tb (record { code = h.code; home = h.home }) lower (opened tb.locals h.captures []) st)
      (trees.turns w bs lower h tb) _ (length lower) h tb F ls e
      (block_runs h.block tb fits lower good.1 h.code (Turn h) (opened tb.locals h.captures []) F st)
      (λ st'. turns_runs lower good.1 h tb fits e F ls st')

  evaluation_if : (so : Bool) (error : RunError) (lower : Levels) → (Good w bs) lower → (h : Closure) (tb : TreeBlock) → FitActs tb.acts →
      (vs : List Value) (credit : ℕ) (F : Frames) (ls : List Slot) (st : State) → 2 ≤ credit →
      (Runs w bs) (λ j. (on w bs) j st (machine.if_fits so (machine.Stops error st)
      (machine.begins h (block_code h.block tb) vs (Evaluation h.home) F) st)) 0 credit
      (suc (length lower)) (λ h. below h F) (λ v ls'. delivered v F) (back_to ls (trees.if_fit so (Fails error) st (trees.evaluation w bs lower h tb vs)))
  evaluation_if false error lower good h tb fits vs credit F ls st le = (0, refl)
  evaluation_if true error lower good h tb fits vs credit F ls st le = evaluation_runs lower good h tb fits vs credit F ls st le

  evaluation_block : (o : Option TreeBlock) → FitBlock o → (lower : Levels) → (Good w bs) lower →
      (h : Closure) (vs : List Value) (credit : ℕ) (F : Frames) (ls : List Slot) (st : State) → 2 ≤ credit →
      (Runs w bs) (λ j. (on w bs) j st (machine.evaluates_block h (code_of h.block o) vs F st)) 0 credit (suc (length lower)) (λ h. below h F)
      (λ v ls'. delivered v F)
      (back_to ls (trees.evaluation_of w bs lower h o vs st))
  evaluation_block None fits lower good h vs credit F ls st le = (0, refl)
  evaluation_block (Some tb) fits lower good h vs credit F ls st le = evaluation_if (length tb.formals == length vs)
      (e.ClosureArity (length vs)) lower good h tb fits vs credit F ls st le

  evaluates_runs : AllFit bs → (o : Option Closure) (lower : Levels) → (Good w bs) lower →
      (vs : List Value) (credit : ℕ) (F : Frames) (ls : List Slot) (st : State) → 2 ≤ credit →
      (Runs w bs) (λ j. (on w bs) j st (machine.evaluates (prog w bs) o vs F st)) 0 credit (suc (length lower)) (λ h. below h F) (λ v ls'. delivered v F)
      (back_to ls (trees.evaluates w bs lower o vs st))
  evaluates_runs fit None lower good vs credit F ls st le = (0, refl)
  evaluates_runs fit (Some h) lower good vs credit F ls st le = evaluation_block (bs h.code h.block) (fit h.code h.block) lower good h vs credit F ls st le

  turns_if : (so : Bool) (lower : Levels) → (Good w bs) lower → (h : Closure) (tb : TreeBlock) → FitActs tb.acts →
      (prog w bs) h.code h.block ≡ Some (block_code h.block tb) → (credit : ℕ) (F : Frames) (ls : List Slot) (st : State) → 2 ≤ credit →
      (Runs w bs) (λ j. (on w bs) j st (machine.if_fits so (machine.Stops (e.ClosureArity 0) st)
      (machine.begins h (block_code h.block tb) [] (Turn h) F) st)) 0 credit
      (suc (length lower)) (λ h. below h F) (λ v ls'. delivered v F) (back_to ls
      (trees.if_fit so (Fails (e.ClosureArity 0)) st (trees.turns w bs lower h tb)))
  turns_if false lower good h tb fits e credit F ls st le = (0, refl)
  turns_if true lower good h tb fits e credit F ls st le = (looser w bs) _ 0 0 1 credit (length lower) (suc (length lower)) (λ h. below h F)
      (λ v ls'. delivered v F) (back_to ls (trees.turns w bs lower h tb st)) (omega arith) (omega (arith, le)) (turns_runs lower good h tb fits e F ls st)

  turns_block : (o : Option TreeBlock) → FitBlock o → (lower : Levels) → (Good w bs) lower → (h : Closure) → bs h.code h.block ≡ o →
      (credit : ℕ) (F : Frames) (ls : List Slot) (st : State) → 2 ≤ credit →
      (Runs w bs) (λ j. (on w bs) j st (machine.repeats_block h (code_of h.block o) F st)) 0 credit (suc (length lower)) (λ h. below h F)
      (λ v ls'. delivered v F)
      (back_to ls (trees.turns_of w bs lower h o st))
  turns_block None fits lower good h e credit F ls st le = (0, refl)
  turns_block (Some tb) fits lower good h e credit F ls st le = turns_if (length tb.formals == 0) lower good h tb fits
      (ap (code_of h.block) e) credit F ls st le

  repeats_runs : AllFit bs → (o : Option Closure) (lower : Levels) → (Good w bs) lower → (credit : ℕ) (F : Frames) (ls : List Slot) (st : State) → 2 ≤ credit →
      (Runs w bs) (λ j. (on w bs) j st (machine.repeats (prog w bs) o F st)) 0 credit (suc (length lower)) (λ h. below h F) (λ v ls'. delivered v F)
      (back_to ls (trees.repeats w bs lower o st))
  repeats_runs fit None lower good credit F ls st le = (0, refl)
  repeats_runs fit (Some h) lower good credit F ls st le = turns_block (bs h.code h.block) (fit h.code h.block) lower good h refl credit F ls st le

  does_runs : AllFit bs → (what : Deed) (vs : List Value) → IsGiven what vs → (lower : Levels) → (Good w bs) lower →
      (F : Frames) (ls : List Slot) (st : State) →
      (Runs w bs) (λ j. (on w bs) j st (machine.does w (prog w bs) what F st)) 0 (suc (length vs)) (suc (length lower)) (λ h. below h F)
      (λ v ls'. delivered v F)
      (back_to ls (trees.doing w bs lower what st))
  does_runs fit (Answers value) vs n lower good F ls st = λ k. (k, omega arith, refl)
  does_runs fit (Prints line) vs n lower good F ls st = λ k. (k, omega arith, (anew w bs) k st (activations.with_line st line) (delivered w.nil F))
  does_runs fit (Breaks e) vs n lower good F ls st = (0, refl)
  does_runs fit (Evaluates i args) vs n lower good F ls st = evaluates_runs fit (slice_get st.closures i) lower good args (suc (length vs)) F ls st
      (omega (arith, n))
  does_runs fit (Repeats i) vs n lower good F ls st = repeats_runs fit (slice_get st.closures i) lower good (suc (length vs)) F ls st (omega (arith, n))
  does_runs fit Lacks vs n lower good F ls st = (0, refl)

  performs_runs : AllFit bs → (o : Option Deed) (vs : List Value) → IsGivenBy o vs → (lower : Levels) → (Good w bs) lower →
      (F : Frames) (ls : List Slot) (st : State) → (Runs w bs) (λ j. (on w bs) j st (machine.performs w (prog w bs) o F st)) 0 (suc (length vs))
      (suc (length lower))
      (λ h. below h F) (λ v ls'. delivered v F) (back_to ls (trees.performing w bs lower o st))
  performs_runs fit None vs n lower good F ls st = (0, refl)
  performs_runs fit (Some what) vs n lower good F ls st = does_runs fit what vs n lower good F ls st

  -- fields
  given_runs : (o : Option Value) (credit n : ℕ) (F : Frames) (ls : List Slot) (st : State) →
      (Runs w bs) (λ j. (on w bs) j st (machine.gives o F st)) 0 credit n (λ h. below h F) (λ v ls'. delivered v F) (back_to ls (trees.given o st))
  given_runs (Some value) credit n F ls st = λ k. (k, omega arith, refl)
  given_runs None credit n F ls st = (0, refl)

  gets_runs : (field : FieldKey) (vs : List Value) (credit n : ℕ) (F : Frames) (ls : List Slot) (st : State) →
      (Runs w bs) (λ j. (on w bs) j st (machine.gets w field vs F st)) 0 credit n (λ h. below h F) (λ v ls'. delivered v F)
      (back_to ls (trees.getting w field vs st))
  gets_runs field [] credit n F ls st = (0, refl)
  gets_runs field (value ∷ []) credit n F ls st = given_runs (w.got field value st.objects) credit n F ls st
  gets_runs field (value ∷ other ∷ more) credit n F ls st = (0, refl)

  puts_runs : (o : Option (List Thing)) (credit n : ℕ) (F : Frames) (ls : List Slot) (st : State) →
      (Runs w bs) (λ j. (on w bs) j st (machine.puts w o F st)) 0 credit n (λ h. below h F) (λ v ls'. delivered v F) (back_to ls (trees.put_in w o st))
  puts_runs (Some objects) credit n F ls st = λ k. (k, omega arith, (anew w bs) k st (activations.with_objects st objects) (delivered w.nil F))
  puts_runs None credit n F ls st = (0, refl)

  sets_runs : (field : FieldKey) (vs : List Value) (credit n : ℕ) (F : Frames) (ls : List Slot) (st : State) →
      (Runs w bs) (λ j. (on w bs) j st (machine.sets w field vs F st)) 0 credit n (λ h. below h F) (λ v ls'. delivered v F)
      (back_to ls (trees.setting w field vs st))
  sets_runs field [] credit n F ls st = (0, refl)
  sets_runs field (value ∷ []) credit n F ls st = (0, refl)
  sets_runs field (own ∷ value ∷ []) credit n F ls st = puts_runs (w.put field own value st.objects) credit n F ls st
  sets_runs field (own ∷ value ∷ other ∷ more) credit n F ls st = (0, refl)

  -- by dispatch, of a value that may be no object
  object_runs : (value : Value) (name : Bytes) (o : Stepped by_name) (e : Ended) (credit n : ℕ) (F : Frames) (ls : List Slot) (st : State) →
      (Runs w bs) (λ j. (on w bs) j st o) 0 credit n (λ h. below h F) (λ v ls'. delivered v F) (back_to ls e) →
      (Runs w bs) (λ j. (on w bs) j st (machine.of_object value name o st)) 0 credit n (λ h. below h F) (λ v ls'. delivered v F)
      (back_to ls (trees.of_object value name e st))
  object_runs (v.Object i) name o e credit n F ls st x = x
  object_runs (v.Int i) name o e credit n F ls st x = (0, refl)
  object_runs (v.Text bytes) name o e credit n F ls st x = (0, refl)
  object_runs (v.Closure i) name o e credit n F ls st x = (0, refl)

  gets_of_runs : (field : FieldKey) (name : Bytes) (vs : List Value) (credit n : ℕ) (F : Frames) (ls : List Slot) (st : State) →
      (Runs w bs) (λ j. (on w bs) j st (machine.gets_of w field name vs F st)) 0 credit n (λ h. below h F) (λ v ls'. delivered v F)
      (back_to ls (trees.getting_of w field name vs st))
  gets_of_runs field name [] credit n F ls st = (0, refl)
  gets_of_runs field name (value ∷ []) credit n F ls st = object_runs value name (machine.gets w field (value ∷ []) F st)
      (trees.getting w field (value ∷ []) st) credit n F ls st (gets_runs field (value ∷ []) credit n F ls st)
  gets_of_runs field name (value ∷ other ∷ more) credit n F ls st = (0, refl)

  sets_of_runs : (field : FieldKey) (name : Bytes) (vs : List Value) (credit n : ℕ) (F : Frames) (ls : List Slot) (st : State) →
      (Runs w bs) (λ j. (on w bs) j st (machine.sets_of w field name vs F st)) 0 credit n (λ h. below h F) (λ v ls'. delivered v F)
      (back_to ls (trees.setting_of w field name vs st))
  sets_of_runs field name [] credit n F ls st = (0, refl)
  sets_of_runs field name (value ∷ []) credit n F ls st = (0, refl)
  sets_of_runs field name (own ∷ value ∷ []) credit n F ls st = object_runs own name (machine.sets w field (own ∷ value ∷ []) F st)
      (trees.setting w field (own ∷ value ∷ []) st) credit n F ls st (sets_runs field (own ∷ value ∷ []) credit n F ls st)
  sets_of_runs field name (own ∷ value ∷ other ∷ more) credit n F ls st = (0, refl)

  pub reach_runs : AllFit bs → AllGiven w → (to : Target by_name) (vs : List Value) (lower : Levels) → (Good w bs) lower →
      (F : Frames) (ls : List Slot) (st : State) → (Runs w bs) (λ j. (on w bs) j st (machine.reaches w (prog w bs) to vs F st)) 0 (suc (length vs))
      (suc (length lower))
      (λ h. below h F) (λ v ls'. delivered v F) (back_to ls (trees.reached w bs lower to vs st))
  reach_runs fit given (ToCode k) vs lower good F ls st = enter_runs (bs k 0) (fit k 0) lower good (length vs) k vs F ls st
  reach_runs fit given (ToPrimitive number) vs lower good F ls st = performs_runs fit (w.deed number vs) vs (given number vs) lower good F ls st
  reach_runs fit given (ToGetter field name) vs lower good F ls st = gets_of_runs field name vs (suc (length vs)) (suc (length lower)) F ls st
  reach_runs fit given (ToSetter field name) vs lower good F ls st = sets_of_runs field name vs (suc (length vs)) (suc (length lower)) F ls st
  reach_runs fit given (ToError e) vs lower good F ls st = (0, refl)
  reach_runs fit given ToNothing vs lower good F ls st = (0, refl)

  delivered_runs : (e : Ended) (run : ℕ → Report) (d credit n : ℕ) (c0 : CodeKey) (k : Instructions) (s : List Value) (ls : List Slot) (r : Role by_name)
      (fs : Frames) → (Runs w bs) run d credit n (λ h. below h (frame c0 k s ls r ∷ fs)) (λ v ls'. delivered v (frame c0 k s ls r ∷ fs)) (back_to ls e) →
      (Runs w bs) run d credit n ((homes w bs) r fs) (λ v ls'. frame c0 k (v ∷ s) ls' r ∷ fs) (back_to ls e)
  delivered_runs (Gives v st) run d credit n c0 k s ls r fs x = x
  delivered_runs (Ends (Back h v) st) run d credit n c0 k s ls r fs x = x
  delivered_runs (Ends (Fails e) st) run d credit n c0 k s ls r fs x = x
  delivered_runs (Ends Out st) run d credit n c0 k s ls r fs x = x
  delivered_runs (Ends Stuck st) run d credit n c0 k s ls r fs x = x

  -- an instruction that takes its operands, and then does what it does
  operands_runs : (does : List Value → Frames → Stepped by_name) (i : Instruction by_name) (vs : List Value) (n : ℕ) (c0 : CodeKey) (k : Instructions)
      (s : List Value) (ls : List Slot) (r : Role by_name) (fs : Frames) (st : State) (o : Ended)
      → ((j : ℕ) → (ex w bs) (suc j) (frame c0 (i ∷ k) (push_all vs s) ls r ∷ fs) st ≡ (on w bs) j st
      (machine.if_popped (popped (length vs) [] (push_all vs s)) (λ values s'. does values (frame c0 k s' ls r ∷ fs))))
      → (Runs w bs) (λ j. (on w bs) j st (does vs (frame c0 k s ls r ∷ fs))) 0 (suc (length vs)) n (λ h. below h (frame c0 k s ls r ∷ fs))
      (λ v ls'. delivered v (frame c0 k s ls r ∷ fs)) (back_to ls o)
      → (Runs w bs) (λ j. (ex w bs) j (frame c0 (i ∷ k) (push_all vs s) ls r ∷ fs) st) 1 (length vs) n ((homes w bs) r fs)
      (λ v ls'. frame c0 k (v ∷ s) ls' r ∷ fs) (back_to ls o)
  operands_runs does i vs n c0 k s ls r fs st o is x =
      (stepped w bs) _ (λ j. (on w bs) j st (does vs (frame c0 k s ls r ∷ fs))) 0 (length vs) n ((homes w bs) r fs) (λ v ls'. frame c0 k (v ∷ s) ls' r ∷ fs)
      (back_to ls o)
      (λ j. is j ∙ ap (λ z. (on w bs) j st (machine.if_popped z (λ values s'. does values (frame c0 k s' ls r ∷ fs)))) (popped_all vs s))
      (delivered_runs o _ 0 (suc (length vs)) n c0 k s ls r fs x)

  answer_ok : AllFit bs → AllGiven w → (lower : Levels) → (Good w bs) lower → (CallOk w bs) (trees.answer w bs lower) (suc (length lower))
  answer_ok fit given lower good (Message sent vs) c0 k s ls r fs st =
      operands_runs (λ values F. machine.reaches w (prog w bs) (w.dispatch st.objects sent values) values F st) (machine.Send sent (length vs)) vs
      (suc (length lower)) c0 k s ls r fs st (trees.reached w bs lower (w.dispatch st.objects sent vs) vs st) (λ j. refl)
      (reach_runs fit given (w.dispatch st.objects sent vs) vs lower good (frame c0 k s ls r ∷ fs) ls st)
  answer_ok fit given lower good (Primitive number vs) c0 k s ls r fs st =
      operands_runs (λ values F. machine.performs w (prog w bs) (w.deed number values) F st) (machine.Perform number (length vs)) vs
      (suc (length lower)) c0 k s ls r fs st (trees.performing w bs lower (w.deed number vs) st) (λ j. refl)
      (performs_runs fit (w.deed number vs) vs (given number vs) lower good (frame c0 k s ls r ∷ fs) ls st)
  answer_ok fit given lower good (Getting field vs) c0 k s ls r fs st =
      operands_runs (λ values F. machine.gets w field values F st) (machine.Get field (length vs)) vs (suc (length lower)) c0 k s ls r fs st
      (trees.getting w field vs st) (λ j. refl)
      (gets_runs field vs (suc (length vs)) (suc (length lower)) (frame c0 k s ls r ∷ fs) ls st)
  answer_ok fit given lower good (Setting field vs) c0 k s ls r fs st =
      operands_runs (λ values F. machine.sets w field values F st) (machine.Set field (length vs)) vs (suc (length lower)) c0 k s ls r fs st
      (trees.setting w field vs st) (λ j. refl)
      (sets_runs field vs (suc (length vs)) (suc (length lower)) (frame c0 k s ls r ∷ fs) ls st)
  answer_ok fit given lower good (Entering code vs) c0 k s ls r fs st =
      operands_runs (λ values F. machine.enters code ((prog w bs) code 0) values F st) (machine.Enter code (length vs)) vs
      (suc (length lower)) c0 k s ls r fs st
      (trees.entered w bs lower code (bs code 0) vs st) (λ j. refl)
      (enter_runs (bs code 0) (fit code 0) lower good (length vs) code vs (frame c0 k s ls r ∷ fs) ls st)
  answer_ok fit given lower good (Failing error vs) c0 k s ls r fs st = (1, refl)

  pub levels_good : AllFit bs → AllGiven w → (g : ℕ) → (Good w bs) (levels w bs g)
  unfolding levels
  levels_good fit given zero = tt
  levels_good fit given (suc g) = (answer_ok fit given (levels w bs g) (levels_good fit given g), levels_good fit given g)
