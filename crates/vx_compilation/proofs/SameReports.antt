-- Machines that are alike give equal reports.
use Rattle.std.proofs.Common.{◌≡◌, ℕ, zero, suc, ◌==◌, Bool, true, false, List, [], ◌∷◌, ◌++◌, length, Option, Some, None, slice_get, refl, ap, ◌∙◌, subst}
use Rattle.std.specs.Prelude.{slice_set}
use Rattle.vx_syntax.specs.Expressions.{Bytes}
use Rattle.vx_model.specs.declared.value.Value.{Value}
use Rattle.vx_model.specs.declared.value.Value.TheVariants as v
use Rattle.vx_model.specs.declared.report.RunError.{RunError}
use Rattle.vx_model.specs.declared.report.Report.TheVariants as reports
use Rattle.vx_model.specs.declared.primitives.Deed.{Deed}
use Rattle.vx_model.specs.declared.primitives.Deed.TheVariants as deeds
use Rattle.vx_compilation.specs.Activations as activations
use Rattle.vx_compilation.specs.Activations.{Symbols, Making, Slot, Unset, Plain, Cell, Closed, State, World, Target, ToCode, ToPrimitive, ToGetter}
use Rattle.vx_compilation.specs.Activations.{ToSetter, ToError, ToNothing, stored, opened, captured}
use Rattle.vx_compilation.specs.Machine as machine
use Rattle.vx_compilation.specs.Machine.{Instruction, Frame, Role, Method, Evaluation, Turn, home_of, Block, Codes, Machine, Stepped, On, Over}
use Rattle.vx_compilation.specs.Machine.{Stops, Finds, Lacks, going, delivered, below, below_at, below_role, unwound, popped, act, taken, step}
use Rattle.vx_compilation.specs.Machine.{comes, run_report}
use Rattle.vx_compilation.specs.Alike as al
use Rattle.vx_compilation.specs.Alike.{Matching, FieldsAlike, TargetAlike, MakingAlike, PutAlike, InstructionAlike, CodeAlike, BlockAlike, BlocksAlike, Alike}

module _ (y z : Symbols) (c : Matching y z) where
  pub record ClosedAlike (a : Closed y) (b : Closed z) : Type 0 where
    pub code : c.Code a.code b.code
    pub block : a.block ≡ b.block
    pub captures : a.captures ≡ b.captures
    pub home : a.home ≡ b.home

  abbrev pub ClosuresAlike : List (Closed y) → List (Closed z) → Type 0
  ClosuresAlike [] [] = Unit {0}
  ClosuresAlike [] (b ∷ bs) = ⊥
  ClosuresAlike (a ∷ as') [] = ⊥
  ClosuresAlike (a ∷ as') (b ∷ bs) = ClosedAlike a b × ClosuresAlike as' bs

  pub record StateAlike (a : State y) (b : State z) : Type 0 where
    pub objects : c.Objects a.objects b.objects
    pub cells : a.cells ≡ b.cells
    pub closures : ClosuresAlike a.closures b.closures
    pub next : a.next ≡ b.next
    pub lines : a.lines ≡ b.lines

  data RoleAlike : Role y → Role z → Type 0 where
    method : {number : ℕ} → RoleAlike (Method number) (Method number)
    evaluation : {home : ℕ} → RoleAlike (Evaluation home) (Evaluation home)
    turn : {a : Closed y} {b : Closed z} → ClosedAlike a b → RoleAlike (Turn a) (Turn b)

  record FrameAlike (a : Frame y) (b : Frame z) : Type 0 where
    code : c.Code a.code b.code
    left : CodeAlike c a.left b.left
    stack : a.stack ≡ b.stack
    locals : a.locals ≡ b.locals
    role : RoleAlike a.role b.role

  abbrev FramesAlike : List (Frame y) → List (Frame z) → Type 0
  FramesAlike [] [] = Unit {0}
  FramesAlike [] (g ∷ gs) = ⊥
  FramesAlike (f ∷ fs) [] = ⊥
  FramesAlike (f ∷ fs) (g ∷ gs) = FrameAlike f g × FramesAlike fs gs

  record MachineAlike (a : Machine y) (b : Machine z) : Type 0 where
    now : FrameAlike a.now b.now
    below : FramesAlike a.below b.below
    state : StateAlike a.state b.state

  data StepAlike : Stepped y → Stepped z → Type 0 where
    on : {a : Machine y} {b : Machine z} → MachineAlike a b → StepAlike (On a) (On b)
    over : {a : State y} {b : State z} → StateAlike a b → StepAlike (Over a) (Over b)
    stops : {error : RunError} {a : State y} {b : State z} → StateAlike a b → StepAlike (Stops error a) (Stops error b)
    finds : StepAlike Finds Finds
    lacks : StepAlike Lacks Lacks

  -- equal values are alike
  stops_same : (one other : RunError) (a : State y) (b : State z) → one ≡ other → StateAlike a b → StepAlike (Stops one a) (Stops other b)
  stops_same one other a b e h = subst (λ x. StepAlike (Stops one a) (Stops x b)) e (stops h)

  going_alike : (fs : List (Frame y)) (gs : List (Frame z)) (st : State y) (st' : State z) → FramesAlike fs gs → StateAlike st st' →
      StepAlike (going fs st) (going gs st')
  going_alike [] [] st st' h hs = over hs
  going_alike [] (g ∷ gs) st st' h hs = absurd h
  going_alike (f ∷ fs) [] st st' h hs = absurd h
  going_alike (f ∷ fs) (g ∷ gs) st st' h hs = on (record { now = h.0; below = h.1; state = hs })

  delivered_alike : (value value' : Value) (fs : List (Frame y)) (gs : List (Frame z)) → value ≡ value' → FramesAlike fs gs →
      FramesAlike (delivered value fs) (delivered value' gs)
  delivered_alike value value' [] [] e h = tt
  delivered_alike value value' [] (g ∷ gs) e h = absurd h
  delivered_alike value value' (f ∷ fs) [] e h = absurd h
  delivered_alike value value' (f ∷ fs) (g ∷ gs) e h = (
    record {
      code = h.0.code;
      left = h.0.left;
      stack = ap (λ x. x ∷ f.stack) e ∙
          ap (λ s. value' ∷ s) h.0.stack;
      locals = h.0.locals;
      role = h.0.role;
    },
    h.1,
  )

  deliver : (value value' : Value) (fs : List (Frame y)) (gs : List (Frame z)) (st : State y) (st' : State z) → value ≡ value' → FramesAlike fs gs →
      StateAlike st st' → StepAlike (going (delivered value fs) st) (going (delivered value' gs) st')
  deliver value value' fs gs st st' e h hs = going_alike _ _ st st' (delivered_alike value value' fs gs e h) hs

  abbrev BelowAlike : Option (List (Frame y)) → Option (List (Frame z)) → Type 0
  BelowAlike None None = Unit {0}
  BelowAlike None (Some b) = ⊥
  BelowAlike (Some a) None = ⊥
  BelowAlike (Some a) (Some b) = FramesAlike a b

  at_alike : (so : Bool) (fs : List (Frame y)) (gs : List (Frame z)) (o : Option (List (Frame y))) (o' : Option (List (Frame z))) → FramesAlike fs gs →
      BelowAlike o o' → BelowAlike (below_at so fs o) (below_at so gs o')
  at_alike true fs gs o o' h k = h
  at_alike false fs gs o o' h k = k

  role_alike : (n : ℕ) (r : Role y) (r' : Role z) → RoleAlike r r' → (fs : List (Frame y)) (gs : List (Frame z)) (o : Option (List (Frame y)))
      (o' : Option (List (Frame z))) → FramesAlike fs gs → BelowAlike o o' → BelowAlike (below_role n r fs o) (below_role n r' gs o')
  role_alike n r r' (method {number = number}) fs gs o o' h k = at_alike (n == number) fs gs o o' h k
  role_alike n r r' evaluation fs gs o o' h k = k
  role_alike n r r' (turn held) fs gs o o' h k = k

  below_alike : (n : ℕ) (fs : List (Frame y)) (gs : List (Frame z)) → FramesAlike fs gs → BelowAlike (below n fs) (below n gs)
  below_alike n [] [] h = tt
  below_alike n [] (g ∷ gs) h = absurd h
  below_alike n (f ∷ fs) [] h = absurd h
  below_alike n (f ∷ fs) (g ∷ gs) h = role_alike n f.role g.role h.0.role fs gs (below n fs) (below n gs) h.1 (below_alike n fs gs h.1)

  home_alike : (r : Role y) (r' : Role z) → RoleAlike r r' → home_of r ≡ home_of r'
  home_alike r r' method = refl
  home_alike r r' evaluation = refl
  home_alike r r' (turn held) = held.home

  closures_length : (as' : List (Closed y)) (bs : List (Closed z)) → ClosuresAlike as' bs → length as' ≡ length bs
  closures_length [] [] h = refl
  closures_length [] (b ∷ bs) h = absurd h
  closures_length (a ∷ as') [] h = absurd h
  closures_length (a ∷ as') (b ∷ bs) h = ap suc (closures_length as' bs h.1)

  closures_push : (as' : List (Closed y)) (bs : List (Closed z)) (a : Closed y) (b : Closed z) → ClosuresAlike as' bs → ClosedAlike a b →
      ClosuresAlike (as' ++ a ∷ []) (bs ++ b ∷ [])
  closures_push [] [] a b h k = (k, tt)
  closures_push [] (x ∷ bs) a b h k = absurd h
  closures_push (x ∷ as') [] a b h k = absurd h
  closures_push (x ∷ as') (x' ∷ bs) a b h k = (h.0, closures_push as' bs a b h.1 k)

  abbrev ClosureAt : Option (Closed y) → Option (Closed z) → Type 0
  ClosureAt None None = Unit {0}
  ClosureAt None (Some b) = ⊥
  ClosureAt (Some a) None = ⊥
  ClosureAt (Some a) (Some b) = ClosedAlike a b

  closure_at : (as' : List (Closed y)) (bs : List (Closed z)) (j : ℕ) → ClosuresAlike as' bs → ClosureAt (slice_get as' j) (slice_get bs j)
  closure_at [] [] j h = tt
  closure_at [] (b ∷ bs) j h = absurd h
  closure_at (a ∷ as') [] j h = absurd h
  closure_at (a ∷ as') (b ∷ bs) zero h = h.0
  closure_at (a ∷ as') (b ∷ bs) (suc j) h = closure_at as' bs j h.1

  counted_alike : (st : State y) (st' : State z) → StateAlike st st' → StateAlike (activations.counted st) (activations.counted st')
  counted_alike st st' h = record { objects = h.objects; cells = h.cells; closures = h.closures; next = ap suc h.next; lines = h.lines }

  with_alike : (objects : y.Objects) (objects' : z.Objects) (st : State y) (st' : State z) → c.Objects objects objects' → StateAlike st st' →
      StateAlike (activations.with_objects st objects) (activations.with_objects st' objects')
  with_alike objects objects' st st' o hs = record { objects = o; cells = hs.cells; closures = hs.closures; next = hs.next; lines = hs.lines }

  line_alike : (line : Bytes) (st : State y) (st' : State z) → StateAlike st st' → StateAlike (activations.with_line st line) (activations.with_line st' line)
  line_alike line st st' hs = record {
    objects = hs.objects;
    cells = hs.cells;
    closures = hs.closures;
    next = hs.next;
    lines =
        ap (λ lines. lines ++ line ∷ []) hs.lines;
  }

  fits : (so so' : Bool) (one : Stepped y) (two : Stepped z) (go : State y → Stepped y) (go' : State z → Stepped z) (st : State y) (st' : State z) →
      so ≡ so' → StepAlike one two → StepAlike (go st) (go' st') → StepAlike (machine.if_fits so one go st) (machine.if_fits so' two go' st')
  fits true true one two go go' st st' q d h = h
  fits false false one two go go' st st' q d h = d
  fits true false one two go go' st st' q d h = absurd (let no : ⊥ = cc in no)
  fits false true one two go go' st st' q d h = absurd (let no : ⊥ = cc in no)

  -- where both take the same
  top : (s s' : List Value) (go : Value → List Value → Stepped y) (go' : Value → List Value → Stepped z) → s ≡ s' →
      ((value : Value) (rest rest' : List Value) → rest ≡ rest' → StepAlike (go value rest) (go' value rest')) →
      StepAlike (machine.if_top s go) (machine.if_top s' go')
  top s s' go go' e k = subst (λ x. StepAlike (machine.if_top s go) (machine.if_top x go')) e (by s)
    where
      by : (one : List Value) → StepAlike (machine.if_top one go) (machine.if_top one go')
      by [] = lacks
      by (value ∷ rest) = k value rest rest refl

  operands : (o o' : Option (List Value × List Value)) (go : List Value → List Value → Stepped y) (go' : List Value → List Value → Stepped z) → o ≡ o' →
      ((vs rest : List Value) → StepAlike (go vs rest) (go' vs rest)) → StepAlike (machine.if_popped o go) (machine.if_popped o' go')
  operands o o' go go' e k = subst (λ x. StepAlike (machine.if_popped o go) (machine.if_popped x go')) e (by o)
    where
      by : (one : Option (List Value × List Value)) → StepAlike (machine.if_popped one go) (machine.if_popped one go')
      by None = lacks
      by (Some two) = k two.0 two.1

  there : {A : Type 0} (o o' : Option A) (go : A → Stepped y) (go' : A → Stepped z) → o ≡ o' → ((x : A) → StepAlike (go x) (go' x)) →
      StepAlike (machine.if_there o go) (machine.if_there o' go')
  there {A} o o' go go' e k = subst (λ x. StepAlike (machine.if_there o go) (machine.if_there x go')) e (by o)
    where
      by : (one : Option A) → StepAlike (machine.if_there one go) (machine.if_there one go')
      by None = lacks
      by (Some x) = k x

  plain : (o o' : Option Slot) (go : Value → Stepped y) (go' : Value → Stepped z) → o ≡ o' → ((value : Value) → StepAlike (go value) (go' value)) →
      StepAlike (machine.if_plain o go) (machine.if_plain o' go')
  plain o o' go go' e k = subst (λ x. StepAlike (machine.if_plain o go) (machine.if_plain x go')) e (by o)
    where
      by : (one : Option Slot) → StepAlike (machine.if_plain one go) (machine.if_plain one go')
      by None = lacks
      by (Some Unset) = lacks
      by (Some (Cell j)) = lacks
      by (Some (Plain value)) = k value

  cell : (o o' : Option Slot) (go : ℕ → Stepped y) (go' : ℕ → Stepped z) → o ≡ o' → ((j : ℕ) → StepAlike (go j) (go' j)) →
      StepAlike (machine.if_cell o go) (machine.if_cell o' go')
  cell o o' go go' e k = subst (λ x. StepAlike (machine.if_cell o go) (machine.if_cell x go')) e (by o)
    where
      by : (one : Option Slot) → StepAlike (machine.if_cell one go) (machine.if_cell one go')
      by None = lacks
      by (Some Unset) = lacks
      by (Some (Plain value)) = lacks
      by (Some (Cell j)) = k j

  module _ (w : World y) (w' : World z) (codes : Codes y) (codes' : Codes z) (alike : Alike c w w' codes codes') where
    enters : (a : y.Code) (b : z.Code) (o : Option (Block y)) (o' : Option (Block z)) (vs : List Value) (fs : List (Frame y)) (gs : List (Frame z))
        (st : State y) (st' : State z) → c.Code a b → BlocksAlike c o o' → FramesAlike fs gs → StateAlike st st' →
        StepAlike (machine.enters a o vs fs st) (machine.enters b o' vs gs st')
    enters a b None None vs fs gs st st' ca k h hs = lacks
    enters a b None (Some own) vs fs gs st st' ca k h hs = absurd k
    enters a b (Some own) None vs fs gs st st' ca k h hs = absurd k
    enters a b (Some own) (Some own') vs fs gs st st' ca k h hs =
        fits (own.formals == length vs) (own'.formals == length vs) _ _ _ _ st st' (ap (λ n. n == length vs) k.formals) lacks
        (on (record {
          now = record {
            code = ca;
            left = k.code;
            stack = refl;
            locals = ap (λ n. opened n [] vs) k.locals;
            role =
                subst (λ n. RoleAlike (Method st.next) (Method n)) hs.next method;
          };
          below = h;
          state = counted_alike st st' hs;
        }))

    begins : (a : Closed y) (b : Closed z) (own : Block y) (own' : Block z) (vs : List Value) (r : Role y) (r' : Role z) (fs : List (Frame y))
        (gs : List (Frame z)) (st : State y) (st' : State z) → ClosedAlike a b → BlockAlike c own own' → RoleAlike r r' → FramesAlike fs gs →
        StateAlike st st' → StepAlike (machine.begins a own vs r fs st) (machine.begins b own' vs r' gs st')
    begins a b own own' vs r r' fs gs st st' ca k ra h hs =
        on (record {
          now = record {
            code = ca.code;
            left = k.code;
            stack = refl;
            locals = ap (λ n. opened n a.captures vs) k.locals ∙
                ap (λ captures. opened own'.locals captures vs) ca.captures;
            role = ra;
          };
          below = h;
          state = hs;
        })

    blocks_at : (a : Closed y) (b : Closed z) → ClosedAlike a b → BlocksAlike c (codes a.code a.block) (codes' b.code b.block)
    blocks_at a b ca = subst (λ n. BlocksAlike c (codes a.code a.block) (codes' b.code n)) ca.block (alike.blocks a.code b.code a.block ca.code)

    evaluates_block : (a : Closed y) (b : Closed z) (o : Option (Block y)) (o' : Option (Block z)) (vs : List Value) (fs : List (Frame y))
        (gs : List (Frame z)) (st : State y) (st' : State z) → ClosedAlike a b → BlocksAlike c o o' → FramesAlike fs gs → StateAlike st st' →
        StepAlike (machine.evaluates_block a o vs fs st) (machine.evaluates_block b o' vs gs st')
    evaluates_block a b None None vs fs gs st st' ca k h hs = lacks
    evaluates_block a b None (Some own) vs fs gs st st' ca k h hs = absurd k
    evaluates_block a b (Some own) None vs fs gs st st' ca k h hs = absurd k
    evaluates_block a b (Some own) (Some own') vs fs gs st st' ca k h hs =
        fits (own.formals == length vs) (own'.formals == length vs) _ _ _ _ st st' (ap (λ n. n == length vs) k.formals) (stops hs)
        (begins a b own own' vs (Evaluation a.home) (Evaluation b.home) fs gs st st' ca k
        (subst (λ n. RoleAlike (Evaluation a.home) (Evaluation n)) ca.home evaluation) h hs)

    evaluates : (o : Option (Closed y)) (o' : Option (Closed z)) (vs : List Value) (fs : List (Frame y)) (gs : List (Frame z)) (st : State y)
        (st' : State z) → ClosureAt o o' → FramesAlike fs gs → StateAlike st st' →
        StepAlike (machine.evaluates codes o vs fs st) (machine.evaluates codes' o' vs gs st')
    evaluates None None vs fs gs st st' k h hs = lacks
    evaluates None (Some b) vs fs gs st st' k h hs = absurd k
    evaluates (Some a) None vs fs gs st st' k h hs = absurd k
    evaluates (Some a) (Some b) vs fs gs st st' k h hs = evaluates_block a b (codes a.code a.block) (codes' b.code b.block) vs fs gs st st' k
        (blocks_at a b k) h hs

    repeats_block : (a : Closed y) (b : Closed z) (o : Option (Block y)) (o' : Option (Block z)) (fs : List (Frame y)) (gs : List (Frame z)) (st : State y)
        (st' : State z) → ClosedAlike a b → BlocksAlike c o o' → FramesAlike fs gs → StateAlike st st' →
        StepAlike (machine.repeats_block a o fs st) (machine.repeats_block b o' gs st')
    repeats_block a b None None fs gs st st' ca k h hs = lacks
    repeats_block a b None (Some own) fs gs st st' ca k h hs = absurd k
    repeats_block a b (Some own) None fs gs st st' ca k h hs = absurd k
    repeats_block a b (Some own) (Some own') fs gs st st' ca k h hs =
        fits (own.formals == 0) (own'.formals == 0) _ _ _ _ st st' (ap (λ n. n == 0) k.formals) (stops hs)
        (begins a b own own' [] (Turn a) (Turn b) fs gs st st' ca k (turn ca) h hs)

    repeats : (o : Option (Closed y)) (o' : Option (Closed z)) (fs : List (Frame y)) (gs : List (Frame z)) (st : State y) (st' : State z) → ClosureAt o o' →
        FramesAlike fs gs → StateAlike st st' → StepAlike (machine.repeats codes o fs st) (machine.repeats codes' o' gs st')
    repeats None None fs gs st st' k h hs = lacks
    repeats None (Some b) fs gs st st' k h hs = absurd k
    repeats (Some a) None fs gs st st' k h hs = absurd k
    repeats (Some a) (Some b) fs gs st st' k h hs = repeats_block a b (codes a.code a.block) (codes' b.code b.block) fs gs st st' k (blocks_at a b k) h hs

    does : (what : Deed) (fs : List (Frame y)) (gs : List (Frame z)) (st : State y) (st' : State z) → FramesAlike fs gs → StateAlike st st' →
        StepAlike (machine.does w codes what fs st) (machine.does w' codes' what gs st')
    does (deeds.Answers value) fs gs st st' h hs = deliver value value fs gs st st' refl h hs
    does (deeds.Prints line) fs gs st st' h hs = deliver w.nil w'.nil fs gs _ _ alike.nil h (line_alike line st st' hs)
    does (deeds.Breaks error) fs gs st st' h hs = stops hs
    does (deeds.Evaluates i vs) fs gs st st' h hs = evaluates (slice_get st.closures i) (slice_get st'.closures i) vs fs gs st st'
        (closure_at st.closures st'.closures i hs.closures) h hs
    does (deeds.Repeats i) fs gs st st' h hs = repeats (slice_get st.closures i) (slice_get st'.closures i) fs gs st st'
        (closure_at st.closures st'.closures i hs.closures) h hs
    does deeds.Lacks fs gs st st' h hs = finds

    performs : (o o' : Option Deed) (fs : List (Frame y)) (gs : List (Frame z)) (st : State y) (st' : State z) → o ≡ o' → FramesAlike fs gs →
        StateAlike st st' → StepAlike (machine.performs w codes o fs st) (machine.performs w' codes' o' gs st')
    performs o o' fs gs st st' e h hs = subst (λ x. StepAlike (machine.performs w codes o fs st) (machine.performs w' codes' x gs st')) e (by o)
      where
        by : (one : Option Deed) → StepAlike (machine.performs w codes one fs st) (machine.performs w' codes' one gs st')
        by None = lacks
        by (Some what) = does what fs gs st st' h hs

    gives : (o o' : Option Value) (fs : List (Frame y)) (gs : List (Frame z)) (st : State y) (st' : State z) → o ≡ o' → FramesAlike fs gs →
        StateAlike st st' → StepAlike (machine.gives o fs st) (machine.gives o' gs st')
    gives o o' fs gs st st' e h hs = subst (λ x. StepAlike (machine.gives o fs st) (machine.gives x gs st')) e (by o)
      where
        by : (one : Option Value) → StepAlike (machine.gives one fs st) (machine.gives one gs st')
        by None = finds
        by (Some value) = deliver value value fs gs st st' refl h hs

    gets : (a : y.Field) (b : z.Field) (vs : List Value) (fs : List (Frame y)) (gs : List (Frame z)) (st : State y) (st' : State z) → c.Field a b →
        FramesAlike fs gs → StateAlike st st' → StepAlike (machine.gets w a vs fs st) (machine.gets w' b vs gs st')
    gets a b [] fs gs st st' ca h hs = lacks
    gets a b (value ∷ []) fs gs st st' ca h hs = gives _ _ fs gs st st' (alike.got a b value st.objects st'.objects ca hs.objects) h hs
    gets a b (value ∷ other ∷ vs) fs gs st st' ca h hs = lacks

    puts : (o : Option y.Objects) (o' : Option z.Objects) (fs : List (Frame y)) (gs : List (Frame z)) (st : State y) (st' : State z) → PutAlike c o o' →
        FramesAlike fs gs → StateAlike st st' → StepAlike (machine.puts w o fs st) (machine.puts w' o' gs st')
    puts None None fs gs st st' k h hs = finds
    puts None (Some b) fs gs st st' k h hs = absurd k
    puts (Some a) None fs gs st st' k h hs = absurd k
    puts (Some a) (Some b) fs gs st st' k h hs = deliver w.nil w'.nil fs gs (activations.with_objects st a) (activations.with_objects st' b) alike.nil h
        (with_alike a b st st' k hs)

    sets : (a : y.Field) (b : z.Field) (vs : List Value) (fs : List (Frame y)) (gs : List (Frame z)) (st : State y) (st' : State z) → c.Field a b →
        FramesAlike fs gs → StateAlike st st' → StepAlike (machine.sets w a vs fs st) (machine.sets w' b vs gs st')
    sets a b [] fs gs st st' ca h hs = lacks
    sets a b (own ∷ []) fs gs st st' ca h hs = lacks
    sets a b (own ∷ value ∷ []) fs gs st st' ca h hs = puts _ _ fs gs st st' (alike.put a b own value st.objects st'.objects ca hs.objects) h hs
    sets a b (own ∷ value ∷ other ∷ vs) fs gs st st' ca h hs = lacks

    of_object : (value : Value) (name : Bytes) (o : Stepped y) (o' : Stepped z) (st : State y) (st' : State z) → StateAlike st st' → StepAlike o o' →
        StepAlike (machine.of_object value name o st) (machine.of_object value name o' st')
    of_object (v.Object i) name o o' st st' hs k = k
    of_object (v.Int i) name o o' st st' hs k = stops hs
    of_object (v.Text bytes) name o o' st st' hs k = stops hs
    of_object (v.Closure i) name o o' st st' hs k = stops hs

    gets_of : (a : y.Field) (b : z.Field) (name : Bytes) (vs : List Value) (fs : List (Frame y)) (gs : List (Frame z)) (st : State y) (st' : State z) →
        c.Field a b → FramesAlike fs gs → StateAlike st st' → StepAlike (machine.gets_of w a name vs fs st) (machine.gets_of w' b name vs gs st')
    gets_of a b name [] fs gs st st' ca h hs = lacks
    gets_of a b name (value ∷ []) fs gs st st' ca h hs = of_object value name _ _ st st' hs (gets a b (value ∷ []) fs gs st st' ca h hs)
    gets_of a b name (value ∷ other ∷ vs) fs gs st st' ca h hs = lacks

    sets_of : (a : y.Field) (b : z.Field) (name : Bytes) (vs : List Value) (fs : List (Frame y)) (gs : List (Frame z)) (st : State y) (st' : State z) →
        c.Field a b → FramesAlike fs gs → StateAlike st st' → StepAlike (machine.sets_of w a name vs fs st) (machine.sets_of w' b name vs gs st')
    sets_of a b name [] fs gs st st' ca h hs = lacks
    sets_of a b name (own ∷ []) fs gs st st' ca h hs = lacks
    sets_of a b name (own ∷ value ∷ []) fs gs st st' ca h hs = of_object own name _ _ st st' hs (sets a b (own ∷ value ∷ []) fs gs st st' ca h hs)
    sets_of a b name (own ∷ value ∷ other ∷ vs) fs gs st st' ca h hs = lacks

    reaches : (to : Target y) (to' : Target z) (vs : List Value) (fs : List (Frame y)) (gs : List (Frame z)) (st : State y) (st' : State z) →
        TargetAlike c to to' → FramesAlike fs gs → StateAlike st st' → StepAlike (machine.reaches w codes to vs fs st)
        (machine.reaches w' codes' to' vs gs st')
    reaches to to' vs fs gs st st' (al.code {a = a} {b = b} ca) h hs = enters a b (codes a 0) (codes' b 0) vs fs gs st st' ca (alike.blocks a b 0 ca) h hs
    reaches to to' vs fs gs st st' (al.primitive {number = number}) h hs =
        performs (w.deed number vs) (w'.deed number vs) fs gs st st' (alike.deed number vs) h hs
    reaches to to' vs fs gs st st' (al.getter {a = a} {b = b} {name = name} ca) h hs = gets_of a b name vs fs gs st st' ca h hs
    reaches to to' vs fs gs st st' (al.setter {a = a} {b = b} {name = name} ca) h hs = sets_of a b name vs fs gs st st' ca h hs
    reaches to to' vs fs gs st st' (al.error {error = error}) h hs = stops hs
    reaches to to' vs fs gs st st' al.nothing h hs = lacks

    turns : (a : Closed y) (b : Closed z) (o : Option (Block y)) (o' : Option (Block z)) (fs : List (Frame y)) (gs : List (Frame z)) (st : State y)
        (st' : State z) → ClosedAlike a b → BlocksAlike c o o' → FramesAlike fs gs → StateAlike st st' →
        StepAlike (machine.turns a o fs st) (machine.turns b o' gs st')
    turns a b None None fs gs st st' ca k h hs = lacks
    turns a b None (Some own) fs gs st st' ca k h hs = absurd k
    turns a b (Some own) None fs gs st st' ca k h hs = absurd k
    turns a b (Some own) (Some own') fs gs st st' ca k h hs = begins a b own own' [] (Turn a) (Turn b) fs gs st st' ca k (turn ca) h hs

    leaves : (value : Value) (r : Role y) (r' : Role z) (fs : List (Frame y)) (gs : List (Frame z)) (st : State y) (st' : State z) → RoleAlike r r' →
        FramesAlike fs gs → StateAlike st st' → StepAlike (machine.leaves codes value r fs st) (machine.leaves codes' value r' gs st')
    leaves value r r' fs gs st st' method h hs = deliver value value fs gs st st' refl h hs
    leaves value r r' fs gs st st' evaluation h hs = deliver value value fs gs st st' refl h hs
    leaves value r r' fs gs st st' (turn {a = a} {b = b} ca) h hs = turns a b (codes a.code a.block) (codes' b.code b.block) fs gs st st' ca
        (blocks_at a b ca) h hs

    homes : (value : Value) (o : Option (List (Frame y))) (o' : Option (List (Frame z))) (st : State y) (st' : State z) → BelowAlike o o' →
        StateAlike st st' → StepAlike (unwound value o st) (unwound value o' st')
    homes value None None st st' k hs = stops hs
    homes value None (Some b) st st' k hs = absurd k
    homes value (Some a) None st st' k hs = absurd k
    homes value (Some a) (Some b) st st' k hs = deliver value value a b st st' refl k hs

    makes : (o : Making y) (o' : Making z) (fs : List (Frame y)) (gs : List (Frame z)) (st : State y) (st' : State z) → MakingAlike c o o' →
        FramesAlike fs gs → StateAlike st st' → StepAlike (machine.makes o fs st) (machine.makes o' gs st')
    makes o o' fs gs st st' (al.makes {value = value} {a = a} {b = b} k) h hs =
        deliver value value fs gs (activations.with_objects st a) (activations.with_objects st' b) refl h (with_alike a b st st' k hs)
    makes o o' fs gs st st' al.no_slot h hs = finds
    makes o o' fs gs st st' al.no_class h hs = lacks

    closes : (own : Option (Block y)) (own' : Option (Block z)) (n : ℕ) (o o' : Option (List Slot)) (a : Machine y) (b : Machine z) → o ≡ o' →
        BlocksAlike c own own' → MachineAlike a b → StepAlike (machine.closes own n o a) (machine.closes own' n o' b)
    closes own own' n o o' a b e bl h = subst (λ x. StepAlike (machine.closes own n o a) (machine.closes own' n x b)) e (by own own' o bl)
      where
        by : (one : Option (Block y)) (two : Option (Block z)) (slots : Option (List Slot)) → BlocksAlike c one two →
            StepAlike (machine.closes one n slots a) (machine.closes two n slots b)
        by None None slots k = lacks
        by None (Some two) slots k = absurd k
        by (Some one) None slots k = absurd k
        by (Some one) (Some two) None k = lacks
        by (Some one) (Some two) (Some cs) k =
            fits (one.captures == length cs) (two.captures == length cs) _ _ _ _ a.state b.state (ap (λ x. x == length cs) k.captures) lacks
            (on (record {
              now = record {
                code = h.now.code;
                left = h.now.left;
                stack =
                    ap (λ x. v.Closure x ∷ a.now.stack) (closures_length a.state.closures b.state.closures h.state.closures) ∙
                    ap (λ s. v.Closure (length b.state.closures) ∷ s) h.now.stack;
                locals = h.now.locals;
                role = h.now.role;
              };
              below = h.below;
              state = record {
                objects = h.state.objects;
                cells = h.state.cells;
                closures =
                    closures_push a.state.closures b.state.closures _ _ h.state.closures
                    (record { code = h.now.code; block = refl; captures = refl; home = home_alike a.now.role b.now.role h.now.role });
                next =
                    h.state.next;
                lines = h.state.lines;
              };
            }))

    -- instructions that are alike, in machines that are alike
    acts : (i : Instruction y) (i' : Instruction z) (a : Machine y) (b : Machine z) → InstructionAlike c i i' → MachineAlike a b →
        StepAlike (act w codes i a) (act w' codes' i' b)
    acts i i' a b is h = by is
      where
        -- the activation with another stack, and other locals, and another state
        go : (s s' : List Value) (ls ls' : List Slot) (st : State y) (st' : State z) → s ≡ s' → ls ≡ ls' → StateAlike st st' →
            StepAlike (On (record { now = record a.now { stack = s; locals = ls }; below = a.below; state = st }))
            (On (record { now = record b.now { stack = s'; locals = ls' }; below = b.below; state = st' }))
        go s s' ls ls' st st' e d hs = on (record {
          now = record { code = h.now.code; left = h.now.left; stack = e; locals = d; role = h.now.role };
          below =
              h.below;
          state = hs;
        })

        push : (value value' : Value) → value ≡ value' → StepAlike (machine.pushed value a) (machine.pushed value' b)
        push value value' e = go (value ∷ a.now.stack) (value' ∷ b.now.stack) a.now.locals b.now.locals a.state b.state
            (ap (λ x. x ∷ a.now.stack) e ∙ ap (λ s. value' ∷ s) h.now.stack) h.now.locals h.state

        at : (x : ℕ) → slice_get a.now.locals x ≡ slice_get b.now.locals x
        at x = ap (λ ls. slice_get ls x) h.now.locals

        waits : (s : List Value) → FramesAlike (machine.waiting a s) (machine.waiting b s)
        waits s = (record { code = h.now.code; left = h.now.left; stack = refl; locals = h.now.locals; role = h.now.role }, h.below)

        taking : (count : ℕ) (go1 : List Value → List (Frame y) → Stepped y) (go2 : List Value → List (Frame z) → Stepped z) →
            ((vs s : List Value) → StepAlike (go1 vs (machine.waiting a s)) (go2 vs (machine.waiting b s))) →
            StepAlike (machine.taking count a go1) (machine.taking count b go2)
        taking count go1 go2 k = operands (popped count [] a.now.stack) (popped count [] b.now.stack) _ _ (ap (popped count []) h.now.stack) k

        by : {j : Instruction y} {j' : Instruction z} → InstructionAlike c j j' → StepAlike (act w codes j a) (act w' codes' j' b)
        by al.push_int = push _ _ refl
        by al.push_text = push _ _ refl
        by (al.push_object {a = x} {b = x'} e) = push _ _ (alike.named x x' e)
        by (al.load {x = x}) = plain _ _ _ _ (at x) (λ value. push value value refl)
        by (al.store {x = x}) = top _ _ _ _ h.now.stack (λ value s s' e. there _ _ _ _ (ap (stored x (Plain value)) h.now.locals)
            (λ slots. go s s' slots slots a.state b.state e refl h.state))
        by (al.new_cell {x = x}) =
            top _ _ _ _ h.now.stack (λ value s s' e. there _ _ _ _ (ap (λ cells. stored x (Cell (length cells)) a.now.locals) h.state.cells ∙
            ap (stored x (Cell (length b.state.cells))) h.now.locals) (λ slots.
            go s s' slots slots _ _ e refl (record {
              objects = h.state.objects;
              cells = ap (λ cells. cells ++ value ∷ []) h.state.cells;
              closures =
                  h.state.closures;
              next = h.state.next;
              lines = h.state.lines;
            })))
        by (al.get_cell {x = x}) = cell _ _ _ _ (at x) (λ j. there _ _ _ _ (ap (λ cells. slice_get cells j) h.state.cells) (λ value. push value value refl))
        by (al.set_cell {x = x}) =
            top _ _ _ _ h.now.stack (λ value s s' e. cell _ _ _ _ (at x) (λ j.
            go s s' a.now.locals b.now.locals _ _ e h.now.locals (record {
              objects = h.state.objects;
              cells =
                  ap (λ cells. slice_set cells j value) h.state.cells;
              closures = h.state.closures;
              next = h.state.next;
              lines = h.state.lines;
            })))
        by (al.close {block = block} {xs = xs}) = closes _ _ block _ _ a b (ap (captured xs) h.now.locals)
            (alike.blocks a.now.code b.now.code block h.now.code) h
        by (al.send {a = x} {b = x'} {count = count} e) = taking count (λ vs frames. machine.reaches w codes
            (w.dispatch a.state.objects x vs) vs frames a.state) (λ vs frames. machine.reaches w' codes'
            (w'.dispatch b.state.objects x' vs) vs frames b.state) (λ vs s. reaches (w.dispatch a.state.objects x vs) (w'.dispatch b.state.objects x' vs) vs
            (machine.waiting a s) (machine.waiting b s) a.state b.state (alike.dispatch a.state.objects b.state.objects x x' vs h.state.objects e)
            (waits s) h.state)
        by (al.enter {a = x} {b = x'} {count = count} e) = taking count (λ vs frames. machine.enters x (codes x 0) vs frames a.state)
            (λ vs frames. machine.enters x' (codes' x' 0) vs frames b.state)
            (λ vs s. enters x x' (codes x 0) (codes' x' 0) vs (machine.waiting a s) (machine.waiting b s) a.state b.state e (alike.blocks x x' 0 e)
            (waits s) h.state)
        by (al.perform {number = number} {count = count}) = taking count (λ vs frames. machine.performs w codes (w.deed number vs) frames a.state)
            (λ vs frames. machine.performs w' codes' (w'.deed number vs) frames b.state)
            (λ vs s. performs (w.deed number vs) (w'.deed number vs) (machine.waiting a s) (machine.waiting b s) a.state b.state (alike.deed number vs)
            (waits s) h.state)
        by (al.get {a = x} {b = x'} {count = count} e) = taking count (λ vs frames. machine.gets w x vs frames a.state)
            (λ vs frames. machine.gets w' x' vs frames b.state) (λ vs s. gets x x' vs (machine.waiting a s) (machine.waiting b s) a.state b.state e
            (waits s) h.state)
        by (al.set {a = x} {b = x'} {count = count} e) = taking count (λ vs frames. machine.sets w x vs frames a.state)
            (λ vs frames. machine.sets w' x' vs frames b.state) (λ vs s. sets x x' vs (machine.waiting a s) (machine.waiting b s) a.state b.state e
            (waits s) h.state)
        by (al.make {a = x} {b = x'} {as' = xs} {bs = xs'} {count = count} e d) =
            taking count (λ vs frames. machine.makes (w.made x xs vs a.state.objects) frames a.state)
            (λ vs frames. machine.makes (w'.made x' xs' vs b.state.objects) frames b.state)
            (λ vs s. makes (w.made x xs vs a.state.objects) (w'.made x' xs' vs b.state.objects) (machine.waiting a s) (machine.waiting b s) a.state b.state
            (alike.made x x' xs xs' vs a.state.objects b.state.objects e d h.state.objects) (waits s) h.state)
        by al.pop = top _ _ _ _ h.now.stack (λ value s s' e. go s s' a.now.locals b.now.locals a.state b.state e h.now.locals h.state)
        by al.leave = top _ _ _ _ h.now.stack (λ value s s' e. leaves value a.now.role b.now.role a.below b.below a.state b.state h.now.role h.below h.state)
        by al.leave_home =
            top _ _ _ _ h.now.stack (λ value s s' e. homes value (below (home_of a.now.role) (a.now ∷ a.below))
            (below (home_of b.now.role) (b.now ∷ b.below)) a.state b.state
            (subst (λ n. BelowAlike (below (home_of a.now.role) (a.now ∷ a.below)) (below n (b.now ∷ b.below)))
            (home_alike a.now.role b.now.role h.now.role) (below_alike (home_of a.now.role) (a.now ∷ a.below) (b.now ∷ b.below)
            (h.now, h.below))) h.state)
        by al.mark = on (record { now = h.now; below = h.below; state = counted_alike a.state b.state h.state })
        by (al.fail {error = error}) = stops h.state

    takes : (k : List (Instruction y)) (k' : List (Instruction z)) (a : Machine y) (b : Machine z) → CodeAlike c k k' → MachineAlike a b →
        StepAlike (taken w codes k a) (taken w' codes' k' b)
    takes [] [] a b k h = lacks
    takes [] (i ∷ l) a b k h = absurd k
    takes (i ∷ l) [] a b k h = absurd k
    takes (i ∷ l) (i' ∷ l') a b k h =
        acts i i' _ _ k.0 (record {
          now = record { code = h.now.code; left = k.1; stack = h.now.stack; locals = h.now.locals; role = h.now.role };
          below =
              h.below;
          state = h.state;
        })

    steps : (a : Machine y) (b : Machine z) → MachineAlike a b → StepAlike (step w codes a) (step w' codes' b)
    steps a b h = takes a.now.left b.now.left a b h.now.left h

    comes_alike : (n : ℕ) (st : State y) (st' : State z) (o : Stepped y) (o' : Stepped z) → st.lines ≡ st'.lines → StepAlike o o' →
        comes w codes n st o ≡ comes w' codes' n st' o'
    comes_alike zero st st' o o' e (on h) = ap reports.Unfinished e
    comes_alike zero st st' o o' e (over h) = ap reports.Unfinished e
    comes_alike zero st st' o o' e (stops h) = ap reports.Unfinished e
    comes_alike zero st st' o o' e finds = ap reports.Unfinished e
    comes_alike zero st st' o o' e lacks = ap reports.Stuck e
    comes_alike (suc n) st st' o o' e (on {a = a} {b = b} h) = comes_alike n a.state b.state _ _ h.state.lines (steps a b h)
    comes_alike (suc n) st st' o o' e (over h) = ap reports.End h.lines
    comes_alike (suc n) st st' o o' e (stops {error = error} h) = ap (λ lines. reports.Error lines error) h.lines
    comes_alike (suc n) st st' o o' e finds = ap reports.Stuck e
    comes_alike (suc n) st st' o o' e lacks = ap reports.Stuck e

    -- Machines that are alike give equal reports.
    pub same_report : (begun : State y) (begun' : State z) (main : Target y) (main' : Target z) → StateAlike begun begun' → TargetAlike c main main' →
        (n : ℕ) → run_report w codes begun main n ≡ run_report w' codes' begun' main' n
    same_report begun begun' main main' hs e n = comes_alike n begun begun' _ _ hs.lines (reaches main main' [] [] [] begun begun' e tt hs)
