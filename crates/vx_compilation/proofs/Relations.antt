-- The meaning of a text beside that of its tree: states, closures, and how evaluations end in both.
use Rattle.std.proofs.Common.{◌≡◌, ℕ, suc, ◌+◌, ◌<◌, ◌≤◌, ◌==◌, Bool, true, false, List, [], ◌∷◌, ◌++◌, length, Some, slice_get, refl, sym, ap, ◌∙◌}
use Rattle.std.proofs.Common.{subst, arith, length-append}
use Rattle.std.proofs.lemmas.Bool.Decides.{nat_tests}
use Rattle.vx_lists.specs.Members.{IsIn}
use Rattle.vx_names.specs.declared.key.MethodKey.{MethodKey}
use Rattle.vx_syntax.specs.declared.decl.Decl.{Decl}
use Rattle.vx_syntax.specs.declared.expr.Stmt as t
use Rattle.vx_syntax.specs.Expressions.{Bytes}
use Rattle.vx_model.specs.declared.value.Value.{Value}
use Rattle.vx_model.specs.declared.value.Held.{Held}
use Rattle.vx_model.specs.declared.value.Heap.{Heap}
use Rattle.vx_node.specs.declared.node.Info.{Info}
use Rattle.vx_node.specs.declared.node.Info.TheVariants as i
use Rattle.vx_compilation.specs.declared.tree.TreeBlock.{TreeBlock}
use Rattle.vx_node.specs.declared.kind.Kind.{Kind}
use Rattle.vx_node.specs.declared.kind.Kind.TheVariants as kinds
use Rattle.vx_node.specs.declared.node.Variant.{Variant}
use Rattle.vx_model.specs.declared.look.Look.{Look}
use Rattle.vx_model.specs.declared.look.Look.TheVariants as look
use Rattle.vx_model.specs.declared.report.RunError.TheVariants as e
use Rattle.vx_model.specs.Lookup.{lookup}
use Rattle.vx_model.specs.Order.{plain_names}
use Rattle.vx_model.specs.Meaning as mean
use Rattle.vx_model.specs.Meaning.{Stop, Back, Fails, Out, Stuck}
use Rattle.vx_compilation.specs.Activations.{Slot}
use Rattle.vx_compilation.specs.TreeMeaning as trees
use Rattle.vx_compilation.specs.TreeMeaning.{CodeKey, Ended, Done, Goes, Stops, Mode, Stays, Leaves, mode_of, Place, Message, Sent}
use Rattle.vx_compilation.specs.Questions.{Asked}
use Rattle.vx_compilation.specs.Resolved.{Names, Statements, Inner, inner_at, statements, closed_scope, unknown, needs_of, primitive_info, argument_infos}
use Rattle.vx_model.specs.Kinds.{kind}
use Rattle.vx_compilation.specs.BindingIsSound.{SuitsKind}
use Rattle.vx_compilation.specs.Compiled.{asked, blocks, world, selector_of, below_of}
use Rattle.vx_model.proofs.Sound.{IsLater, classes, IsSound, AreSound, IsHeap}
use Rattle.vx_model.proofs.Bodies.{IsFine}
use Rattle.vx_compilation.proofs.Slots.{Agree, agree_self, agree_on}
use Rattle.vx_compilation.proofs.Covers.{Suits, AllSuit, Covers, covers_on, taken}

-- ---- homes that are avoided

abbrev pub NotIn : ℕ → List ℕ → Type 0
NotIn h [] = Unit {0}
NotIn h (a ∷ av) = (h ≡ a → ⊥) × NotIn h av

abbrev pub AllBelow : List ℕ → ℕ → Type 0
AllBelow [] n = Unit {0}
AllBelow (a ∷ av) n = (a < n) × AllBelow av n

pub below_grow : (av : List ℕ) (n m : ℕ) → n ≤ m → AllBelow av n → AllBelow av m
below_grow [] n m le h = tt
below_grow (a ∷ av) n m le h = (omega (arith, le, h.0), below_grow av n m le h.1)

pub not_in_next : (av : List ℕ) (n : ℕ) → AllBelow av n → NotIn n av
not_in_next [] n h = tt
not_in_next (a ∷ av) n h = ((λ e. omega (arith, e, h.0)), not_in_next av n h.1)

abbrev pub Homes : List Held → ℕ → List ℕ → Type 0
Homes [] n av = Unit {0}
Homes (c ∷ cs) n av = (c.home < n) × NotIn c.home av × Homes cs n av

pub homes_grow : (cs : List Held) (n m : ℕ) (av : List ℕ) → n ≤ m → Homes cs n av → Homes cs m av
homes_grow [] n m av le h = tt
homes_grow (c ∷ cs) n m av le h = (omega (arith, le, h.0), h.1, homes_grow cs n m av le h.2)

pub homes_push : (cs : List Held) (c : Held) (n : ℕ) (av : List ℕ) → Homes cs n av → c.home < n → NotIn c.home av → Homes (cs ++ c ∷ []) n av
homes_push [] c n av h lt out = (lt, out, tt)
homes_push (a ∷ cs) c n av h lt out = (h.0, h.1, homes_push cs c n av h.2 lt out)

pub homes_more : (cs : List Held) (n : ℕ) (av : List ℕ) → Homes cs n av → Homes cs (suc n) (n ∷ av)
homes_more [] n av h = tt
homes_more (c ∷ cs) n av h = (omega (arith, h.0), ((λ e. omega (arith, e, h.0)), h.1), homes_more cs n av h.2)

homes_less : (cs : List Held) (n a : ℕ) (av : List ℕ) → Homes cs n (a ∷ av) → Homes cs n av
homes_less [] n a av h = tt
homes_less (c ∷ cs) n a av h = (h.0, h.1.1, homes_less cs n a av h.2)

abbrev pub HaltOk : List ℕ → Stop → Type 0
HaltOk av (Back k v) = NotIn k av
HaltOk av (Fails e) = Unit {0}
HaltOk av Out = Unit {0}
HaltOk av Stuck = Unit {0}

-- each thing is of a plain object
pub record AllPlain (program : List Decl) (heap : Heap) : Type 0 where
  pub at : (j : ℕ) (c : Bytes) → slice_get (classes heap) j ≡ Some c → IsIn c (plain_names program)

abbrev pub frame_of : Held → mean.Frame
frame_of c = record { method = c.method; arguments = c.arguments; home = c.home; scope = c.scope }

-- the tree's state beside the text's
abbrev pub beside : mean.State → List trees.Closure → trees.State
beside st hs = record { objects = st.heap.objects; cells = st.heap.cells; closures = hs; next = st.next; lines = st.lines }

abbrev pub IsStays : Mode → Type 0
IsStays Stays = Unit {0}
IsStays Leaves = ⊥

abbrev pub message_of : Sent → List Value → mean.Message
message_of sent values = record { selector = selector_of sent; arguments = values; below = below_of sent }

-- a method that is known to be found is called by what makes it
abbrev pub direct : Kind → MethodKey → Variant → List Value → trees.Call
direct kinds.Source key variant values = trees.Entering (record { method = key; variant = variant }) values
direct (kinds.Prim number) key variant values = trees.Primitive number values
direct (kinds.Get field) key variant values = trees.Getting field values
direct (kinds.Set field) key variant values = trees.Setting field values

-- what is known of what it gives
abbrev pub kind_info : Kind → Info
kind_info kinds.Source = i.Any
kind_info (kinds.Prim number) = primitive_info number
kind_info (kinds.Get field) = i.Any
kind_info (kinds.Set field) = i.Any

module _ (program : List Decl) where
  abbrev pub q : Asked
  q = asked program

  abbrev pub w : trees.World
  w = world program

  abbrev pub bs : trees.Blocks
  bs = blocks program

  abbrev pub top : Inner
  top = inner_at q 2

  -- ---- blocks in their places

  abbrev pub Placed : CodeKey → ℕ → List TreeBlock → Type 0
  Placed code b [] = Unit {0}
  Placed code b (own ∷ rest) = (bs code b ≡ Some own) × Placed code (suc b) rest

  pub placed_front : (code : CodeKey) (b : ℕ) (xs ys : List TreeBlock) → Placed code b (xs ++ ys) → Placed code b xs
  placed_front code b [] ys h = tt
  placed_front code b (own ∷ xs) ys h = (h.0, placed_front code (suc b) xs ys h.1)

  pub placed_behind : (code : CodeKey) (b n : ℕ) (xs ys : List TreeBlock) → n ≡ b + length xs → Placed code b (xs ++ ys) → Placed code n ys
  placed_behind code b n [] ys e h = let same : b ≡ n = omega (arith, e) in subst (λ j. Placed code j ys) same h
  placed_behind code b n (own ∷ xs) ys e h = placed_behind code (suc b) n xs ys (omega (arith, e)) h.1

  pub placed_from : (code : CodeKey) (ts pre : List TreeBlock) → ((j : ℕ) → bs code (length pre + j) ≡ slice_get ts j) → Placed code (length pre) ts
  placed_from code [] pre f = tt
  placed_from code (own ∷ ts) pre f =
      let zero_on : length pre + 0 ≡ length pre = omega arith in
      let n : length (pre ++ own ∷ []) ≡ suc (length pre) = omega (arith, length-append pre (own ∷ [])) in (
        sym (ap (bs code) zero_on) ∙ f 0,
        subst (λ z. Placed code z ts) n
            (placed_from code ts (pre ++ own ∷ []) (λ j. let e : length (pre ++ own ∷ []) + j ≡ length pre + suc j =
            omega (arith, length-append pre (own ∷ [])) in ap (bs code) e ∙ f (suc j))),
      )

  -- ---- closures

  -- the statements of a closure, and its block
  abbrev pub inside : MethodKey → List ℕ → Names → ℕ → List Bytes → List t.Stmt → Statements
  inside method xs outer b formals body = statements q method top (closed_scope xs formals outer) (suc b) (length xs + length formals) body

  abbrev pub closure_block : List ℕ → List Bytes → Statements → TreeBlock
  closure_block xs formals all = record { locals = all.next; captures = length xs; formals = unknown formals; acts = all.acts }

  -- a closure of the text and one of the tree
  pub record HeldRel (heap : Heap) (c : Held) (h : trees.Closure) : Type 0 where
    pub outer : Names
    pub xs : List ℕ
    pub mode : mode_of h.block ≡ Leaves
    pub block : bs h.code h.block ≡ Some (closure_block xs c.formals (inside h.code.method xs outer h.block c.formals c.body.0))
    pub nested : Placed h.code (suc h.block) (inside h.code.method xs outer h.block c.formals c.body.0).blocks
    pub long : length h.captures ≡ length xs
    pub covers : Covers program heap (length xs) (needs_of q c.body.0) (taken program xs outer) (frame_of c) h.captures
    pub home : c.home ≡ h.home
    pub method : c.method ≡ h.code.method

  pub held_later : {old new : Heap} → IsLater old new → (c : Held) (h : trees.Closure) → HeldRel old c h → HeldRel new c h
  held_later later c h r = record {
    outer = r.outer;
    xs = r.xs;
    mode = r.mode;
    block = r.block;
    nested = r.nested;
    long = r.long;
    covers = covers_on program later (length r.xs) (length r.xs) (omega arith) (needs_of q c.body.0) (taken program r.xs r.outer)
        (frame_of c) h.captures h.captures (agree_self (length r.xs) h.captures) r.covers;
    home = r.home;
    method = r.method;
  }

  abbrev pub HeldAll : Heap → List Held → List trees.Closure → Type 0
  HeldAll heap [] [] = Unit {0}
  HeldAll heap [] (h ∷ hs) = ⊥
  HeldAll heap (c ∷ cs) [] = ⊥
  HeldAll heap (c ∷ cs) (h ∷ hs) = HeldRel heap c h × HeldAll heap cs hs

  pub all_later : {old new : Heap} → IsLater old new → (cs : List Held) (hs : List trees.Closure) → HeldAll old cs hs → HeldAll new cs hs
  all_later later [] [] h = tt
  all_later later [] (b ∷ hs) h = h
  all_later later (c ∷ cs) [] h = h
  all_later later (c ∷ cs) (b ∷ hs) h = (held_later later c b h.0, all_later later cs hs h.1)

  pub held_length : (heap : Heap) (cs : List Held) (hs : List trees.Closure) → HeldAll heap cs hs → length hs ≡ length cs
  held_length heap [] [] h = refl
  held_length heap [] (b ∷ hs) h = absurd h
  held_length heap (c ∷ cs) [] h = absurd h
  held_length heap (c ∷ cs) (b ∷ hs) h = ap suc (held_length heap cs hs h.1)

  pub held_push : (heap : Heap) (cs : List Held) (hs : List trees.Closure) (c : Held) (h : trees.Closure) → HeldAll heap cs hs → HeldRel heap c h →
      HeldAll heap (cs ++ c ∷ []) (hs ++ h ∷ [])
  held_push heap [] [] c h r one = (one, tt)
  held_push heap [] (b ∷ hs) c h r one = absurd r
  held_push heap (a ∷ cs) [] c h r one = absurd r
  held_push heap (a ∷ cs) (b ∷ hs) c h r one = (r.0, held_push heap cs hs c h r.1 one)

  -- ---- states

  -- Closures correspond; none leads to a home that is avoided, and numbers from the floor on are free; things are of plain objects.
  pub record Rel (av : List ℕ) (floor : ℕ) (st : mean.State) (hs : List trees.Closure) : Type 0 where
    pub all : HeldAll st.heap st.heap.closures hs
    pub homes : Homes st.heap.closures st.next av
    pub low : AllBelow av st.next
    pub from : floor ≤ st.next
    pub plain : AllPlain program st.heap

  pub rel_floor : (av : List ℕ) (f g : ℕ) (st : mean.State) (hs : List trees.Closure) → f ≤ g → Rel av g st hs → Rel av f st hs
  rel_floor av f g st hs le h = record { all = h.all; homes = h.homes; low = h.low; from = omega (arith, le, h.from); plain = h.plain }

  pub rel_less : (av : List ℕ) (a f g : ℕ) (st : mean.State) (hs : List trees.Closure) → f ≤ g → Rel (a ∷ av) g st hs → Rel av f st hs
  rel_less av a f g st hs le h = record {
    all = h.all;
    homes = homes_less st.heap.closures st.next a av h.homes;
    low = h.low.1;
    from =
        omega (arith, le, h.from);
    plain = h.plain;
  }

  pub rel_bump : (av : List ℕ) (floor : ℕ) (st : mean.State) (hs : List trees.Closure) → Rel av floor st hs →
      Rel (st.next ∷ av) (suc st.next) (record st { next = suc st.next }) hs
  rel_bump av floor st hs h = record {
    all = h.all;
    homes = homes_more st.heap.closures st.next av h.homes;
    low =
        (omega arith, below_grow av st.next (suc st.next) (omega arith) h.low);
    from = omega arith;
    plain = h.plain;
  }

  pub rel_next : (av : List ℕ) (floor : ℕ) (st : mean.State) (hs : List trees.Closure) → Rel av floor st hs →
      Rel av (suc st.next) (record st { next = suc st.next }) hs
  rel_next av floor st hs h = record {
    all = h.all;
    homes = homes_grow st.heap.closures st.next (suc st.next) av (omega arith) h.homes;
    low =
        below_grow av st.next (suc st.next) (omega arith) h.low;
    from = omega arith;
    plain = h.plain;
  }

  -- another heap with the same closures
  pub rel_heap : (av : List ℕ) (floor : ℕ) (st : mean.State) (hs : List trees.Closure) (heap : Heap) (lines : List Bytes) → IsLater st.heap heap →
      heap.closures ≡ st.heap.closures → AllPlain program heap → Rel av floor st hs →
      Rel av floor (record { heap = heap; next = st.next; lines = lines }) hs
  rel_heap av floor st hs heap lines later same plain h = record {
    all = subst (λ cs. HeldAll heap cs hs) (sym same) (all_later later st.heap.closures hs h.all);
    homes = subst (λ cs. Homes cs st.next av) (sym same) h.homes;
    low = h.low;
    from = h.from;
    plain = plain;
  }

  -- ---- ends

  -- How an expression ends in both: the same, with the locals below n kept and a value of which what is known is true. Nothing is said where the text is
  -- stuck.
  pub data ExprRel (av : List ℕ) (floor n : ℕ) (info : Info) (ls : List Slot) : mean.Done → Done → Type 0 where
    gives : {value : Value} {st : mean.State} (ls' : List Slot) (hs : List trees.Closure) → Agree n ls ls' → Suits program st.heap info value →
        Rel av floor st hs → ExprRel av floor n info ls (mean.Gives value st) (Goes value ls' (beside st hs))
    halts : {h : Stop} {st : mean.State} (hs : List trees.Closure) → HaltOk av h → Rel av floor st hs →
        ExprRel av floor n info ls (mean.Stops h st) (Stops h (beside st hs))
    free : {st : mean.State} {d : Done} → ExprRel av floor n info ls (mean.Stops Stuck st) d

  pub data BodyRel (av : List ℕ) (floor n : ℕ) (info : Info) (ls : List Slot) (mode : Mode) (home : ℕ) : mean.Done → Done → Type 0 where
    b_gives : {value : Value} {st : mean.State} (ls' : List Slot) (hs : List trees.Closure) → Agree n ls ls' → Suits program st.heap info value →
        Rel av floor st hs → BodyRel av floor n info ls mode home (mean.Gives value st) (Goes value ls' (beside st hs))
    b_halts : {h : Stop} {st : mean.State} (hs : List trees.Closure) → HaltOk av h → Rel av floor st hs →
        BodyRel av floor n info ls mode home (mean.Stops h st) (Stops h (beside st hs))
    b_stays : {value : Value} {st : mean.State} (ls' : List Slot) (hs : List trees.Closure) → IsStays mode → Agree n ls ls' →
        Suits program st.heap info value → Rel av floor st hs → BodyRel av floor n info ls mode home (mean.Stops (Back home value) st)
        (Goes value ls' (beside st hs))
    b_free : {st : mean.State} {d : Done} → BodyRel av floor n info ls mode home (mean.Stops Stuck st) d

  pub data EndRel (av : List ℕ) (floor : ℕ) (info : Info) : mean.Done → Ended → Type 0 where
    e_gives : {value : Value} {st : mean.State} (hs : List trees.Closure) → Suits program st.heap info value → Rel av floor st hs →
        EndRel av floor info (mean.Gives value st) (trees.Gives value (beside st hs))
    e_halts : {h : Stop} {st : mean.State} (hs : List trees.Closure) → HaltOk av h → Rel av floor st hs →
        EndRel av floor info (mean.Stops h st) (trees.Ends h (beside st hs))
    e_free : {st : mean.State} {d : Ended} → EndRel av floor info (mean.Stops Stuck st) d

  -- ---- calls

  abbrev pub found_by : Sent → List Value → mean.State → Look
  found_by sent values st = lookup program st.heap (selector_of sent) values (below_of sent)

  -- what a call does in both: a send, and what stands for one where it is known what it finds
  pub record CallRel (call : mean.Message → mean.State → mean.Done) (call' : trees.Call → trees.State → Ended) : Type 0 where
    pub sends : (av : List ℕ) (floor : ℕ) (sent : Sent) (values : List Value) (st : mean.State) (hs : List trees.Closure) → IsHeap program st.heap →
        AreSound st.heap values → Rel av floor st hs →
        EndRel av floor i.Any (call (message_of sent values) st) (call' (Message sent values) (beside st hs))
    pub finds : (av : List ℕ) (floor : ℕ) (sent : Sent) (key : MethodKey) (variant : Variant) (values : List Value) (st : mean.State)
        (hs : List trees.Closure) → IsHeap program st.heap → AreSound st.heap values → Rel av floor st hs →
        found_by sent values st ≡ look.One key → AllSuit program st.heap (argument_infos q key variant) values → SuitsKind (kind program key) values →
        EndRel av floor (kind_info (kind program key)) (call (message_of sent values) st) (call' (direct (kind program key) key variant values) (beside st hs))
    pub finds_none : (av : List ℕ) (floor : ℕ) (sent : Sent) (values : List Value) (st : mean.State) (hs : List trees.Closure) → Rel av floor st hs →
        found_by sent values st ≡ look.None →
        EndRel av floor i.Any (call (message_of sent values) st) (call' (trees.Failing (e.NotUnderstood (selector_of sent)) values) (beside st hs))

  -- allowances that correspond, and are those of the program
  abbrev pub LevelsRel : mean.Allowance → trees.Levels → Type 0
  LevelsRel [] [] = Unit {0}
  LevelsRel [] (d ∷ l') = ⊥
  LevelsRel (c ∷ l) [] = ⊥
  LevelsRel (c ∷ l) (d ∷ l') = CallRel c d × ((message : mean.Message) (st : mean.State) → c message st ≡ mean.answer program l message st) × LevelsRel l l'

  pub expr_shift : (av : List ℕ) (floor n k : ℕ) (info : Info) (a b : List Slot) (d : mean.Done) (d' : Done) → n ≤ k → Agree n a b →
      ExprRel av floor k info b d d' → ExprRel av floor n info a d d'
  expr_shift av floor n k info a b d d' le g (gives ls' hs same u r) = gives ls' hs (agree_on n k a b ls' le g same) u r
  expr_shift av floor n k info a b d d' le g (halts hs o r) = halts hs o r
  expr_shift av floor n k info a b d d' le g free = free

  pub body_shift : (av : List ℕ) (floor n k : ℕ) (info : Info) (a b : List Slot) (mode : Mode) (home : ℕ) (d : mean.Done) (d' : Done) → n ≤ k →
      Agree n a b → BodyRel av floor k info b mode home d d' → BodyRel av floor n info a mode home d d'
  body_shift av floor n k info a b mode home d d' le g (b_gives ls' hs same u r) = b_gives ls' hs (agree_on n k a b ls' le g same) u r
  body_shift av floor n k info a b mode home d d' le g (b_halts hs o r) = b_halts hs o r
  body_shift av floor n k info a b mode home d d' le g (b_stays ls' hs ok same u r) = b_stays ls' hs ok (agree_on n k a b ls' le g same) u r
  body_shift av floor n k info a b mode home d d' le g b_free = b_free

  -- what follows a value: it begins in a sound heap that is later
  abbrev pub Goes_on : Heap → (Value → mean.State → Type 0) → Type 0
  Goes_on old P = (value : Value) (st : mean.State) → IsHeap program st.heap → IsLater old st.heap → IsSound st.heap value → P value st

  pub then_rel : (av : List ℕ) (floor n k : ℕ) (info info' : Info) (ls : List Slot) (old : Heap) (d : mean.Done) (d' : Done)
      (go : Value → mean.State → mean.Done) (go' : Value → List Slot → trees.State → Done) → n ≤ k → IsFine program old d → ExprRel av floor n info ls d d'
      → Goes_on old (λ value st. (hs : List trees.Closure) (ls1 : List Slot) → Agree n ls ls1 → Suits program st.heap info value → Rel av floor st hs →
      ExprRel av floor k info' ls1 (go value st) (go' value ls1 (beside st hs))) → ExprRel av floor n info' ls (mean.after d go) (trees.after d' go')
  then_rel av floor n k info info' ls old d d' go go' le fine (gives {value = value} {st = st} ls1 hs same u r) f =
      expr_shift av floor n k info' ls ls1 _ _ le same (f value st fine.0 fine.1 fine.2 hs ls1 same u r)
  then_rel av floor n k info info' ls old d d' go go' le fine (halts hs o r) f = halts hs o r
  then_rel av floor n k info info' ls old d d' go go' le fine free f = free

  pub then_body : (av : List ℕ) (floor n k : ℕ) (info info' : Info) (ls : List Slot) (mode : Mode) (home : ℕ) (old : Heap) (d : mean.Done) (d' : Done)
      (go : Value → mean.State → mean.Done) (go' : Value → List Slot → trees.State → Done) → n ≤ k → IsFine program old d → ExprRel av floor n info ls d d'
      → Goes_on old (λ value st. (hs : List trees.Closure) (ls1 : List Slot) → Agree n ls ls1 → Suits program st.heap info value → Rel av floor st hs →
      BodyRel av floor k info' ls1 mode home (go value st) (go' value ls1 (beside st hs))) →
      BodyRel av floor n info' ls mode home (mean.after d go) (trees.after d' go')
  then_body av floor n k info info' ls mode home old d d' go go' le fine (gives {value = value} {st = st} ls1 hs same u r) f =
      body_shift av floor n k info' ls ls1 mode home _ _ le same (f value st fine.0 fine.1 fine.2 hs ls1 same u r)
  then_body av floor n k info info' ls mode home old d d' go go' le fine (halts hs o r) f = b_halts hs o r
  then_body av floor n k info info' ls mode home old d d' go go' le fine free f = b_free

  pub back_rel : (av : List ℕ) (floor n : ℕ) (info : Info) (ls : List Slot) (d : mean.Done) (d' : Ended) → EndRel av floor info d d' →
      ExprRel av floor n info ls d (trees.back_to ls d')
  back_rel av floor n info ls d d' (e_gives hs u r) = gives ls hs (agree_self n ls) u r
  back_rel av floor n info ls d d' (e_halts hs o r) = halts hs o r
  back_rel av floor n info ls d d' e_free = free

  -- nothing is known of what is sent
  pub end_any : (av : List ℕ) (floor : ℕ) (info : Info) (d : mean.Done) (d' : Ended) → EndRel av floor info d d' → EndRel av floor i.Any d d'
  end_any av floor info d d' (e_gives hs u r) = e_gives hs tt r
  end_any av floor info d d' (e_halts hs o r) = e_halts hs o r
  end_any av floor info d d' e_free = e_free

  pub end_floor : (av : List ℕ) (f g : ℕ) (info : Info) (d : mean.Done) (d' : Ended) → f ≤ g → EndRel av g info d d' → EndRel av f info d d'
  end_floor av f g info d d' le (e_gives {st = st} hs u r) = e_gives hs u (rel_floor av f g st hs le r)
  end_floor av f g info d d' le (e_halts {st = st} hs o r) = e_halts hs o (rel_floor av f g st hs le r)
  end_floor av f g info d d' le e_free = e_free

  -- ---- activations that end

  same_self : (n : ℕ) → (n == n) ≡ true
  same_self n = grind (arith, nat_tests)

  other_home : (k id : ℕ) → (k ≡ id → ⊥) → (k == id) ≡ false
  other_home k id ne = grind (arith, nat_tests)

  -- an inlined body
  pub caught_expr : (av : List ℕ) (floor n : ℕ) (info : Info) (ls : List Slot) (id : ℕ) (d : mean.Done) (d' : Done) → floor ≤ id →
      BodyRel (id ∷ av) (suc id) n info ls Stays id d d' → ExprRel av floor n info ls (mean.caught id d) d'
  caught_expr av floor n info ls id d d' le (b_gives {st = st} ls' hs same u r) =
      gives ls' hs same u (rel_less av id floor (suc id) st hs (omega (arith, le)) r)
  caught_expr av floor n info ls id d d' le (b_halts {h = Back k v} {st = st} hs ok r) =
      subst (λ b. ExprRel av floor n info ls (mean.if_home b k v st) (Stops (Back k v) (beside st hs))) (sym (other_home k id ok.0))
      (halts hs ok.1 (rel_less av id floor (suc id) st hs (omega (arith, le)) r))
  caught_expr av floor n info ls id d d' le (b_halts {h = Fails e} {st = st} hs ok r) = halts hs tt (rel_less av id floor (suc id) st hs (omega (arith, le)) r)
  caught_expr av floor n info ls id d d' le (b_halts {h = Out} {st = st} hs ok r) = halts hs tt (rel_less av id floor (suc id) st hs (omega (arith, le)) r)
  caught_expr av floor n info ls id d d' le (b_halts {h = Stuck} {st = st} hs ok r) = free
  caught_expr av floor n info ls id d d' le (b_stays {value = v} {st = st} ls' hs ok same u r) =
      subst (λ b. ExprRel av floor n info ls (mean.if_home b id v st) (Goes v ls' (beside st hs))) (sym (same_self id))
      (gives ls' hs same u (rel_less av id floor (suc id) st hs (omega (arith, le)) r))
  caught_expr av floor n info ls id d d' le b_free = free

  caught_at_rel : (av : List ℕ) (floor : ℕ) (b : Bool) (k : ℕ) (value : Value) (st : mean.State) (hs : List trees.Closure) → NotIn k av →
      Rel av floor st hs → EndRel av floor i.Any (mean.if_home b k value st) (trees.if_home b k value (beside st hs))
  caught_at_rel av floor true k value st hs out h = e_gives hs tt h
  caught_at_rel av floor false k value st hs out h = e_halts hs out h

  -- a called one
  pub caught_rel : (av : List ℕ) (floor n : ℕ) (info : Info) (ls : List Slot) (id : ℕ) (d : mean.Done) (d' : Done) → floor ≤ id →
      BodyRel av (suc id) n info ls Stays id d d' → EndRel av floor i.Any (mean.caught id d) (trees.caught id d')
  caught_rel av floor n info ls id d d' le (b_gives {st = st} ls' hs same u h) = e_gives hs tt (rel_floor av floor (suc id) st hs (omega (arith, le)) h)
  caught_rel av floor n info ls id d d' le (b_halts {h = Back k v} {st = st} hs ok h) =
      caught_at_rel av floor (k == id) k v st hs ok (rel_floor av floor (suc id) st hs (omega (arith, le)) h)
  caught_rel av floor n info ls id d d' le (b_halts {h = Fails e} {st = st} hs ok h) = e_halts hs tt (rel_floor av floor (suc id) st hs (omega (arith, le)) h)
  caught_rel av floor n info ls id d d' le (b_halts {h = Out} {st = st} hs ok h) = e_halts hs tt (rel_floor av floor (suc id) st hs (omega (arith, le)) h)
  caught_rel av floor n info ls id d d' le (b_halts {h = Stuck} {st = st} hs ok h) = e_free
  caught_rel av floor n info ls id d d' le (b_stays {value = v} {st = st} ls' hs ok same u h) =
      subst (λ b. EndRel av floor i.Any (mean.if_home b id v st) (trees.Gives v (beside st hs))) (sym (same_self id))
      (e_gives hs tt (rel_floor av floor (suc id) st hs (omega (arith, le)) h))
  caught_rel av floor n info ls id d d' le b_free = e_free

  -- a closure's
  pub passed_rel : (av : List ℕ) (floor f n : ℕ) (info : Info) (ls : List Slot) (mode : Mode) (home : ℕ) → mode ≡ Leaves → floor ≤ f →
      (d : mean.Done) (d' : Done) → BodyRel av f n info ls mode home d d' → EndRel av floor i.Any d (trees.passed d')
  passed_rel av floor f n info ls mode home e le d d' (b_gives {st = st} ls' hs same u h) = e_gives hs tt (rel_floor av floor f st hs le h)
  passed_rel av floor f n info ls mode home e le d d' (b_halts {st = st} hs ok h) = e_halts hs ok (rel_floor av floor f st hs le h)
  passed_rel av floor f n info ls mode home e le d d' (b_stays ls' hs ok same u h) = absurd (subst IsStays e ok)
  passed_rel av floor f n info ls mode home e le d d' b_free = e_free
