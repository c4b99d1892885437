-- Sends, and what stands for them, mean the same in a tree as in the text.
use Rattle.std.proofs.Common.{◌≡◌, ℕ, zero, suc, ◌≤◌, Bool, true, false, if◌then◌else◌, List, [], ◌∷◌, length, map, codes, Option, Some, None}
use Rattle.std.proofs.Common.{slice_get, refl, sym, ap, ◌∙◌, subst, arith}
use Rattle.std.specs.Prelude.{slice_set}
use Rattle.vx_lists.specs.Members.{IsIn}
use Rattle.std.specs.Str.{bytes_eq}
use Rattle.vx_lists.proofs.Members.{in_any}
use Rattle.vx_lists.proofs.Texts.{same_bytes}
use Rattle.vx_names.specs.declared.key.Selector.{Selector}
use Rattle.vx_names.specs.declared.key.MethodKey.{MethodKey}
use Rattle.vx_syntax.specs.declared.decl.Decl.{Decl}
use Rattle.vx_syntax.specs.declared.decl.Decl.TheVariants as d
use Rattle.vx_syntax.specs.declared.expr.Body.{Body}
use Rattle.vx_syntax.specs.Expressions.{Bytes}
use Rattle.vx_program.specs.Program.{IsProgram, is_name_of}
use Rattle.vx_model.specs.declared.value.Value.{Value}
use Rattle.vx_model.specs.declared.value.Heap.{Heap}
use Rattle.vx_model.specs.declared.look.Look.TheVariants as look
use Rattle.vx_model.specs.declared.report.RunError.{RunError}
use Rattle.vx_model.specs.declared.report.RunError.TheVariants as e
use Rattle.vx_model.specs.declared.primitives.Deed.{Deed}
use Rattle.vx_model.specs.declared.primitives.Deed.TheVariants.{Answers, Prints, Breaks, Evaluates, Repeats, Lacks}
use Rattle.vx_node.specs.declared.node.Info.{Info}
use Rattle.vx_node.specs.declared.node.Info.TheVariants as i
use Rattle.vx_node.specs.declared.kind.Kind.{Kind}
use Rattle.vx_node.specs.declared.kind.Kind.TheVariants as kinds
use Rattle.vx_node.specs.declared.answer.Bound.{Bound}
use Rattle.vx_node.specs.declared.answer.Bound.TheVariants as b
use Rattle.vx_node.specs.declared.node.Variant.{Variant}
use Rattle.vx_node.specs.declared.node.Variant.TheVariants as c
use Rattle.vx_compilation.specs.declared.tree.Part as p
use Rattle.vx_compilation.specs.declared.tree.Act as a
use Rattle.vx_model.specs.Lookup.{lookup, are_held}
use Rattle.vx_model.specs.Values.{object, nil, is_meant}
use Rattle.vx_model.specs.Primitives.{Operation, operations, deed}
use Rattle.vx_model.specs.Meaning as mean
use Rattle.vx_model.specs.Meaning.{Stop, Back, Fails, Out, Stuck}
use Rattle.vx_compilation.specs.Activations.{Slot, counted}
use Rattle.vx_compilation.specs.TreeMeaning as trees
use Rattle.vx_compilation.specs.TreeMeaning.{CodeKey, Ended, Done, Goes, Stops, Mode, Stays, Leaves, mode_of, Place, Message, Sent, Sends, Resends}
use Rattle.vx_compilation.specs.Questions.{Asked}
use Rattle.vx_compilation.specs.Resolved as resolved
use Rattle.vx_compilation.specs.Resolved.{Seat, Constant, Variable, Names, bound, local_of, info_of, seat_part, Resolved, Parts, Fields, Statements}
use Rattle.vx_compilation.specs.Resolved.{Inlined, Inner, nothing, inner_at, expression, parts, fields, statement, body, statements, closed_scope}
use Rattle.vx_compilation.specs.Resolved.{unknown, needs, needs_of_parts, needs_of_fields, needs_of_body, needs_of_statement, needs_of, captures}
use Rattle.vx_compilation.specs.Resolved.{fault, first_missing, field_key, is_plain, acts_row, shape_of, seats_row, seat_parts, bound_as, sent}
use Rattle.vx_compilation.specs.Resolved.{called, over, resent, OfName, OfFormals, argument_infos, variant_for, exactly, primitive_info}
use Rattle.vx_compilation.specs.BindingIsSound.{SuitsKind}
use Rattle.vx_model.specs.Kinds.{kind, kind_by, maker, source_by}
use Rattle.vx_compilation.specs.Compiled.{asked, blocks, world, selector_of, below_of, things}
use mathlib.Core.Former.{this, list_count}
use Rattle.vx_model.proofs.Sound.{IsLater, class, classes, AreSound, IsHeap}
use Rattle.vx_model.proofs.Bodies.{AreFine}
use Rattle.vx_model.proofs.NeverStuck.{held_count}
use Rattle.vx_compilation.proofs.Slots.{Agree}
use Rattle.vx_compilation.proofs.Covers.{HasClass, Suits, AllSuit, given_scope, named_arguments}
use Rattle.vx_compilation.proofs.Relations.{AllPlain, beside, Rel, ExprRel, halts, BodyRel, message_of, direct, kind_info, found_by, LevelsRel}
use Rattle.vx_compilation.proofs.Relations.{back_rel, caught_expr}

-- what is known of what a primitive does
abbrev pub DeedSuits : List Decl → Heap → Info → Deed → Type 0
DeedSuits program heap info (Answers value) = Suits program heap info value
DeedSuits program heap info (Prints line) = Suits program heap info (nil program)
DeedSuits program heap info (Breaks error) = Unit {0}
DeedSuits program heap info (Evaluates j values) = (info ≡ i.Any) × AreSound heap values
DeedSuits program heap info (Repeats j) = info ≡ i.Any
DeedSuits program heap info Lacks = Unit {0}

-- What is proved of a program elsewhere: binding is sound, lookup asks the objects alone, and what is known of values is true.
pub record Facts (program : List Decl) : Type 0 where
  pub bound_one : (heap : Heap) (selector : Selector) (values : List Value) (infos : List Info) (below : Option MethodKey) (key : MethodKey) (own : Kind) →
      IsHeap program heap → AllPlain program heap → AreSound heap values →
      AllSuit program heap infos values → (asked program).bind selector infos below ≡ b.One key own →
      (lookup program heap selector values below ≡ look.One key) × (own ≡ kind program key) × SuitsKind own values
  pub bound_nobody : (heap : Heap) (selector : Selector) (values : List Value) (infos : List Info) (below : Option MethodKey) →
      (asked program).bind selector infos below ≡ b.Nobody → lookup program heap selector values below ≡ look.None
  pub found_held : (heap : Heap) (selector : Selector) (values : List Value) (below : Option MethodKey) (key : MethodKey) →
      lookup program heap selector values below ≡ look.One key → are_held program heap values key.specialisers ≡ true
  pub same_lookup : (heap : Heap) (selector : Selector) (values : List Value) (below : Option MethodKey) →
      lookup program (things heap.objects) selector values below ≡ lookup program heap selector values below
  pub held_suit : (heap : Heap) (values : List Value) (key : MethodKey) → IsHeap program heap → AllPlain program heap → AreSound heap values →
      are_held program heap values key.specialisers ≡ true →
      AllSuit program heap (argument_infos (asked program) key c.General) values
  pub deed_suits : (heap : Heap) (values : List Value) (number : ℕ) (operation : Operation) → IsHeap program heap → AreSound heap values →
      slice_get operations number ≡ Some operation → DeedSuits program heap (primitive_info number) (deed program operation values)
  pub object_class : (heap : Heap) (name : Bytes) → IsHeap program heap → is_meant program name ≡ true → HasClass heap (object program name) name
  pub nil_meant : is_meant program (codes "nil") ≡ true

-- a constructor fails with no error that stands for a send
abbrev pub IsFault : RunError → Type 0
IsFault (e.NotUnderstood selector) = ⊥
IsFault error = Unit {0}

-- a name among others is one of them
pub name_in : (names : List Bytes) (x : Bytes) → is_name_of names x ≡ true → IsIn x names
name_in names x e = let one = in_any (λ y. bytes_eq y x) names e in subst (λ z. IsIn z names) (same_bytes one.0 x one.2) one.1

-- bodies, and what is told of them
abbrev pub method_frame : MethodKey → List (Option Bytes) → List Value → ℕ → mean.Frame
method_frame key formals values home = record { method = key; arguments = values; home = home; scope = given_scope formals values }

abbrev pub begins : mean.State → mean.State
begins st = record st { next = suc st.next }

module _ (program : List Decl) (well : IsProgram program) (facts : Facts program) where
  abbrev pub place : CodeKey → ℕ → Place
  place code home = record { code = code; home = home }

  -- ---- calls

  pub call_rel : (av : List ℕ) (floor n : ℕ) (ls : List Slot) (lv : mean.Allowance) (lv' : trees.Levels) → LevelsRel program lv lv' →
      (sent : Sent) (values : List Value) (st : mean.State) (hs : List trees.Closure) → IsHeap program st.heap → AreSound st.heap values →
      Rel program av floor st hs →
      ExprRel program av floor n i.Any ls (mean.call lv (message_of sent values) st) (trees.call lv' (Message sent values) ls (beside st hs))
  call_rel av floor n ls [] [] r sent values st hs is all h = halts hs tt h
  call_rel av floor n ls [] (d ∷ l') r sent values st hs is all h = absurd r
  call_rel av floor n ls (c ∷ l) [] r sent values st hs is all h = absurd r
  call_rel av floor n ls (c ∷ l) (d ∷ l') r sent values st hs is all h =
      back_rel program av floor n i.Any ls _ _ (r.0.sends av floor sent values st hs is all h)

  pub none_rel : (av : List ℕ) (floor n : ℕ) (ls : List Slot) (lv : mean.Allowance) (lv' : trees.Levels) → LevelsRel program lv lv' →
      (sent : Sent) (values : List Value) (st : mean.State) (hs : List trees.Closure) → Rel program av floor st hs →
      found_by program sent values st ≡ look.None →
      ExprRel program av floor n i.Any ls (mean.call lv (message_of sent values) st)
      (trees.call lv' (trees.Failing (e.NotUnderstood (selector_of sent)) values) ls (beside st hs))
  none_rel av floor n ls [] [] r sent values st hs h none = halts hs tt h
  none_rel av floor n ls [] (d ∷ l') r sent values st hs h none = absurd r
  none_rel av floor n ls (c ∷ l) [] r sent values st hs h none = absurd r
  none_rel av floor n ls (c ∷ l) (d ∷ l') r sent values st hs h none = back_rel program av floor n i.Any ls _ _
      (r.0.finds_none av floor sent values st hs h none)

  pub direct_rel : (av : List ℕ) (floor n : ℕ) (ls : List Slot) (lv : mean.Allowance) (lv' : trees.Levels) → LevelsRel program lv lv' →
      (sent : Sent) (key : MethodKey) (variant : Variant) (values : List Value) (st : mean.State) (hs : List trees.Closure) → IsHeap program st.heap →
      AreSound st.heap values → Rel program av floor st hs →
      found_by program sent values st ≡ look.One key → AllSuit program st.heap (argument_infos (asked program) key variant) values → (own : Kind) →
      own ≡ kind program key → SuitsKind own values →
      ExprRel program av floor n (kind_info own) ls (mean.call lv (message_of sent values) st)
      (trees.call lv' (direct own key variant values) ls (beside st hs))
  direct_rel av floor n ls [] [] r sent key variant values st hs is all h one suits own same object = halts hs tt h
  direct_rel av floor n ls [] (d ∷ l') r sent key variant values st hs is all h one suits own same object = absurd r
  direct_rel av floor n ls (c ∷ l) [] r sent key variant values st hs is all h one suits own same object = absurd r
  direct_rel av floor n ls (c ∷ l) (d ∷ l') r sent key variant values st hs is all h one suits own same object =
      subst (λ z. ExprRel program av floor n (kind_info z) ls (c (message_of sent values) st)
      (trees.back_to ls (d (direct z key variant values) (beside st hs)))) (sym same)
      (back_rel program av floor n (kind_info (kind program key)) ls _ _
      (r.0.finds av floor sent key variant values st hs is all h one suits (subst (λ z. SuitsKind z values) same object)))

  -- ---- variants

  pub set_suit : (heap : Heap) (infos : List Info) (values : List Value) (position : ℕ) (value : Value) (info : Info) → AllSuit program heap infos values →
      slice_get values position ≡ Some value → Suits program heap info value → AllSuit program heap (slice_set infos position info) values
  set_suit heap [] [] position value info h e u = absurd (let no : ⊥ = cc in no)
  set_suit heap [] (one ∷ values) position value info h e u = absurd h
  set_suit heap (own ∷ infos) [] position value info h e u = absurd h
  set_suit heap (own ∷ infos) (one ∷ values) zero value info h e u = let same : value ≡ one = cc in (subst (Suits program heap info) same u, h.1)
  set_suit heap (own ∷ infos) (one ∷ values) (suc position) value info h e u = (h.0, set_suit heap infos values position value info h.1 e u)

  pub at_suit : (heap : Heap) (infos : List Info) (values : List Value) (position : ℕ) (info : Info) → AllSuit program heap infos values →
      slice_get infos position ≡ Some info → (value : Value) × (slice_get values position ≡ Some value) × Suits program heap info value
  at_suit heap [] values position info h e = absurd (let no : ⊥ = cc in no)
  at_suit heap (own ∷ infos) [] position info h e = absurd h
  at_suit heap (own ∷ infos) (one ∷ values) zero info h e = let same : own ≡ info = cc in (one, refl, subst (λ z. Suits program heap z one) same h.0)
  at_suit heap (own ∷ infos) (one ∷ values) (suc position) info h e = at_suit heap infos values position info h.1 e

  -- the variant that is called suits the arguments
  pub clone_suits : (heap : Heap) (key : MethodKey) (values : List Value) (position : ℕ) (class : Bytes) →
      AllSuit program heap (argument_infos (asked program) key c.General) values → (value : Value) → slice_get values position ≡ Some value →
      HasClass heap value class → (listed : Bool) →
      AllSuit program heap (argument_infos (asked program) key (if listed then c.Clone position class else c.General)) values
  clone_suits heap key values position class all value e u false = all
  clone_suits heap key values position class all value e u true = set_suit heap (argument_infos (asked program) key c.General) values position value
      (i.Exact class) all e u

  pub static_at : (heap : Heap) (key : MethodKey) (values : List Value) (infos : List Info) (position : ℕ) (classes : List Bytes) →
      AllSuit program heap (argument_infos (asked program) key c.General) values → AllSuit program heap infos values → (o : Option Info) →
      slice_get infos position ≡ o →
      AllSuit program heap (argument_infos (asked program) key (resolved.variant_at position classes o)) values
  static_at heap key values infos position classes all own None e = all
  static_at heap key values infos position classes all own (Some i.Any) e = all
  static_at heap key values infos position classes all own (Some (i.Cone x)) e = all
  static_at heap key values infos position classes all own (Some (i.Exact x)) e =
      let one = at_suit heap infos values position (i.Exact x) own e in clone_suits heap key values position x all one.0 one.1 one.2 (is_name_of classes x)

  pub static_suits : (heap : Heap) (key : MethodKey) (values : List Value) (infos : List Info) →
      AllSuit program heap (argument_infos (asked program) key c.General) values → AllSuit program heap infos values → (split : Option (ℕ × List Bytes)) →
      AllSuit program heap (argument_infos (asked program) key (variant_for infos split)) values
  static_suits heap key values infos all own None = all
  static_suits heap key values infos all own (Some split) = static_at heap key values infos split.0 split.1 all own (slice_get infos split.0) refl

  -- ---- what is inlined

  pub record InlineOk (key : MethodKey) (infos : List Info) (n : ℕ) (own : Inlined) : Type 0 where
    pub low : n ≤ own.next
    pub formals : List (Option Bytes)
    pub source : Body
    pub method : MethodKey
    pub is : maker program key ≡ Some (d.Method method formals source)
    pub count : length formals ≡ length key.specialisers
    pub runs : (av : List ℕ) (floor : ℕ) (values : List Value) → length formals ≡ length values →
        (c0 : CodeKey) (ph : ℕ) (lv : mean.Allowance) (lv' : trees.Levels) → AreFine program lv → LevelsRel program lv lv' → (ls : List Slot) →
        own.next ≤ length ls → (st : mean.State) (hs : List trees.Closure) →
        IsHeap program st.heap → AreSound st.heap values → AllSuit program st.heap infos values → Rel program av floor st hs →
        BodyRel program (st.next ∷ av) (suc st.next) n own.info ls Stays st.next
        (mean.statements program source.0 lv (method_frame key formals values st.next) (nil program) (begins st))
        (trees.if_stored (trees.placed own.xs values ls) (counted (beside st hs))
        (trees.statements (world program) Stays (map (trees.statement (world program) (blocks program)) own.acts) (place c0 ph) lv'))

  abbrev pub InnerOk : Inner → Type 0
  InnerOk inner = (key : MethodKey) (infos : List Info) (n : ℕ) (own : Inlined) → inner key infos n ≡ Some own → InlineOk key infos n own

  pub nothing_ok : InnerOk nothing
  nothing_ok key infos n own e = absurd (let no : ⊥ = cc in no)

  pub body_map : (acts : List a.Act) → trees.body_of (world program) (blocks program) (acts_row acts) ≡ map
      (trees.statement (world program) (blocks program)) acts
  body_map [] = refl
  body_map (act ∷ rest) = ap (λ z. trees.statement (world program) (blocks program) act ∷ z) (body_map rest)

  -- the call that finds the method, in the text
  pub found_text : (l : mean.Allowance) (sent : Sent) (key : MethodKey) (values : List Value) (st : mean.State) →
      found_by program sent values st ≡ look.One key → (method : MethodKey) (formals : List (Option Bytes)) (source : Body) →
      maker program key ≡ Some (d.Method method formals source) → length formals ≡ length values →
      mean.answer program l (message_of sent values) st ≡ mean.caught st.next
      (mean.statements program source.0 l (method_frame key formals values st.next) (nil program) (begins st))
  found_text l sent key values st one method formals source is count =
      ap (λ o. mean.found program l (message_of sent values) o st) one ∙ ap (λ o. mean.made_by program l key (kind_by key o) values st) is ∙
      ap (λ o. mean.entered_source program l key (source_by o) values st) is ∙
      named_arguments formals values count (λ scope. mean.caught st.next
      (mean.body_of program source l (record { method = key; arguments = values; home = st.next; scope = scope }) (begins st))) (mean.Stops Stuck st)

  pub inline_rel : (key : MethodKey) (infos : List Info) (k n : ℕ) (own : Inlined) (io : InlineOk key infos k own) (av : List ℕ) (floor : ℕ) (sent : Sent)
      (values : List Value) (c0 : CodeKey) (ph : ℕ) (lv : mean.Allowance) (lv' : trees.Levels) → AreFine program lv → LevelsRel program lv lv' →
      (ls : List Slot) → own.next ≤ length ls → (st : mean.State) (hs : List trees.Closure) →
      IsHeap program st.heap → AreSound st.heap values → AllSuit program st.heap infos values → Rel program av floor st hs →
      found_by program sent values st ≡ look.One key →
      ExprRel program av floor k own.info ls (mean.call lv (message_of sent values) st)
      (trees.inside (world program) own.xs (trees.body_of (world program) (blocks program) (acts_row own.acts)) (place c0 ph) lv' values ls
      (beside st hs))
  inline_rel key infos k n own io av floor sent values c0 ph [] [] fine r ls le st hs is all suit h one = halts hs tt h
  inline_rel key infos k n own io av floor sent values c0 ph [] (d ∷ l') fine r ls le st hs is all suit h one = absurd r
  inline_rel key infos k n own io av floor sent values c0 ph (c ∷ l) [] fine r ls le st hs is all suit h one = absurd r
  inline_rel key infos k n own io av floor sent values c0 ph (c ∷ l) (d ∷ l') fine r ls le st hs is all suit h one =
      let many : length io.formals ≡ length values = io.count ∙ sym (rel_count heap_of) in
      let text = r.1 (message_of sent values) st ∙ found_text l sent key values st one io.method io.formals io.source io.is many in
      subst (λ z. ExprRel program av floor k own.info ls z (trees.if_stored (trees.placed own.xs values ls) (counted (beside st hs))
      (trees.statements (world program) Stays (trees.body_of (world program) (blocks program) (acts_row own.acts)) (place c0 ph) l'))) (sym text)
      (subst (λ z. ExprRel program av floor k own.info ls (mean.caught st.next
      (mean.statements program io.source.0 l (method_frame key io.formals values st.next) (nil program) (begins st)))
      (trees.if_stored (trees.placed own.xs values ls) (counted (beside st hs)) (trees.statements (world program) Stays z (place c0 ph) l')))
      (sym (body_map own.acts))
      (caught_expr program av floor k own.info ls st.next _ _ h.from (io.runs av floor values many c0 ph l l' fine.1 r.2 ls le st hs is all suit h)))
    where
      heap_of : are_held program st.heap values key.specialisers ≡ true
      heap_of = facts.found_held st.heap (selector_of sent) values (below_of sent) key one

      rel_count : are_held program st.heap values key.specialisers ≡ true → length values ≡ length key.specialisers
      rel_count = held_count program st.heap values key.specialisers

  -- ---- sends by what they are bound to

  pub blocks_of_called : (q : Asked) (key : MethodKey) (shape : List (Unit {0})) (all : Parts (list_count (this {0}) shape 0)) (o : Option Inlined) →
      (called q key shape all o).blocks ≡ all.blocks
  blocks_of_called q key shape all None = refl
  blocks_of_called q key shape all (Some own) = refl

  pub blocks_of_bound : (q : Asked) (inner : Inner) (selector : Selector) (sending : p.Part) (shape : List (Unit {0}))
      (all : Parts (list_count (this {0}) shape 0)) (own : Bound) → (bound_as q inner selector sending shape all own).blocks ≡ all.blocks
  blocks_of_bound q inner selector sending shape all b.Nobody = refl
  blocks_of_bound q inner selector sending shape all b.Open = refl
  blocks_of_bound q inner selector sending shape all (b.One key (kinds.Prim number)) = refl
  blocks_of_bound q inner selector sending shape all (b.One key (kinds.Get field)) = refl
  blocks_of_bound q inner selector sending shape all (b.One key (kinds.Set field)) = refl
  blocks_of_bound q inner selector sending shape all (b.One key kinds.Source) = blocks_of_called q key shape all (inner key all.infos all.next)

  pub next_of_called : (q : Asked) (inner : Inner) → InnerOk inner → (key : MethodKey) (shape : List (Unit {0})) (all : Parts (list_count (this {0}) shape 0))
      (o : Option Inlined) → inner key all.infos all.next ≡ o → all.next ≤ (called q key shape all o).next
  next_of_called q inner ok key shape all None e = omega arith
  next_of_called q inner ok key shape all (Some own) e = (ok key all.infos all.next own e).low

  pub next_of_bound : (q : Asked) (inner : Inner) → InnerOk inner → (selector : Selector) (sending : p.Part) (shape : List (Unit {0}))
      (all : Parts (list_count (this {0}) shape 0)) (own : Bound) → all.next ≤ (bound_as q inner selector sending shape all own).next
  next_of_bound q inner ok selector sending shape all b.Nobody = omega arith
  next_of_bound q inner ok selector sending shape all b.Open = omega arith
  next_of_bound q inner ok selector sending shape all (b.One key (kinds.Prim number)) = omega arith
  next_of_bound q inner ok selector sending shape all (b.One key (kinds.Get field)) = omega arith
  next_of_bound q inner ok selector sending shape all (b.One key (kinds.Set field)) = omega arith
  next_of_bound q inner ok selector sending shape all (b.One key kinds.Source) = next_of_called q inner ok key shape all (inner key all.infos all.next) refl

  -- what follows the arguments of a send
  abbrev pub AfterParts : (av : List ℕ) (floor n next : ℕ) (infos : List Info) (ls : List Slot) (old : Heap) →
      (Info → (List Value → mean.State → mean.Done) → (List Value → List Slot → trees.State → Done) → Type 0)
  AfterParts av floor n next infos ls old info go go' =
      (values : List Value) (st2 : mean.State) (hs2 : List trees.Closure) (ls2 : List Slot) → IsHeap program st2.heap → IsLater old st2.heap →
      AreSound st2.heap values → AllSuit program st2.heap infos values → Agree n ls ls2 → Rel program av floor st2 hs2 →
      ExprRel program av floor next info ls2 (go values st2) (go' values ls2 (beside st2 hs2))

  abbrev pub AfterFields : (av : List ℕ) (floor n next : ℕ) (ls : List Slot) (old : Heap) →
      (Info → (List Value → mean.State → mean.Done) → (List Value → List Slot → trees.State → Done) → Type 0)
  AfterFields av floor n next ls old info go go' =
      (values : List Value) (st2 : mean.State) (hs2 : List trees.Closure) (ls2 : List Slot) → IsHeap program st2.heap → IsLater old st2.heap →
      AreSound st2.heap values → Agree n ls ls2 → Rel program av floor st2 hs2 →
      ExprRel program av floor next info ls2 (go values st2) (go' values ls2 (beside st2 hs2))

  module _ (av : List ℕ) (floor n : ℕ) (ls : List Slot) (code : CodeKey) (ph : ℕ) (lv : mean.Allowance) (lv' : trees.Levels) (fine : AreFine program lv)
      (r : LevelsRel program lv lv') (sent : Sent) (shape : List (Unit {0})) (all : Parts (list_count (this {0}) shape 0))
      (text : (List Value → mean.State → mean.Done) → mean.Done) (begun : trees.State) (old : Heap)
      (follow : (info : Info) (go : List Value → mean.State → mean.Done) (go' : List Value → List Slot → trees.State → Done) →
      AfterParts av floor n all.next all.infos ls old info go go' →
      ExprRel program av floor n info ls (text go) (trees.all (trees.parts (world program) (blocks program) all.row) (place code ph) lv' ls begun go'))
    where
      one_rel : (key : MethodKey) (own : Kind) (make : List Value → trees.Call) →
          ((variant : Variant) (values : List Value) → direct own key variant values ≡ make values) →
          (asked program).bind (selector_of sent) all.infos (below_of sent) ≡ b.One key own →
          ExprRel program av floor n (kind_info own) ls (text (λ values. mean.call lv (message_of sent values)))
          (trees.calls make (trees.parts (world program) (blocks program) all.row) (place code ph) lv' ls begun)
      one_rel key own make is e = follow (kind_info own) _ _ (λ values st2 hs2 ls2 heap later sound suit same h.
          let one = facts.bound_one st2.heap (selector_of sent) values all.infos (below_of sent) key own heap h.plain sound suit e in
          let held = facts.found_held st2.heap (selector_of sent) values (below_of sent) key one.0 in
          subst (λ z. ExprRel program av floor all.next (kind_info own) ls2 (mean.call lv (message_of sent values) st2)
          (trees.call lv' z ls2 (beside st2 hs2))) (is c.General values)
          (direct_rel av floor all.next ls2 lv lv' r sent key c.General values st2 hs2 heap sound h one.0
          (facts.held_suit st2.heap values key heap h.plain sound held) own one.1 one.2))

      called_rel : (inner : Inner) → InnerOk inner → (key : MethodKey) (o : Option Inlined) → inner key all.infos all.next ≡ o →
          (called (asked program) key shape all o).next ≤ length ls → (asked program).bind (selector_of sent) all.infos
          (below_of sent) ≡ b.One key kinds.Source →
          ExprRel program av floor n (called (asked program) key shape all o).info ls (text (λ values. mean.call lv (message_of sent values)))
          (trees.part (world program) (blocks program) (called (asked program) key shape all o).part (place code ph) lv' ls begun)
      called_rel inner ok key None e long bind = follow i.Any _ _ (λ values st2 hs2 ls2 heap later sound suit same h.
          let one = facts.bound_one st2.heap (selector_of sent) values all.infos (below_of sent) key kinds.Source heap h.plain sound suit bind in
          let held = facts.found_held st2.heap (selector_of sent) values (below_of sent) key one.0 in
          let variant = variant_for all.infos ((asked program).clones key) in
          direct_rel av floor all.next ls2 lv lv' r sent key variant values st2 hs2 heap sound h one.0
          (static_suits st2.heap key values all.infos (facts.held_suit st2.heap values key heap h.plain sound held) suit
          ((asked program).clones key)) kinds.Source one.1 tt)
      called_rel inner ok key (Some own) e long bind = follow own.info _ _ (λ values st2 hs2 ls2 heap later sound suit same h.
          let one = facts.bound_one st2.heap (selector_of sent) values all.infos (below_of sent) key kinds.Source heap h.plain sound suit bind in
          inline_rel key all.infos all.next n own (ok key all.infos all.next own e) av floor sent values code ph lv lv' fine r ls2
          (omega (arith, long, same.long)) st2 hs2 heap sound suit h one.0)

      -- a send, by what it is bound to
      pub bound_rel : (inner : Inner) → InnerOk inner → (sending : p.Part) →
          trees.part (world program) (blocks program) sending ≡ trees.calls (Message sent) (trees.parts (world program) (blocks program) all.row) →
          (own : Bound) → (asked program).bind (selector_of sent) all.infos (below_of sent) ≡ own →
          (bound_as (asked program) inner (selector_of sent) sending shape all own).next ≤ length ls →
          ExprRel program av floor n (bound_as (asked program) inner (selector_of sent) sending shape all own).info ls
          (text (λ values. mean.call lv (message_of sent values))) (trees.part (world program) (blocks program)
          (bound_as (asked program) inner (selector_of sent) sending shape all own).part (place code ph) lv' ls begun)
      bound_rel inner ok sending is b.Nobody e long = follow i.Any _ _ (λ values st2 hs2 ls2 heap later sound suit same h.
          none_rel av floor all.next ls2 lv lv' r sent values st2 hs2 h (facts.bound_nobody st2.heap (selector_of sent) values all.infos (below_of sent) e))
      bound_rel inner ok sending is b.Open e long =
          subst (λ (z : trees.Meaning). ExprRel program av floor n i.Any ls (text (λ values. mean.call lv (message_of sent values)))
          (z (place code ph) lv' ls begun)) (sym is)
          (follow i.Any _ (λ values ls' st'. trees.call lv' (Message sent values) ls' st')
          (λ values st2 hs2 ls2 heap later sound suit same h. call_rel av floor all.next ls2 lv lv' r sent values st2 hs2 heap sound h))
      bound_rel inner ok sending is (b.One key (kinds.Prim number)) e long = one_rel key (kinds.Prim number) (trees.Primitive number) (λ variant values. refl) e
      bound_rel inner ok sending is (b.One key (kinds.Get field)) e long = one_rel key (kinds.Get field) (trees.Getting field) (λ variant values. refl) e
      bound_rel inner ok sending is (b.One key (kinds.Set field)) e long = one_rel key (kinds.Set field) (trees.Setting field) (λ variant values. refl) e
      bound_rel inner ok sending is (b.One key kinds.Source) e long = called_rel inner ok key (inner key all.infos all.next) refl long e
