-- Calls of trees mean calls of the text: primitives, fields, and what messages find.
use Rattle.std.proofs.Common.{◌≡◌, ℕ, zero, suc, ◌==◌, Bool, true, false, if◌then◌else◌, List, [], ◌∷◌, length, Option, Some, None, slice_get, refl}
use Rattle.std.proofs.Common.{sym, ap, ◌∙◌, subst, arith}
use Rattle.std.specs.Prelude.{slice_set}
use Rattle.vx_lists.proofs.Each.{all_at}
use Rattle.vx_lists.proofs.Places.{mapped_same}
use Rattle.vx_names.specs.declared.key.MethodKey.{MethodKey}
use Rattle.vx_names.specs.declared.key.FieldKey.{FieldKey}
use Rattle.vx_syntax.specs.declared.decl.Decl.{Decl}
use Rattle.vx_syntax.specs.declared.decl.Decl.TheVariants as d
use Rattle.vx_syntax.specs.declared.expr.Body.{Body}
use Rattle.vx_syntax.specs.Expressions.{Bytes}
use Rattle.vx_program.specs.Program.{IsProgram, is_name_of}
use Rattle.vx_model.specs.declared.value.Value.{Value}
use Rattle.vx_model.specs.declared.value.Value.TheVariants as v
use Rattle.vx_model.specs.declared.value.Thing.{Thing}
use Rattle.vx_model.specs.declared.value.Heap.{Heap}
use Rattle.vx_model.specs.declared.look.Look.{Look}
use Rattle.vx_model.specs.declared.look.Look.TheVariants as look
use Rattle.vx_model.specs.declared.report.RunError.TheVariants as e
use Rattle.vx_model.specs.declared.primitives.Deed.{Deed}
use Rattle.vx_model.specs.declared.primitives.Deed.TheVariants.{Answers, Prints, Breaks, Evaluates, Repeats, Lacks}
use Rattle.vx_node.specs.declared.node.Info.{Info}
use Rattle.vx_node.specs.declared.node.Info.TheVariants as i
use Rattle.vx_node.specs.declared.kind.Kind.TheVariants as kinds
use Rattle.vx_node.specs.declared.node.Variant.{Variant}
use Rattle.vx_node.specs.declared.node.Variant.TheVariants as c
use Rattle.vx_model.specs.Holds.{class_of, slot_of}
use Rattle.vx_model.specs.Lookup.{are_held}
use Rattle.vx_model.specs.Values.{truth}
use Rattle.vx_model.specs.Primitives.{Operation, operations, counts, performed, deed}
use Rattle.vx_model.proofs.Deeds.{number_counts}
use Rattle.vx_model.specs.Meaning as mean
use Rattle.vx_model.specs.Meaning.{Stop, Back, Fails, Out, Stuck}
use Rattle.vx_compilation.specs.BindingIsSound.{IsFirstObject, SuitsKind}
use Rattle.vx_compilation.specs.Activations.{ToCode, counted}
use Rattle.vx_compilation.specs.TreeMeaning as trees
use Rattle.vx_compilation.specs.TreeMeaning.{CodeKey, Ended, Done, Goes, Stops, Mode, Stays, Leaves, mode_of, Message, Sent}
use Rattle.vx_compilation.specs.Resolved.{argument_infos, primitive_info}
use Rattle.vx_compilation.specs.Compiled as compiled
use Rattle.vx_model.specs.Kinds.{kind, kind_by, maker, number_of, primitive_kind, source, source_by}
use Rattle.vx_compilation.specs.Compiled.{asked, blocks, world, selector_of, below_of, things}
use Rattle.vx_model.proofs.Sound.{class, IsSound, AreSound, IsHeap, IsHeld, later_thing_at}
use Rattle.vx_model.proofs.Bodies.{AreFine}
use Rattle.vx_model.proofs.NeverStuck.{held_count, allowance_fine}
use Rattle.vx_compilation.proofs.Covers.{HasClass, has_class, AllSuit}
use Rattle.vx_compilation.proofs.Relations.{AllPlain, beside, Rel, rel_heap, EndRel, e_gives, e_halts, e_free, message_of, direct, kind_info}
use Rattle.vx_compilation.proofs.Relations.{found_by, CallRel, LevelsRel, end_any}
use Rattle.vx_compilation.proofs.Sending.{DeedSuits, Facts, clone_suits}
use Rattle.vx_compilation.proofs.Entering.{source_is, same_count, enter_rel, AtOk, at_ok, evaluates_rel, repeats_rel}

module _ (program : List Decl) (well : IsProgram program) (facts : Facts program) where
  -- ---- primitives

  bump : (av : List ℕ) (floor : ℕ) (st : mean.State) (hs : List trees.Closure) → Rel program av floor st hs → Rel program av st.next st hs
  bump av floor st hs h = record { all = h.all; homes = h.homes; low = h.low; from = omega arith; plain = h.plain }

  at_state : (st : mean.State) (hs : List trees.Closure) (av : List ℕ) (floor : ℕ) (j : ℕ) → IsHeap program st.heap → Rel program av floor st hs →
      (AtOk program well facts) av st.next st.heap (slice_get st.heap.closures j) (slice_get hs j)
  at_state st hs av floor j heap h = (at_ok program well facts) st.heap st.heap.closures hs j av st.next h.all h.homes
      (λ k c e. all_at (IsHeld st.heap) st.heap.closures k c e heap.held)

  doing_rel : (what : Deed) (info : Info) (lv : mean.Allowance) (lv' : trees.Levels) → AreFine program lv → LevelsRel program lv lv' →
      (av : List ℕ) (floor : ℕ) (st : mean.State) (hs : List trees.Closure) → DeedSuits program st.heap info what → IsHeap program st.heap →
      Rel program av floor st hs →
      EndRel program av floor info (mean.doing program lv what st) (trees.doing (world program) (blocks program) lv' what (beside st hs))
  doing_rel (Answers value) info lv lv' fine r av floor st hs u heap h = e_gives hs u h
  doing_rel (Prints line) info lv lv' fine r av floor st hs u heap h = e_gives hs u
      (record { all = h.all; homes = h.homes; low = h.low; from = h.from; plain = h.plain })
  doing_rel (Breaks error) info lv lv' fine r av floor st hs u heap h = e_halts hs tt h
  doing_rel (Evaluates j values) info lv lv' fine r av floor st hs u heap h =
      subst (λ z. EndRel program av floor z (mean.doing program lv (Evaluates j values) st)
      (trees.doing (world program) (blocks program) lv' (Evaluates j values) (beside st hs))) (sym u.0)
      ((evaluates_rel program well facts) (slice_get st.heap.closures j) (slice_get hs j) av floor st.next st hs
      (at_state st hs av floor j heap h) h.from lv lv' fine r values heap u.1 (bump av floor st hs h))
  doing_rel (Repeats j) info lv lv' fine r av floor st hs u heap h =
      subst (λ z. EndRel program av floor z (mean.doing program lv (Repeats j) st)
      (trees.doing (world program) (blocks program) lv' (Repeats j) (beside st hs))) (sym u)
      ((repeats_rel program well facts) (slice_get st.heap.closures j) (slice_get hs j) av floor st.next st hs
      (at_state st hs av floor j heap h) h.from lv lv' fine r heap
      (bump av floor st hs h))
  doing_rel Lacks info lv lv' fine r av floor st hs u heap h = e_free

  -- where a primitive is told so many arguments
  counted_rel : (av : List ℕ) (floor : ℕ) (info : Info) (d : mean.Done) (o : Option ℕ) (n : ℕ) (what : Deed) (lv' : trees.Levels) (st : trees.State) →
      o ≡ Some n → EndRel program av floor info d (trees.doing (world program) (blocks program) lv' what st) →
      EndRel program av floor info d (trees.performing (world program) (blocks program) lv'
      (elim o [ Some count ↦ if count == n then Some what else None | None ↦ None ]) st)
  counted_rel av floor info d o n what lv' st e h =
      subst (λ (z : Option ℕ). EndRel program av floor info d (trees.performing (world program) (blocks program) lv'
      (elim z [ Some count ↦ if count == n then Some what else None | None ↦ None ]) st)) (sym e)
      (subst (λ b. EndRel program av floor info d (trees.performing (world program) (blocks program) lv' (if b then Some what else None) st))
      (sym ((same_count program well facts) n n refl)) h)

  primitive_rel : (j : ℕ) (lv : mean.Allowance) (lv' : trees.Levels) → AreFine program lv → LevelsRel program lv lv' →
      (values : List Value) (av : List ℕ) (floor : ℕ) (st : mean.State) (hs : List trees.Closure) → IsHeap program st.heap → AreSound st.heap values →
      slice_get counts j ≡ Some (length values) → Rel program av floor st hs →
      EndRel program av floor (primitive_info j) (mean.primitive program lv j values st)
      (trees.performing (world program) (blocks program) lv' ((world program).deed j values) (beside st hs))
  primitive_rel j lv lv' fine r values av floor st hs heap sound counted h =
      counted_rel av floor (primitive_info j) (mean.primitive program lv j values st) (slice_get counts j) (length values)
      (performed (truth program) j values) lv' (beside st hs) counted (by (slice_get operations j) refl)
    where
      by : (o : Option Operation) → slice_get operations j ≡ o → EndRel program av floor (primitive_info j)
          (elim o [ Some operation ↦ mean.doing program lv (deed program operation values) st | None ↦ mean.Stops Stuck st ])
          (trees.doing (world program) (blocks program) lv' (elim o [ Some operation ↦ deed program operation values | None ↦ Lacks ]) (beside st hs))
      by None same = e_free
      by (Some operation) same = doing_rel (deed program operation values) (primitive_info j) lv lv' fine r av floor st hs
          (facts.deed_suits st.heap values j operation heap sound same) heap h

  -- ---- fields

  same_slot : (heap : Heap) (value : Value) (field : FieldKey) → slot_of (things heap.objects) value field ≡ slot_of heap value field
  same_slot heap (v.Int n) field = refl
  same_slot heap (v.Text bytes) field = refl
  same_slot heap (v.Closure n) field = refl
  same_slot heap (v.Object n) field = refl

  given_rel : (av : List ℕ) (floor : ℕ) (o : Option Value) (st : mean.State) (hs : List trees.Closure) → Rel program av floor st hs →
      EndRel program av floor i.Any (mean.given o st) (trees.given o (beside st hs))
  given_rel av floor None st hs h = e_free
  given_rel av floor (Some value) st hs h = e_gives hs tt h

  -- the field of an object is read
  get_rel : (field : FieldKey) (j : ℕ) (av : List ℕ) (floor : ℕ) (st : mean.State) (hs : List trees.Closure) → Rel program av floor st hs →
      EndRel program av floor i.Any (mean.getting field (v.Object j ∷ []) st) (trees.getting (world program) field (v.Object j ∷ []) (beside st hs))
  get_rel field j av floor st hs h = given_rel av floor (slot_of st.heap (v.Object j) field) st hs h

  -- and set
  set_rel : (field : FieldKey) (j : ℕ) (value : Value) (av : List ℕ) (floor : ℕ) (st : mean.State) (hs : List trees.Closure) → Rel program av floor st hs →
      EndRel program av floor i.Any (mean.setting program field (v.Object j ∷ value ∷ []) st)
      (trees.setting (world program) field (v.Object j ∷ value ∷ []) (beside st hs))
  set_rel field j value av floor st hs h = by (slot_of st.heap (v.Object j) field) (slice_get st.heap.objects j) refl
    where
      other : Thing → Thing
      other thing = record thing { slots = mean.put_slot field value thing.slots }

      put_at : Option Value → Option Thing → Option (List Thing)
      put_at old there =
          elim old [ Some own ↦ elim there [ Some thing ↦ Some (slice_set st.heap.objects j (other thing)) | None ↦ None ] | None ↦ None ]

      by : (old : Option Value) (there : Option Thing) → slice_get st.heap.objects j ≡ there →
          EndRel program av floor i.Any (mean.put_in program (put_at old there) st) (trees.put_in (world program) (put_at old there) (beside st hs))
      by None there same = e_free
      by (Some own) None same = e_free
      by (Some own) (Some thing) same =
          let heap : Heap = record st.heap { objects = slice_set st.heap.objects j (other thing) } in
          let kept : AllPlain program heap = record {
            at = λ k c e. h.plain.at k c
                (sym (ap (λ (xs : List Bytes). slice_get xs k) (mapped_same class st.heap.objects j thing (other thing) same refl)) ∙ e);
          } in
          e_gives hs tt (rel_heap program av floor st hs heap st.lines (later_thing_at st.heap j thing (other thing) same refl) refl kept h)

  -- by an instruction, which is made for objects alone
  got_rel : (field : FieldKey) (values : List Value) (av : List ℕ) (floor : ℕ) (st : mean.State) (hs : List trees.Closure) → IsFirstObject values →
      Rel program av floor st hs →
      EndRel program av floor i.Any (mean.getting field values st) (trees.getting (world program) field values (beside st hs))
  got_rel field [] av floor st hs own h = e_free
  got_rel field (v.Object j ∷ []) av floor st hs own h = get_rel field j av floor st hs h
  got_rel field (v.Int n ∷ []) av floor st hs own h = absurd own
  got_rel field (v.Text bytes ∷ []) av floor st hs own h = absurd own
  got_rel field (v.Closure n ∷ []) av floor st hs own h = absurd own
  got_rel field (value ∷ other ∷ more) av floor st hs own h = e_free

  put_rel : (field : FieldKey) (values : List Value) (av : List ℕ) (floor : ℕ) (st : mean.State) (hs : List trees.Closure) → IsFirstObject values →
      Rel program av floor st hs →
      EndRel program av floor i.Any (mean.setting program field values st) (trees.setting (world program) field values (beside st hs))
  put_rel field [] av floor st hs own h = e_free
  put_rel field (value ∷ []) av floor st hs own h = e_free
  put_rel field (v.Object j ∷ value ∷ []) av floor st hs own h = set_rel field j value av floor st hs h
  put_rel field (v.Int n ∷ value ∷ []) av floor st hs own h = absurd own
  put_rel field (v.Text bytes ∷ value ∷ []) av floor st hs own h = absurd own
  put_rel field (v.Closure n ∷ value ∷ []) av floor st hs own h = absurd own
  put_rel field (first ∷ value ∷ other ∷ more) av floor st hs own h = e_free

  -- by dispatch, where both fail alike for what is no object
  sent_get_rel : (field : FieldKey) (values : List Value) (av : List ℕ) (floor : ℕ) (st : mean.State) (hs : List trees.Closure) → Rel program av floor st hs →
      EndRel program av floor i.Any (mean.getting field values st) (trees.getting_of (world program) field field.name values (beside st hs))
  sent_get_rel field [] av floor st hs h = e_free
  sent_get_rel field (v.Object j ∷ []) av floor st hs h = get_rel field j av floor st hs h
  sent_get_rel field (v.Int n ∷ []) av floor st hs h = e_halts hs tt h
  sent_get_rel field (v.Text bytes ∷ []) av floor st hs h = e_halts hs tt h
  sent_get_rel field (v.Closure n ∷ []) av floor st hs h = e_halts hs tt h
  sent_get_rel field (value ∷ other ∷ more) av floor st hs h = e_free

  sent_set_rel : (field : FieldKey) (values : List Value) (av : List ℕ) (floor : ℕ) (st : mean.State) (hs : List trees.Closure) → Rel program av floor st hs →
      EndRel program av floor i.Any (mean.setting program field values st) (trees.setting_of (world program) field field.name values (beside st hs))
  sent_set_rel field [] av floor st hs h = e_free
  sent_set_rel field (value ∷ []) av floor st hs h = e_free
  sent_set_rel field (v.Object j ∷ value ∷ []) av floor st hs h = set_rel field j value av floor st hs h
  sent_set_rel field (v.Int n ∷ value ∷ []) av floor st hs h = e_halts hs tt h
  sent_set_rel field (v.Text bytes ∷ value ∷ []) av floor st hs h = e_halts hs tt h
  sent_set_rel field (v.Closure n ∷ value ∷ []) av floor st hs h = e_halts hs tt h
  sent_set_rel field (first ∷ value ∷ other ∷ more) av floor st hs h = e_free

  -- ---- calls

  -- a declaration that is no method leaves the text without a body
  no_source : (key : MethodKey) (made : Option Decl) → maker program key ≡ made → source_by made ≡ None →
      (lv : mean.Allowance) (values : List Value) (av : List ℕ) (floor : ℕ) (info : Info) (st : mean.State) (ended : trees.Ended) →
      EndRel program av floor info (mean.entered_source program lv key (source program key) values st) ended
  no_source key made is none lv values av floor info st ended =
      subst (λ z. EndRel program av floor info (mean.entered_source program lv key z values st) ended) (sym (ap source_by is ∙ none)) e_free

  module _ (key : MethodKey) (variant : Variant) (lv : mean.Allowance) (lv' : trees.Levels) (fine : AreFine program lv) (r : LevelsRel program lv lv')
      (values : List Value) (av : List ℕ) (floor : ℕ) (st : mean.State) (hs : List trees.Closure)
      (heap : IsHeap program st.heap) (sound : AreSound st.heap values) (held : are_held program st.heap values key.specialisers ≡ true)
      (suit : AllSuit program st.heap (argument_infos (asked program) key variant) values) (h : Rel program av floor st hs)
    where
      as_many : length values ≡ length key.specialisers
      as_many = held_count program st.heap values key.specialisers held

      -- what a primitive does
      numbered_rel : (number : Option ℕ) → number_of key ≡ number → maker program key ≡ None →
          EndRel program av floor (kind_info (primitive_kind number)) (mean.made_by program lv key (primitive_kind number) values st)
          (trees.answer (world program) (blocks program) lv' (direct (primitive_kind number) key variant values) (beside st hs))
      numbered_rel None e is = no_source key None is refl lv values av floor _ st _
      numbered_rel (Some j) e is = primitive_rel j lv lv' fine r values av floor st hs heap sound (number_counts key j e ∙ ap Some (sym as_many)) h

      -- and a method
      source_rel : (own : MethodKey) (formals : List (Option Bytes)) (body : Body) → maker program key ≡ Some (d.Method own formals body) →
          EndRel program av floor i.Any (mean.made_by program lv key kinds.Source values st)
          (trees.answer (world program) (blocks program) lv' (direct kinds.Source key variant values) (beside st hs))
      source_rel own formals body is =
          subst (λ z. EndRel program av floor i.Any (mean.entered_source program lv key z values st)
          (trees.answer (world program) (blocks program) lv' (direct kinds.Source key variant values) (beside st hs))) (sym (ap source_by is))
          ((enter_rel program well facts) key own variant formals body is lv lv' fine r values av floor st hs heap sound
          (((source_is program well facts) key own formals body is).0 ∙ sym as_many) suit h)

      -- what is called directly
      found_rel : (made : Option Decl) → maker program key ≡ made → SuitsKind (kind_by key made) values →
          EndRel program av floor (kind_info (kind_by key made)) (mean.made_by program lv key (kind_by key made) values st)
          (trees.answer (world program) (blocks program) lv' (direct (kind_by key made) key variant values) (beside st hs))
      found_rel None is own = numbered_rel (number_of key) refl is
      found_rel (Some (d.Object x parents)) is own = no_source key (Some (d.Object x parents)) is refl lv values av floor _ st _
      found_rel (Some (d.Predicate x parents test)) is own = no_source key (Some (d.Predicate x parents test)) is refl lv values av floor _ st _
      found_rel (Some (d.Field field start changeable)) is own = by (length key.specialisers == 1) own
        where
          by : (so : Bool) → SuitsKind (if so then kinds.Get field else kinds.Set field) values →
              EndRel program av floor (kind_info (if so then kinds.Get field else kinds.Set field))
              (mean.made_by program lv key (if so then kinds.Get field else kinds.Set field) values st)
              (trees.answer (world program) (blocks program) lv' (direct (if so then kinds.Get field else kinds.Set field) key variant values) (beside st hs))
          by true own = got_rel field values av floor st hs own h
          by false own = put_rel field values av floor st hs own h
      found_rel (Some (d.Method own formals body)) is other = source_rel own formals body is

      -- what dispatch finds, where it enters this variant
      reached_rel : compiled.variant_by st.heap.objects values ((asked program).clones key) ≡ variant → (made : Option Decl) → maker program key ≡ made →
          EndRel program av floor i.Any (mean.made_by program lv key (kind_by key made) values st)
          (trees.reached (world program) (blocks program) lv' (compiled.target_by program st.heap.objects key values (kind_by key made)) values
          (beside st hs))
      reached_rel same None is = by (number_of key) refl
        where
          by : (number : Option ℕ) → number_of key ≡ number →
              EndRel program av floor i.Any (mean.made_by program lv key (primitive_kind number) values st)
              (trees.reached (world program) (blocks program) lv' (compiled.target_by program st.heap.objects key values (primitive_kind number)) values
              (beside st hs))
          by None e = no_source key None is refl lv values av floor _ st _
          by (Some j) e = end_any program av floor (primitive_info j) _ _ (numbered_rel (Some j) e is)
      reached_rel same (Some (d.Object x parents)) is = no_source key (Some (d.Object x parents)) is refl lv values av floor _ st _
      reached_rel same (Some (d.Predicate x parents test)) is = no_source key (Some (d.Predicate x parents test)) is refl lv values av floor _ st _
      reached_rel same (Some (d.Field field start changeable)) is = by (length key.specialisers == 1)
        where
          by : (so : Bool) → EndRel program av floor i.Any (mean.made_by program lv key (if so then kinds.Get field else kinds.Set field) values st)
              (trees.reached (world program) (blocks program) lv' (compiled.target_by program st.heap.objects key values
              (if so then kinds.Get field else kinds.Set field)) values (beside st hs))
          by true = sent_get_rel field values av floor st hs h
          by false = sent_set_rel field values av floor st hs h
      reached_rel same (Some (d.Method own formals body)) is =
          subst (λ (z : Variant). EndRel program av floor i.Any (mean.made_by program lv key kinds.Source values st)
          (trees.reached (world program) (blocks program) lv' (ToCode (record { method = key; variant = z })) values (beside st hs))) (sym same)
          (source_rel own formals body is)

  same_class : (heap : Heap) (value : Value) → class_of (things heap.objects) value ≡ class_of heap value
  same_class heap (v.Int n) = refl
  same_class heap (v.Text bytes) = refl
  same_class heap (v.Closure n) = refl
  same_class heap (v.Object n) = refl

  sound_at : (heap : Heap) (values : List Value) (j : ℕ) (value : Value) → AreSound heap values → slice_get values j ≡ Some value → IsSound heap value
  sound_at heap values j value sound e = all_at (IsSound heap) values j value e sound

  -- the variant that dispatch chooses suits the arguments
  chosen_suits : (heap : Heap) (key : MethodKey) (values : List Value) → AreSound heap values →
      AllSuit program heap (argument_infos (asked program) key c.General) values → (split : Option (ℕ × List Bytes)) →
      AllSuit program heap (argument_infos (asked program) key (compiled.variant_by heap.objects values split)) values
  chosen_suits heap key values sound suit None = suit
  chosen_suits heap key values sound suit (Some split) = by (slice_get values split.0) refl
    where
      by : (o : Option Value) → slice_get values split.0 ≡ o → AllSuit program heap
          (argument_infos (asked program) key (compiled.variant_at heap.objects split.1 split.0 o)) values
      by None same = suit
      by (Some value) same =
          clone_suits program well facts heap key values split.0 (class_of (things heap.objects) value) suit value same
          (subst (HasClass heap value) (sym (same_class heap value)) (has_class heap value (sound_at heap values split.0 value sound same)))
          (is_name_of split.1 (class_of (things heap.objects) value))

  module _ (lv : mean.Allowance) (lv' : trees.Levels) (fine : AreFine program lv) (r : LevelsRel program lv lv') where
    finds_rel : (av : List ℕ) (floor : ℕ) (sent : Sent) (key : MethodKey) (variant : Variant) (values : List Value) (st : mean.State)
        (hs : List trees.Closure) → IsHeap program st.heap → AreSound st.heap values → Rel program av floor st hs →
        found_by program sent values st ≡ look.One key →
        AllSuit program st.heap (argument_infos (asked program) key variant) values → SuitsKind (kind program key) values →
        EndRel program av floor (kind_info (kind program key)) (mean.answer program lv (message_of sent values) st)
        (trees.answer (world program) (blocks program) lv' (direct (kind program key) key variant values) (beside st hs))
    finds_rel av floor sent key variant values st hs heap sound h one suit own =
        subst (λ o. EndRel program av floor (kind_info (kind program key)) (mean.found program lv (message_of sent values) o st)
        (trees.answer (world program) (blocks program) lv' (direct (kind program key) key variant values) (beside st hs))) (sym one)
        (found_rel key variant lv lv' fine r values av floor st hs heap sound
        (facts.found_held st.heap (selector_of sent) values (below_of sent) key one) suit h (maker program key) refl own)

    sends_rel : (av : List ℕ) (floor : ℕ) (sent : Sent) (values : List Value) (st : mean.State) (hs : List trees.Closure) → IsHeap program st.heap →
        AreSound st.heap values → Rel program av floor st hs → (o : Look) → found_by program sent values st ≡ o →
        EndRel program av floor i.Any (mean.answer program lv (message_of sent values) st)
        (trees.reached (world program) (blocks program) lv' (compiled.target program st.heap.objects (selector_of sent) values o) values (beside st hs))
    sends_rel av floor sent values st hs heap sound h look.None is = subst
        (λ o. EndRel program av floor i.Any (mean.found program lv (message_of sent values) o st)
        (trees.Ends (Fails (e.NotUnderstood (selector_of sent))) (beside st hs))) (sym is) (e_halts hs tt h)
    sends_rel av floor sent values st hs heap sound h look.Many is = subst
        (λ o. EndRel program av floor i.Any (mean.found program lv (message_of sent values) o st)
        (trees.Ends (Fails (e.Ambiguous (selector_of sent))) (beside st hs))) (sym is) (e_halts hs tt h)
    sends_rel av floor sent values st hs heap sound h (look.One key) is =
        let held = facts.found_held st.heap (selector_of sent) values (below_of sent) key is in
        let suit = facts.held_suit st.heap values key heap h.plain sound held in
        let variant = compiled.variant_by st.heap.objects values ((asked program).clones key) in
        subst (λ o. EndRel program av floor i.Any (mean.found program lv (message_of sent values) o st)
        (trees.reached (world program) (blocks program) lv' (compiled.target program st.heap.objects (selector_of sent) values (look.One key)) values
        (beside st hs))) (sym is)
        (reached_rel key variant lv lv' fine r values av floor st hs heap sound held
        (chosen_suits st.heap key values sound suit ((asked program).clones key)) h refl (maker program key) refl)

    answer_rel : CallRel program (mean.answer program lv) (trees.answer (world program) (blocks program) lv')
    answer_rel = record {
      sends = λ av floor sent values st hs heap sound h.
          subst (λ o. EndRel program av floor i.Any (mean.answer program lv (message_of sent values) st)
          (trees.reached (world program) (blocks program) lv' (compiled.target program st.heap.objects (selector_of sent) values o) values
          (beside st hs))) (sym (facts.same_lookup st.heap (selector_of sent) values (below_of sent)))
          (sends_rel av floor sent values st hs heap sound h (found_by program sent values st) refl);
      finds = finds_rel;
      finds_none = λ av floor sent values st hs h is. subst (λ o. EndRel program av floor i.Any (mean.found program lv (message_of sent values) o st)
          (trees.Ends (Fails (e.NotUnderstood (selector_of sent))) (beside st hs))) (sym is) (e_halts hs tt h);
    }

  -- The allowances of so many calls correspond.
  pub levels_rel : (n : ℕ) → LevelsRel program (mean.allowance program n) (trees.levels (world program) (blocks program) n)
  unfolding mean.allowance trees.levels
  levels_rel zero = tt
  levels_rel (suc n) =
      let lower = levels_rel n in (
        answer_rel (mean.allowance program n) (trees.levels (world program) (blocks program) n) (allowance_fine program well n) lower,
        (λ message st. refl),
        lower,
      )
