-- Activations of trees mean those of the text: what is inlined, methods that are entered, closures that are evaluated.
use Rattle.std.proofs.Common.{◌≡◌, inl, inr, ℕ, zero, suc, ◌+◌, ◌-◌, ◌<◌, ◌≤◌, ◌==◌, ◌&&◌, Bool, true, false, if◌then◌else◌, List, [], ◌∷◌, ◌++◌}
use Rattle.std.proofs.Common.{length, map, Option, Some, None, slice_get, refl, sym, ap, ◌∙◌, subst, arith, append-nil}
use Rattle.std.proofs.lemmas.Bool.{and_parts, false≢true, eqb-true}
use Rattle.std.proofs.lemmas.Bool.Decides.{nat_tests}
use Rattle.std.proofs.lemmas.List.{length-map}
use Rattle.std.specs.Prelude.{nat_le}
use Rattle.vx_lists.specs.Members.{IsIn}
use Rattle.vx_lists.proofs.Each.{all_joined}
use Rattle.vx_lists.proofs.Finding.{found_is}
use Rattle.vx_lists.proofs.Places.{stands}
use Rattle.vx_names.specs.declared.key.MethodKey.{MethodKey}
use Rattle.vx_names.specs.declared.key.DeclKey.TheVariants as decl_keys
use Rattle.vx_syntax.specs.declared.decl.Decl.{Decl}
use Rattle.vx_syntax.specs.declared.decl.Decl.TheVariants as d
use Rattle.vx_syntax.specs.declared.expr.Body.{Body}
use Rattle.vx_syntax.specs.Counts.{size}
use Rattle.vx_syntax.specs.Expressions.{Bytes, is_among, with_formals}
use Rattle.vx_syntax.specs.Declarations.{named, formal_scope}
use Rattle.vx_syntax.specs.Written.{AreStated}
use Rattle.vx_program.specs.Program.{IsProgram, occupies}
use Rattle.vx_program.proofs.ByKey.{occupies_is}
use Rattle.vx_model.specs.declared.value.Value.{Value}
use Rattle.vx_model.specs.declared.value.Held.{Held}
use Rattle.vx_model.specs.declared.value.Heap.{Heap}
use Rattle.vx_model.specs.declared.report.RunError.TheVariants as e
use Rattle.vx_node.specs.declared.node.Info.{Info}
use Rattle.vx_node.specs.declared.node.Info.TheVariants as i
use Rattle.vx_node.specs.declared.node.Variant.{Variant}
use Rattle.vx_compilation.specs.declared.tree.TreeBlock.{TreeBlock}
use Rattle.vx_model.specs.Values.{nil}
use Rattle.vx_model.specs.Meaning as mean
use Rattle.vx_model.specs.Meaning.{Stop, Back, Fails, Out, Stuck}
use Rattle.vx_compilation.specs.Activations.{Slot, Plain, counted, opened, plain, unset}
use Rattle.vx_compilation.specs.TreeMeaning as trees
use Rattle.vx_compilation.specs.TreeMeaning.{CodeKey, Ended, Done, Goes, Stops, Mode, Stays, Leaves, mode_of, Message, Sent}
use Rattle.vx_compilation.specs.Inlining.{inline, inlined_size, is_flat_body}
use Rattle.vx_compilation.specs.Resolved as resolved
use Rattle.vx_compilation.specs.Resolved.{Names, Inlined, Inner, inner_at, nothing, inlined, numbers, statements, closed_scope, unknown, Need}
use Rattle.vx_compilation.specs.Resolved.{OfName, OfFormals, needs_of, formal_names, argument_infos, bound, primitive_info}
use Rattle.vx_model.specs.Kinds.{maker, source_by}
use Rattle.vx_compilation.specs.Compiled.{asked, blocks, world}
use Rattle.vx_model.proofs.Sound.{IsLater, AreSound, IsHeap, IsHeld, IsBinding, AreBindings, still_held}
use Rattle.vx_model.proofs.Bodies.{IsFine, AreFine, IsFrame}
use Rattle.vx_model.proofs.NeverStuck.{own_name, no_variable, no_formal, bound_behind, all_named, evaluated_fine}
use Rattle.vx_model.proofs.MethodTexts.{method_is}
use Rattle.vx_compilation.proofs.Slots.{at_front, argument_at, length_opened, puts}
use Rattle.vx_compilation.proofs.Covers.{AllSuit, suit_count, Covers, Has, Found, covers_same, given_scope, HasArguments, found_formals, has_formals}
use Rattle.vx_compilation.proofs.Covers.{unknown_suit, named_arguments, taken}
use Rattle.vx_compilation.proofs.Relations.{NotIn, not_in_next, Homes, Placed, placed_from, inside, closure_block, HeldRel, held_later, HeldAll}
use Rattle.vx_compilation.proofs.Relations.{beside, Rel, rel_floor, rel_bump, rel_next, BodyRel, EndRel, e_gives, e_halts, e_free, LevelsRel}
use Rattle.vx_compilation.proofs.Relations.{body_shift, caught_rel, passed_rel}
use Rattle.vx_compilation.proofs.Sending.{Facts, method_frame, begins, InlineOk, InnerOk, nothing_ok}
use Rattle.vx_compilation.proofs.Resolving.{LeavesOk, body_rel, statements_grow, last_nil}

module _ (program : List Decl) (well : IsProgram program) (facts : Facts program) where
  -- ---- activations of methods

  -- a method that is found stands in the program, with as many formals as specialisers
  pub source_is : (key own : MethodKey) (formals : List (Option Bytes)) (body : Body) → maker program key ≡ Some (d.Method own formals body) →
      (length formals ≡ length key.specialisers) × AreStated body.0 (formal_scope formals)
  source_is key own formals body is =
      let one = found_is (λ decl. occupies decl (decl_keys.Method key)) program (d.Method own formals body) is in
      let so = method_is program well own formals body one.0 in
      let same = own_key (occupies_is (d.Method own formals body) (decl_keys.Method key) one.1) in
      (so.0 ∙ ap (λ (z : MethodKey). length z.specialisers) same, so.1)
    where
      own_key : IsIn (decl_keys.Method key) (decl_keys.Method own ∷ []) → own ≡ key
      own_key (inl e) = cc
      own_key (inr e) = absurd e

  pub given_bound : (heap : Heap) (formals : List (Option Bytes)) (values : List Value) → AreSound heap values → AreBindings heap (given_scope formals values)
  given_bound heap [] values all = tt
  given_bound heap (formal ∷ formals) [] all = tt
  given_bound heap (None ∷ formals) (value ∷ values) all = given_bound heap formals values all.1
  given_bound heap (Some name ∷ formals) (value ∷ values) all = (all.0, given_bound heap formals values all.1)

  pub given_names : (formals : List (Option Bytes)) (values : List Value) → length formals ≡ length values →
      map own_name (given_scope formals values) ≡ named formals
  given_names [] [] e = refl
  given_names [] (value ∷ values) e = absurd (omega (arith, e))
  given_names (formal ∷ formals) [] e = absurd (omega (arith, e))
  given_names (None ∷ formals) (value ∷ values) e = given_names formals values (omega (arith, e))
  given_names (Some name ∷ formals) (value ∷ values) e = ap (λ z. name ∷ z) (given_names formals values (omega (arith, e)))

  pub frame_sound : (heap : Heap) (key : MethodKey) (formals : List (Option Bytes)) (values : List Value) (home : ℕ) → AreSound heap values →
      IsFrame heap (formal_scope formals) (method_frame key formals values home)
  frame_sound heap key formals values home all = record {
    given_values = all;
    bindings = given_bound heap formals values all;
    covers =
        λ z h. absurd (false≢true (no_variable [] (named formals) z h));
  }

  pub method_covers : (heap : Heap) (n k : ℕ) (key : MethodKey) (formals : List (Option Bytes)) (infos : List Info) (values : List Value) (home : ℕ)
      (ls : List Slot) (needs : List Need) → length formals ≡ length values → n + length values ≤ k → AllSuit program heap infos values →
      HasArguments program n values ls →
      Covers program heap k needs (resolved.formal_scope n formals infos) (method_frame key formals values home) ls
  method_covers heap n k key formals infos values home ls needs len le suit at = record { has = has }
    where
      has : (need : Need) → IsIn need needs → Has program heap k (resolved.formal_scope n formals infos) (method_frame key formals values home) ls need
      has (OfName name) j =
          subst (λ z. Found program heap k (bound name z) (mean.bound name (given_scope formals values)) ls) (append-nil (formal_names n formals infos))
          (subst (λ z. Found program heap k (bound name (formal_names n formals infos ++ [])) (mean.bound name z) ls) (append-nil (given_scope formals values))
          (found_formals program heap n k formals infos values [] [] ls name len le suit at tt))
      has OfFormals j = has_formals program heap n k infos values ls le suit at

  -- ---- what is inlined is right, at each depth

  pub method_ok : (inner : Inner) → InnerOk program well facts inner → (key own : MethodKey) (infos : List Info) (n : ℕ) (formals : List (Option Bytes))
      (body : Body) → maker program key ≡ Some (d.Method own formals body) → is_flat_body body.0 ≡ true →
      InlineOk program well facts key infos n (record {
        xs = numbers n (length formals);
        acts =
            (statements (asked program) key inner (resolved.formal_scope n formals infos) 1 (n + length formals) body.0).acts;
        info =
            (statements (asked program) key inner (resolved.formal_scope n formals infos) 1 (n + length formals) body.0).info;
        next =
            (statements (asked program) key inner (resolved.formal_scope n formals infos) 1 (n + length formals) body.0).next;
      })
  method_ok inner ok key own infos n formals body is flat =
      let n1 = n + length formals in
      let all = statements (asked program) key inner (resolved.formal_scope n formals infos) 1 n1 body.0 in
      let grown = statements_grow program well facts key inner ok body.0 (resolved.formal_scope n formals infos) 1 n1 in
      let so = source_is key own formals body is in
      record {
        low = omega (arith, grown);
        formals = formals;
        source = body;
        method = own;
        is = is;
        count = so.0;
        runs = λ av floor values count c0 ph lv lv' fine r ls le st hs heap sound suit h.
            let p = puts n values ls (omega (arith, le, grown, count)) in
            let go = mean.statements program body.0 lv (method_frame key formals values st.next) (nil program) (begins st) in
            let go' : List Slot → trees.State → Done = trees.statements (world program) Stays
            (map (trees.statement (world program) (blocks program)) all.acts) (record { code = c0; home = ph }) lv' in
            let is_put = ap (λ z. trees.placed (numbers n z) values ls) count ∙ p.1.is in
            subst (λ o. BodyRel program (st.next ∷ av) (suc st.next) n all.info ls Stays st.next go (trees.if_stored o (counted (beside st hs)) go'))
            (sym is_put)
            (body_shift program (st.next ∷ av) (suc st.next) n n1 all.info ls p.0 Stays st.next _ _ (omega arith) p.1.agree
            (body_rel program well facts key inner ok Stays body.0 (resolved.formal_scope n formals infos) (formal_scope formals)
            (method_frame key formals values st.next) c0 1 n1 ph (st.next ∷ av) (suc st.next) so.1 (inr flat) tt lv lv' fine r p.0 (begins st) hs heap
            (frame_sound st.heap key formals values st.next sound)
            (method_covers st.heap n n1 key formals infos values st.next p.0 (needs_of (asked program) body.0) count (omega (arith, count)) suit
            (record { at = p.1.at }))
            (omega (arith, le, p.1.agree.long)) (nil program) (last_nil program well facts key inner ok body.0) (rel_bump program av floor st hs h)));
      }

  pub some_in : (a b : Inlined) → Some a ≡ Some b → a ≡ b
  some_in a b e = ap (λ (o : Option Inlined). elim o [ Some z ↦ z | None ↦ a ]) e

  pub inline_if : (inner : Inner) → InnerOk program well facts inner → (key own : MethodKey) (infos : List Info) (n : ℕ) (formals : List (Option Bytes))
      (body : Body) → maker program key ≡ Some (d.Method own formals body) → (so : Bool) → (so ≡ true → is_flat_body body.0 ≡ true) → (i : Inlined) →
      inlined (asked program) inner key (if so then Some (record { formals = formals; body = body }) else None) infos n ≡ Some i →
      InlineOk program well facts key infos n i
  inline_if inner ok key own infos n formals body is true flat i e = subst (λ z. InlineOk program well facts key infos n z) (some_in _ i e)
      (method_ok inner ok key own infos n formals body is (flat refl))
  inline_if inner ok key own infos n formals body is false flat i e = absurd (let no : ⊥ = cc in no)

  pub inline_by : (inner : Inner) → InnerOk program well facts inner → (key : MethodKey) (infos : List Info) (n : ℕ) (o : Option Decl) → maker program key ≡ o →
      (i : Inlined) → inlined (asked program) inner key (inline (source_by o)) infos n ≡ Some i → InlineOk program well facts key infos n i
  inline_by inner ok key infos n None is i e = absurd (let no : ⊥ = cc in no)
  inline_by inner ok key infos n (Some (d.Object x parents)) is i e = absurd (let no : ⊥ = cc in no)
  inline_by inner ok key infos n (Some (d.Predicate x parents test)) is i e = absurd (let no : ⊥ = cc in no)
  inline_by inner ok key infos n (Some (d.Field field start changeable)) is i e = absurd (let no : ⊥ = cc in no)
  inline_by inner ok key infos n (Some (d.Method own formals body)) is i e =
      inline_if inner ok key own infos n formals body is (nat_le (size body) inlined_size && is_flat_body body.0)
      (λ so. (and_parts (nat_le (size body) inlined_size) (is_flat_body body.0) so).1) i e

  pub asked_inline : (key : MethodKey) → (asked program).inline key ≡ inline (source_by (maker program key))
  unfolding asked
  asked_inline key = refl

  pub inner_ok : (depth : ℕ) → InnerOk program well facts (inner_at (asked program) depth)
  inner_ok zero = nothing_ok program well facts
  inner_ok (suc depth) = λ key infos n i e. inline_by (inner_at (asked program) depth) (inner_ok depth) key infos n (maker program key) refl i
      (ap (λ z. inlined (asked program) (inner_at (asked program) depth) key z infos n) (sym (asked_inline key)) ∙ e)

  -- ---- methods that are entered

  abbrev pub method_statements : MethodKey → List Info → List (Option Bytes) → Body → resolved.Statements
  method_statements key infos formals body = statements (asked program) key (inner_at (asked program) 2) (resolved.formal_scope 0 formals infos) 1
      (length formals) body.0

  abbrev pub method_block : MethodKey → List Info → List (Option Bytes) → Body → TreeBlock
  method_block key infos formals body = record {
    locals = (method_statements key infos formals body).next;
    captures = 0;
    formals = infos;
    acts =
        (method_statements key infos formals body).acts;
  }

  pub asked_body : (key : MethodKey) → (asked program).body key ≡ source_by (maker program key)
  unfolding asked
  asked_body key = refl

  pub method_placed : (key own : MethodKey) (variant : Variant) (formals : List (Option Bytes)) (body : Body) →
      maker program key ≡ Some (d.Method own formals body) →
      Placed program (record { method = key; variant = variant }) 0 (method_block key (argument_infos (asked program) key variant) formals body ∷
      (method_statements key (argument_infos (asked program) key variant) formals body).blocks)
  method_placed key own variant formals body is =
      let infos = argument_infos (asked program) key variant in
      placed_from program (record { method = key; variant = variant }) (method_block key infos formals body ∷
      (method_statements key infos formals body).blocks) []
      (λ j. let z : 0 + j ≡ j = omega arith in
      ap (λ o. slice_get (resolved.source_blocks (asked program) key infos o) (0 + j)) (asked_body key ∙ ap source_by is)
      ∙ ap (slice_get (method_block key infos formals body ∷ (method_statements key infos formals body).blocks)) z)

  pub same_count : (a b : ℕ) → a ≡ b → (a == b) ≡ true
  same_count a b e = grind (arith, nat_tests)

  pub enter_rel : (key own : MethodKey) (variant : Variant) (formals : List (Option Bytes)) (body : Body) →
      maker program key ≡ Some (d.Method own formals body) → (lower : mean.Allowance) (lower' : trees.Levels) → AreFine program lower →
      LevelsRel program lower lower' → (values : List Value) (av : List ℕ) (floor : ℕ) (st : mean.State) (hs : List trees.Closure) →
      IsHeap program st.heap → AreSound st.heap values → length formals ≡ length values →
      AllSuit program st.heap (argument_infos (asked program) key variant) values → Rel program av floor st hs →
      EndRel program av floor i.Any (mean.entered program lower key formals body values st)
      (trees.entered (world program) (blocks program) lower' (record { method = key; variant = variant })
      (blocks program (record { method = key; variant = variant }) 0) values (beside st hs))
  enter_rel key own variant formals body is lower lower' fine r values av floor st hs heap sound count suit h =
      let code : CodeKey = record { method = key; variant = variant } in
      let infos = argument_infos (asked program) key variant in
      let all = method_statements key infos formals body in
      let block = method_block key infos formals body in
      let placed = method_placed key own variant formals body is in
      let so = source_is key own formals body is in
      let ok = inner_ok 2 in
      let ls = opened all.next [] values in
      let text = named_arguments formals values count (λ scope. mean.caught st.next
      (mean.body_of program body lower (record { method = key; arguments = values; home = st.next; scope = scope }) (begins st)))
      (mean.Stops Stuck st) in
      let entry = statements_grow program well facts key (inner_at (asked program) 2) ok body.0 (resolved.formal_scope 0 formals infos) 1 (length formals) in
      subst (λ z. EndRel program av floor i.Any z (trees.entered (world program) (blocks program) lower' code (blocks program code 0) values
      (beside st hs))) (sym text)
      (subst (λ o. EndRel program av floor i.Any (mean.caught st.next (mean.statements program body.0 lower (method_frame key formals values st.next)
      (nil program) (begins st))) (trees.entered (world program) (blocks program) lower' code o values (beside st hs))) (sym placed.0)
      (subst (λ z. EndRel program av floor i.Any (mean.caught st.next (mean.statements program body.0 lower (method_frame key formals values st.next)
      (nil program) (begins st))) (trees.if_fit z Stuck (beside st hs)
      (λ state'. trees.caught state'.next (trees.block (world program) (blocks program) 0 block (record { code = code; home = state'.next }) lower' ls
      (counted state'))))) (sym (same_count (length infos) (length values) (suit_count program st.heap infos values suit)))
      (caught_rel program av floor (length formals) all.info ls st.next _ _ h.from
      (body_rel program well facts key (inner_at (asked program) 2) ok Stays body.0 (resolved.formal_scope 0 formals infos) (formal_scope formals)
      (method_frame key formals values st.next) code 1 (length formals) st.next av (suc st.next) so.1
      (inl (
        record { home = refl; out = not_in_next av st.next h.low; low = omega arith; same = refl; code_same = refl; is_top = refl; one = omega arith },
        placed.1,
      )) tt lower lower' fine r ls (begins st) hs heap
      (frame_sound st.heap key formals values st.next sound)
      (method_covers st.heap 0 (length formals) key formals infos values st.next ls (needs_of (asked program) body.0) count (omega (arith, count)) suit
      (record { at = λ j u e. argument_at [] values (unset (all.next - 0 - length values)) j u e }))
      (length_opened all.next [] values) (nil program) (last_nil program well facts key (inner_at (asked program) 2) ok body.0)
      (rel_next program av floor st hs h)))))

  -- ---- closures that are evaluated

  -- what is known of a closure in both, where its home is below f
  pub record ClosIs (av : List ℕ) (f : ℕ) (heap : Heap) (c : Held) (h : trees.Closure) : Type 0 where
    is : HeldRel program heap c h
    out : NotIn c.home av
    low : c.home < f
    held : IsHeld heap c

  abbrev pub AtOk : List ℕ → ℕ → Heap → Option Held → Option trees.Closure → Type 0
  AtOk av f heap None None = Unit {0}
  AtOk av f heap None (Some h) = ⊥
  AtOk av f heap (Some c) None = ⊥
  AtOk av f heap (Some c) (Some h) = ClosIs av f heap c h

  pub at_ok : (heap : Heap) (cs : List Held) (hs : List trees.Closure) (j : ℕ) (av : List ℕ) (f : ℕ) → HeldAll program heap cs hs → Homes cs f av →
      ((k : ℕ) (c : Held) → slice_get cs k ≡ Some c → IsHeld heap c) → AtOk av f heap (slice_get cs j) (slice_get hs j)
  at_ok heap [] [] j av f h g s = tt
  at_ok heap [] (b ∷ hs) j av f h g s = absurd h
  at_ok heap (c ∷ cs) [] j av f h g s = absurd h
  at_ok heap (c ∷ cs) (b ∷ hs) zero av f h g s = record { is = h.0; out = g.1; low = g.0; held = s 0 c refl }
  at_ok heap (c ∷ cs) (b ∷ hs) (suc j) av f h g s = at_ok heap cs hs j av f h.1 g.2 (λ k x e. s (suc k) x e)

  -- the activation of a closure
  abbrev pub closure_frame : Held → List Value → mean.Frame
  closure_frame c values = record { method = c.method; arguments = c.arguments; home = c.home; scope = given_scope (map Some c.formals) values ++ c.scope }

  -- what a closure captured are the first locals of its activation
  pub captured_kept : (cs : List Slot) (more : List Slot) (x : ℕ) → x < length cs → slice_get (cs ++ more) x ≡ slice_get cs x
  captured_kept cs more x lt = let one = stands cs x lt in at_front cs more x one.0 one.1 ∙ sym one.1

  pub running_covers : (heap : Heap) (c : Held) (h : trees.Closure) (r : HeldRel program heap c h) (values : List Value) (locals : ℕ) →
      length c.formals ≡ length values →
      Covers program heap (length r.xs + length c.formals) (needs_of (asked program) c.body.0) (closed_scope r.xs c.formals r.outer)
      (closure_frame c values) (opened locals h.captures values)
  running_covers heap c h r values locals count = record { has = has }
    where
      n : ℕ
      n = length r.xs + length c.formals

      more : List Slot
      more = unset (locals - length h.captures - length values)

      old : Covers program heap (length r.xs + length c.formals) (needs_of (asked program) c.body.0) (taken program r.xs r.outer)
          (record { method = c.method; arguments = c.arguments; home = c.home; scope = c.scope })
          (h.captures ++ (plain values ++ unset (locals - length h.captures - length values)))
      old = covers_same program heap (length r.xs) (length r.xs + length c.formals) (omega arith) (needs_of (asked program) c.body.0)
          (taken program r.xs r.outer) (record { method = c.method; arguments = c.arguments; home = c.home; scope = c.scope }) h.captures
          (h.captures ++ (plain values ++ unset (locals - length h.captures - length values)))
          (λ x lt. captured_kept h.captures (plain values ++ unset (locals - length h.captures - length values)) x (omega (arith, lt, r.long))) r.covers

      has : (need : Need) → IsIn need (needs_of (asked program) c.body.0) →
          Has program heap (length r.xs + length c.formals) (closed_scope r.xs c.formals r.outer) (closure_frame c values)
          (opened locals h.captures values) need
      has (OfName name) j =
          found_formals program heap (length r.xs) (length r.xs + length c.formals) (map Some c.formals) (unknown c.formals) values
          (taken program r.xs r.outer).names c.scope (opened locals h.captures values) name
          (length-map c.formals Some ∙ count) (omega (arith, count)) (unknown_suit program heap c.formals values count)
          (record {
            at = λ k u e. subst (λ z. slice_get (opened locals h.captures values) (z + k) ≡ Some (Plain u)) r.long
                (argument_at h.captures values (unset (locals - length h.captures - length values)) k u e);
          })
          (old.has (OfName name) j)
      has OfFormals j = old.has OfFormals j

  -- as the program's own proof has it: a closure's activation is sound
  pub closure_sound : (heap : Heap) (c : Held) (values : List Value) (h : IsHeld heap c) → AreSound heap values → length c.formals ≡ length values →
      IsFrame heap (with_formals h.static c.formals) (closure_frame c values)
  closure_sound heap c values h sound count = record {
    given_values = h.given;
    bindings = all_joined (IsBinding heap) (given_scope (map Some c.formals) values) c.scope (given_bound heap (map Some c.formals) values sound) h.bindings;
    covers = λ z var.
        let old = no_variable h.static c.formals z var in
        let other = ap (λ names. is_among names z) (given_names (map Some c.formals) values (length-map c.formals Some ∙ count) ∙ all_named c.formals) ∙
        no_formal h.static c.formals z h.fresh_formals old in
        let one = h.covers z old in
        (one.0, bound_behind (given_scope (map Some c.formals) values) c.scope z other ∙ one.1);
  }

  pub running_rel : (av : List ℕ) (floor f : ℕ) (st : mean.State) (hs : List trees.Closure) (c : Held) (b : trees.Closure) (k : ClosIs av f st.heap c b) →
      floor ≤ f → (lv : mean.Allowance) (lv' : trees.Levels) → AreFine program lv → LevelsRel program lv lv' → (values : List Value) →
      length c.formals ≡ length values → IsHeap program st.heap → AreSound st.heap values → Rel program av f st hs →
      EndRel program av floor i.Any (mean.evaluated program lv c values st)
      (trees.evaluated (world program) (blocks program) lv' b (closure_block program k.is.xs c.formals
      (inside program b.code.method k.is.xs k.is.outer b.block c.formals c.body.0)) values (beside st hs))
  running_rel av floor f st hs c b k le lv lv' fine r values count heap sound h =
      let xs = k.is.xs in
      let all = inside program b.code.method xs k.is.outer b.block c.formals c.body.0 in
      let n = length xs + length c.formals in
      let text = named_arguments (map Some c.formals) values (length-map c.formals Some ∙ count)
      (λ scope. mean.body_of program c.body lv (record { method = c.method; arguments = c.arguments; home = c.home; scope = scope ++ c.scope }) st)
      (mean.Stops Stuck st) in
      let frame = closure_frame c values in
      let leaves = subst (λ z. LeavesOk program well facts b.code.method (inner_at (asked program) 2) (inner_ok 2) z frame b.home av) (sym k.is.mode)
      (k.is.home, k.out) in
      subst (λ z. EndRel program av floor i.Any z (trees.evaluated (world program) (blocks program) lv' b (closure_block program xs c.formals all) values
      (beside st hs))) (sym text)
      (passed_rel program av floor f n all.info (opened all.next b.captures values) (mode_of b.block) c.home k.is.mode le _ _
      (body_rel program well facts b.code.method (inner_at (asked program) 2) (inner_ok 2) (mode_of b.block) c.body.0 (closed_scope xs c.formals k.is.outer)
      (with_formals k.held.static c.formals) frame b.code (suc b.block) n b.home av f k.held.stated
      (inl (
        record { home = k.is.home; out = k.out; low = k.low; same = k.is.method; code_same = refl; is_top = refl; one = omega arith },
        k.is.nested,
      )) leaves lv lv' fine r (opened all.next b.captures values) st hs heap
      (closure_sound st.heap c values k.held sound count) (running_covers st.heap c b k.is values all.next count) (length_opened all.next b.captures values)
      (nil program) (last_nil program well facts b.code.method (inner_at (asked program) 2) (inner_ok 2) c.body.0) h))

  -- a closure that was there still is
  pub still_is : (av : List ℕ) (f g : ℕ) (old new : Heap) → IsLater old new → f ≤ g → (c : Held) (b : trees.Closure) → ClosIs av f old c b → ClosIs av g new c b
  still_is av f g old new later le c b k = record {
    is = held_later program later c b k.is;
    out = k.out;
    low = omega (arith, k.low);
    held =
        still_held later c k.held;
  }

  pub evaluation_rel : (so : Bool) (av : List ℕ) (floor f : ℕ) (st : mean.State) (hs : List trees.Closure) (c : Held) (b : trees.Closure)
      (k : ClosIs av f st.heap c b) → floor ≤ f → (lv : mean.Allowance) (lv' : trees.Levels) → AreFine program lv → LevelsRel program lv lv' →
      (values : List Value) → (length c.formals == length values) ≡ so → IsHeap program st.heap → AreSound st.heap values → Rel program av f st hs →
      EndRel program av floor i.Any (if so then mean.evaluation program lv c values st else mean.Stops (Fails (e.ClosureArity (length values))) st)
      (trees.if_fit so (Fails (e.ClosureArity (length values))) (beside st hs)
      (trees.evaluation (world program) (blocks program) lv' b (closure_block program k.is.xs c.formals
      (inside program b.code.method k.is.xs k.is.outer b.block c.formals c.body.0)) values))
  evaluation_rel false av floor f st hs c b k le lv lv' fine r values count heap sound h = e_halts hs tt (rel_floor program av floor f st hs le h)
  evaluation_rel true av floor f st hs c b k le [] [] fine r values count heap sound h = e_halts hs tt (rel_floor program av floor f st hs le h)
  evaluation_rel true av floor f st hs c b k le [] (d ∷ lv') fine r values count heap sound h = absurd r
  evaluation_rel true av floor f st hs c b k le (d ∷ lv) [] fine r values count heap sound h = absurd r
  evaluation_rel true av floor f st hs c b k le (d ∷ lv) (d' ∷ lv') fine r values count heap sound h =
      running_rel av floor f st hs c b k le lv lv' fine.1 r.2 values (eqb-true (length c.formals) (length values) count) heap sound h

  pub again_rel : (av : List ℕ) (floor f : ℕ) → floor ≤ f → (old : Heap) (d : mean.Done) (d' : Ended) (go : mean.State → mean.Done)
      (go' : trees.State → Ended) → IsFine program old d → EndRel program av f i.Any d d' →
      ((st : mean.State) (hs : List trees.Closure) → IsHeap program st.heap → IsLater old st.heap → Rel program av f st hs →
      EndRel program av floor i.Any (go st) (go' (beside st hs))) → EndRel program av floor i.Any (mean.after d (λ value. go)) (trees.again d' go')
  again_rel av floor f le old d d' go go' fine (e_gives {st = st} hs u h) g = g st hs fine.0 fine.1 h
  again_rel av floor f le old d d' go go' fine (e_halts {st = st} hs o h) g = e_halts hs o (rel_floor program av floor f st hs le h)
  again_rel av floor f le old d d' go go' fine e_free g = e_free

  pub turns_rel : (av : List ℕ) (floor f : ℕ) (st : mean.State) (hs : List trees.Closure) (c : Held) (b : trees.Closure) (k : ClosIs av f st.heap c b) →
      floor ≤ f → length c.formals ≡ 0 → (lv : mean.Allowance) (lv' : trees.Levels) → AreFine program lv → LevelsRel program lv lv' →
      IsHeap program st.heap → Rel program av f st hs →
      (tb : TreeBlock) → blocks program b.code b.block ≡ Some tb → EndRel program av floor i.Any (mean.turns program lv c st)
      (trees.turns (world program) (blocks program) lv' b tb (beside st hs))
  turns_rel av floor f st hs c b k le none [] [] fine r heap h tb is = e_halts hs tt (rel_floor program av floor f st hs le h)
  turns_rel av floor f st hs c b k le none [] (d ∷ lv') fine r heap h tb is = absurd r
  turns_rel av floor f st hs c b k le none (d ∷ lv) [] fine r heap h tb is = absurd r
  turns_rel av floor f st hs c b k le none (d ∷ lv) (d' ∷ lv') fine r heap h tb is =
      let same : Some tb ≡ Some (closure_block program k.is.xs c.formals (inside program b.code.method k.is.xs k.is.outer b.block c.formals c.body.0)) =
      sym is ∙ k.is.block in
      again_rel av floor f le st.heap (mean.evaluated program lv c [] st) _ (mean.turns program lv c) (trees.turns (world program) (blocks program) lv' b tb)
      (evaluated_fine program well lv fine.1 c [] st heap k.held tt none)
      (subst (λ z. EndRel program av f i.Any (mean.evaluated program lv c [] st)
      (trees.evaluated (world program) (blocks program) lv' b z [] (beside st hs))) (sym (some_block tb _ same))
      (running_rel av f f st hs c b k (omega arith) lv lv' fine.1 r.2 [] none heap tt h))
      (λ st2 hs2 heap2 later h2. turns_rel av floor f st2 hs2 c b (still_is av f f st.heap st2.heap later
      (omega arith) c b k) le none lv lv' fine.1 r.2 heap2 h2 tb is)
    where
      some_block : (a b : TreeBlock) → Some a ≡ Some b → a ≡ b
      some_block a b e = ap (λ (o : Option TreeBlock). elim o [ Some z ↦ z | None ↦ a ]) e

  pub loop_rel : (so : Bool) (av : List ℕ) (floor f : ℕ) (st : mean.State) (hs : List trees.Closure) (c : Held) (b : trees.Closure)
      (k : ClosIs av f st.heap c b) → floor ≤ f → (lv : mean.Allowance) (lv' : trees.Levels) → AreFine program lv → LevelsRel program lv lv' →
      (length c.formals == 0) ≡ so → IsHeap program st.heap → Rel program av f st hs →
      (tb : TreeBlock) → blocks program b.code b.block ≡ Some tb → EndRel program av floor i.Any
      (if so then mean.turns program lv c st else mean.Stops (Fails (e.ClosureArity 0)) st)
      (trees.if_fit so (Fails (e.ClosureArity 0)) (beside st hs) (trees.turns (world program) (blocks program) lv' b tb))
  loop_rel false av floor f st hs c b k le lv lv' fine r count heap h tb is = e_halts hs tt (rel_floor program av floor f st hs le h)
  loop_rel true av floor f st hs c b k le lv lv' fine r count heap h tb is =
      turns_rel av floor f st hs c b k le (eqb-true (length c.formals) 0 count) lv lv' fine r heap h tb is

  pub length_unknown : {A : Type 0} (formals : List A) → length (unknown formals) ≡ length formals
  length_unknown [] = refl
  length_unknown (formal ∷ formals) = ap suc (length_unknown formals)

  pub evaluates_rel : (o : Option Held) (o' : Option trees.Closure) (av : List ℕ) (floor f : ℕ) (st : mean.State) (hs : List trees.Closure) →
      AtOk av f st.heap o o' → floor ≤ f → (lv : mean.Allowance) (lv' : trees.Levels) → AreFine program lv → LevelsRel program lv lv' →
      (values : List Value) → IsHeap program st.heap → AreSound st.heap values → Rel program av f st hs →
      EndRel program av floor i.Any (mean.with_closure_of (length values) o st (λ held. mean.evaluation program lv held values st))
      (trees.evaluates (world program) (blocks program) lv' o' values (beside st hs))
  evaluates_rel None None av floor f st hs a le lv lv' fine r values heap sound h = e_free
  evaluates_rel None (Some b) av floor f st hs a le lv lv' fine r values heap sound h = absurd a
  evaluates_rel (Some c) None av floor f st hs a le lv lv' fine r values heap sound h = absurd a
  evaluates_rel (Some c) (Some b) av floor f st hs a le lv lv' fine r values heap sound h =
      subst (λ o. EndRel program av floor i.Any (mean.with_closure_of (length values) (Some c) st (λ held. mean.evaluation program lv held values st))
      (trees.evaluation_of (world program) (blocks program) lv' b o values (beside st hs))) (sym a.is.block)
      (subst (λ z. EndRel program av floor i.Any (mean.with_closure_of (length values) (Some c) st (λ held. mean.evaluation program lv held values st))
      (trees.if_fit (z == length values) (Fails (e.ClosureArity (length values))) (beside st hs)
      (trees.evaluation (world program) (blocks program) lv' b (closure_block program a.is.xs c.formals
      (inside program b.code.method a.is.xs a.is.outer b.block c.formals c.body.0)) values))) (sym (length_unknown c.formals))
      (evaluation_rel (length c.formals == length values) av floor f st hs c b a le lv lv' fine r values refl heap sound h))

  pub repeats_rel : (o : Option Held) (o' : Option trees.Closure) (av : List ℕ) (floor f : ℕ) (st : mean.State) (hs : List trees.Closure) →
      AtOk av f st.heap o o' → floor ≤ f → (lv : mean.Allowance) (lv' : trees.Levels) → AreFine program lv → LevelsRel program lv lv' →
      IsHeap program st.heap → Rel program av f st hs →
      EndRel program av floor i.Any (mean.with_closure_of 0 o st (λ held. mean.turns program lv held st))
      (trees.repeats (world program) (blocks program) lv' o' (beside st hs))
  repeats_rel None None av floor f st hs a le lv lv' fine r heap h = e_free
  repeats_rel None (Some b) av floor f st hs a le lv lv' fine r heap h = absurd a
  repeats_rel (Some c) None av floor f st hs a le lv lv' fine r heap h = absurd a
  repeats_rel (Some c) (Some b) av floor f st hs a le lv lv' fine r heap h =
      let tb = closure_block program a.is.xs c.formals (inside program b.code.method a.is.xs a.is.outer b.block c.formals c.body.0) in
      subst (λ o. EndRel program av floor i.Any (mean.with_closure_of 0 (Some c) st (λ held. mean.turns program lv held st))
      (trees.turns_of (world program) (blocks program) lv' b o (beside st hs))) (sym a.is.block)
      (subst (λ z. EndRel program av floor i.Any (mean.with_closure_of 0 (Some c) st (λ held. mean.turns program lv held st))
      (trees.if_fit (z == 0) (Fails (e.ClosureArity 0)) (beside st hs) (trees.turns (world program) (blocks program) lv' b tb)))
      (sym (length_unknown c.formals))
      (loop_rel (length c.formals == 0) av floor f st hs c b a le lv lv' fine r refl heap h tb a.is.block))
