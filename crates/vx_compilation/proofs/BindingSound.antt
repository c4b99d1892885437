-- Static binding is sound: what a send is bound to is what lookup finds, for all values that fit what is known of them.
use Rattle.std.proofs.Common.{◌≡◌, ◌⊎◌, inl, inr, ℕ, zero, suc, ◌<◌, ◌==◌, length, ◌&&◌, ◌||◌, not, Bool, true, false, if◌then◌else◌, List, [], ◌∷◌}
use Rattle.std.proofs.Common.{filter, codes, Option, Some, None, refl, sym, ap, ◌∙◌, subst, arith}
use Rattle.std.specs.List.{find, list_all, list_any}
use Rattle.std.specs.Str.{bytes_eq}
use Rattle.std.proofs.lemmas.Bool.{and_parts, and_from, or_cases, or_right, false≢true, cases_Bool, cond-true, cond-false, not-true}
use Rattle.vx_lists.specs.Members.{IsIn}
use Rattle.vx_lists.proofs.Finding.{found_is, left_is, is_left}
use Rattle.vx_lists.proofs.Members.{any_in, each}
use Rattle.vx_lists.proofs.Texts.{same_bytes, bytes_same}
use Rattle.vx_names.specs.declared.key.Selector.{Selector}
use Rattle.vx_names.specs.declared.key.MethodKey.{MethodKey}
use Rattle.vx_names.specs.declared.key.FieldKey.{FieldKey}
use Rattle.vx_syntax.specs.declared.decl.Start.{Start}
use Rattle.vx_names.specs.declared.key.DeclKey.TheVariants as decl_keys
use Rattle.vx_syntax.specs.declared.decl.Decl.{Decl}
use Rattle.vx_syntax.specs.declared.decl.Decl.TheVariants as d
use Rattle.vx_syntax.specs.Expressions.{Bytes}
use Rattle.vx_syntax.specs.Declarations.{any}
use Rattle.vx_program.specs.Prelude.{prelude, is_primitive}
use Rattle.vx_program.specs.Program.{IsProgram, Leads, here, up, leads, is_there, is_named, is_name_of, parents_of, occupied, occupies, getter, setter}
use Rattle.vx_program.specs.Methods.{methods}
use Rattle.vx_program.proofs.ByKey.{occupies_is}
use Rattle.vx_program.proofs.Chains.{leads_is, leads_finds}
use Rattle.vx_model.specs.declared.value.Value.{Value}
use Rattle.vx_model.specs.declared.value.Value.TheVariants as v
use Rattle.vx_model.specs.declared.value.Heap.{Heap}
use Rattle.vx_model.specs.declared.value.Thing.{Thing}
use Rattle.vx_model.specs.declared.look.Look.TheVariants as look
use Rattle.vx_node.specs.declared.node.Info.{Info}
use Rattle.vx_node.specs.declared.node.Info.TheVariants as i
use Rattle.vx_node.specs.declared.kind.Kind.{Kind}
use Rattle.vx_node.specs.declared.kind.Kind.TheVariants as kinds
use Rattle.vx_node.specs.declared.answer.Bound.TheVariants as b
use Rattle.vx_model.specs.Order.{plain_names, cone, base, IsBase, plain, first}
use Rattle.vx_model.specs.Order as orders
use Rattle.vx_model.specs.Holds.{class_of, holds}
use Rattle.vx_model.specs.Lookup.{lookup, applicable, are_held, are_above, differ, is_more_specific, is_below, same_method, IsBest}
use Rattle.vx_compilation.specs.Infos.{Fits, AllFit}
use Rattle.vx_compilation.specs.Binding.{is_over, are_over, goes_before, is_plain, is_sure, is_possible, at_each, is_candidate, is_bound_to, chosen, bind}
use Rattle.vx_model.specs.Kinds.{kind, kind_by, maker, number_of, primitive_kind}
use Rattle.vx_compilation.specs.Compiled.{asked, order, heads, sorted, with_kind}
use Rattle.vx_model.proofs.Orders.{on}
use Rattle.vx_model.proofs.Heights.{height, one_named, lower}
use Rattle.vx_model.proofs.Cones.{up_is, is_up, cone_is, is_cone}
use Rattle.vx_model.proofs.Bases.{plain_in, in_plain, has_base}
use Rattle.vx_model.proofs.Holding.{holds_is, holds_plain, holds_parent, parent_plain}
use Rattle.vx_model.proofs.Choices.{is_one, same_is}
use Rattle.vx_model.proofs.NeverStuck.{method_made}
use Rattle.vx_compilation.specs.BindingIsSound.{IsThere, AreThere, ThingsArePlain, IsObject, IsFirstObject, SuitsKind, BindingIsSound}
use Rattle.vx_lists.proofs.Places.{stands}
use Rattle.vx_compilation.proofs.Asked.{name_in, in_name, chains, in_sorted, sorted_in, head_is, is_head, asked_bind, bound_nobody, int_there}
use Rattle.vx_compilation.proofs.Asked.{string_there, closure_there, only_any, of_primitive, any_first, int_named, string_named, closure_named}
use Rattle.vx_compilation.proofs.Asked.{any_named, prelude_up}

module _ (program : List Decl) (well : IsProgram program) where
  there_of : (x : Bytes) (decl : Decl) → IsIn decl program → is_named x decl ≡ true → is_there program x ≡ true
  there_of x decl j n = any_in (is_named x) program decl j n

  plain_there : (x : Bytes) → IsIn x (plain_names program) → is_there program x ≡ true
  plain_there x j = let own = plain_in program x j in there_of x (d.Object x own.0) own.1 (bytes_same x x refl)

  any_object : IsIn (d.Object any []) program
  any_object = well.has_prelude (d.Object any []) any_first

  -- a chain from what is there, or to what is there, begins with what is there
  begins_there : {x z : Bytes} → Leads program x z → is_there program z ≡ true → is_there program x ≡ true
  begins_there here t = t
  begins_there (up {x = x} decl parent j n p chain) t = there_of x decl j n

  nothing_above_any : {x z : Bytes} → Leads program x z → x ≡ any → z ≡ any
  nothing_above_any here e = e
  nothing_above_any (up {x = x} decl parent j n p chain) e =
      let same : decl ≡ d.Object any [] = one_named program well any decl (d.Object any []) j any_object (subst (λ z. is_named z decl ≡ true) e n)
      (bytes_same any any refl) in
      absurd (subst (λ z. IsIn parent (parents_of z)) same p)

  -- ---- the order that binding asks for

  over_leads : (x z : Bytes) → is_over (order program) x z ≡ true → Leads program x z
  over_leads x z h =
      elim (cases_Bool (bytes_eq x any)) [
        | inl e ↦
            let zany = sym (cond-true (bytes_eq x any) (bytes_eq z any) (is_name_of (orders.up program x) z) e) ∙ h in
            subst (λ a. Leads program a z) (sym (same_bytes x any e)) (subst (Leads program any) (sym (same_bytes z any zany)) here)
        | inr e ↦
            let own = sym (cond-false (bytes_eq x any) (bytes_eq z any) (is_name_of (orders.up program x) z) e) ∙ h in
            (up_is program chains x z (name_in (orders.up program x) z own)).2
      ]

  leads_over : (x z : Bytes) → is_there program z ≡ true → leads program x z ≡ true → is_over (order program) x z ≡ true
  leads_over x z t h =
      elim (cases_Bool (bytes_eq x any)) [
        | inl e ↦ cond-true (bytes_eq x any) (bytes_eq z any) (is_name_of (orders.up program x) z) e ∙
            bytes_same z any (nothing_above_any (leads_is program x z h) (same_bytes x any e))
        | inr e ↦ cond-false (bytes_eq x any) (bytes_eq z any) (is_name_of (orders.up program x) z) e ∙
            in_name (orders.up program x) z (is_up program chains x z (begins_there (leads_is program x z h) t) t (leads_is program x z h))
      ]

  all_over : (xs zs : List Bytes) → are_over (order program) xs zs ≡ true → are_above program xs zs ≡ true
  all_over [] [] h = refl
  all_over [] (z ∷ zs) h = h
  all_over (x ∷ xs) [] h = h
  all_over (x ∷ xs) (z ∷ zs) h =
      let two = and_parts (is_over (order program) x z) (are_over (order program) xs zs) h in
      and_from (leads program x z) (are_above program xs zs) (leads_finds program x z (over_leads x z two.0)) (all_over xs zs two.1)

  over_all : (xs zs : List Bytes) → ((z : Bytes) → IsIn z zs → is_there program z ≡ true) → are_above program xs zs ≡ true →
      are_over (order program) xs zs ≡ true
  over_all [] [] t h = refl
  over_all [] (z ∷ zs) t h = h
  over_all (x ∷ xs) [] t h = h
  over_all (x ∷ xs) (z ∷ zs) t h =
      let two = and_parts (leads program x z) (are_above program xs zs) h in
      and_from (is_over (order program) x z) (are_over (order program) xs zs) (leads_over x z (t z (inl refl)) two.0)
      (over_all xs zs (λ a j. t a (inr j)) two.1)

  before_specific : (m k : MethodKey) → goes_before (order program) m k ≡ true → is_more_specific program m k ≡ true
  before_specific m k h =
      let two = and_parts (are_over (order program) m.specialisers k.specialisers) (differ m.specialisers k.specialisers) h in
      and_from (are_above program m.specialisers k.specialisers) (differ m.specialisers k.specialisers) (all_over m.specialisers k.specialisers two.0) two.1

  specific_before : (m k : MethodKey) → ((z : Bytes) → IsIn z k.specialisers → is_there program z ≡ true) → is_more_specific program m k ≡ true →
      goes_before (order program) m k ≡ true
  specific_before m k t h =
      let two = and_parts (are_above program m.specialisers k.specialisers) (differ m.specialisers k.specialisers) h in
      and_from (are_over (order program) m.specialisers k.specialisers) (differ m.specialisers k.specialisers)
      (over_all m.specialisers k.specialisers t two.0) two.1

  -- ---- specialisers are there

  specialisers_there : (selector : Selector) (m : MethodKey) → IsIn m (methods program selector) → (z : Bytes) → IsIn z m.specialisers →
      is_there program z ≡ true
  specialisers_there selector m j z s =
      elim (method_made program selector m j) [
        | inl own ↦ by own.0 own.1 (occupies_is own.0 (decl_keys.Method m) own.2)
        | inr primitive ↦ primitive_there m primitive z s
      ]
    where
      from_prelude : (x : Bytes) (parents : List Bytes) → IsIn (d.Object x parents) prelude → is_there program x ≡ true
      from_prelude x parents i = there_of x (d.Object x parents) (well.has_prelude (d.Object x parents) i) (bytes_same x x refl)

      primitive_there : (key : MethodKey) → is_primitive (decl_keys.Method key) ≡ true → (x : Bytes) → IsIn x key.specialisers → is_there program x ≡ true
      primitive_there key h x i =
          elim (of_primitive key h x i) [
            | inl e ↦ subst (λ a. is_there program a ≡ true) e (there_of any (d.Object any []) any_object (bytes_same any any refl))
            | inr (inl e) ↦ subst (λ a. is_there program a ≡ true) e (from_prelude (codes "int") (any ∷ []) int_there)
            | inr (inr (inl e)) ↦ subst (λ a. is_there program a ≡ true) e (from_prelude (codes "string") (any ∷ []) string_there)
            | inr (inr (inr e)) ↦ subst (λ a. is_there program a ≡ true) e (from_prelude (codes "closure") (any ∷ []) closure_there)
          ]

      by : (decl : Decl) → IsIn decl program → IsIn (decl_keys.Method m) (occupied decl) → is_there program z ≡ true
      by (d.Object x parents) i (inl e) = absurd (cc)
      by (d.Object x parents) i (inr e) = absurd e
      by (d.Predicate x parents test) i (inl e) = absurd (cc)
      by (d.Predicate x parents test) i (inr e) = absurd e
      by (d.Method own formals body) i (inl e) =
          let same : own ≡ m = cc in well.known (d.Method own formals body) z i (subst (λ (key : MethodKey). IsIn z key.specialisers) (sym same) s)
      by (d.Method own formals body) i (inr e) = absurd e
      by (d.Field field start changeable) i (inl e) = absurd (cc)
      by (d.Field field start changeable) i (inr (inl e)) =
          let same : getter field ≡ m = cc in
          elim (subst (λ (key : MethodKey). IsIn z key.specialisers) (sym same) s) [
            | inl a ↦ well.known (d.Field field start changeable) z i
                (inl a)
            | inr a ↦ absurd a
          ]
      by (d.Field field start true) i (inr (inr (inl e))) =
          let same : setter field ≡ m = cc in
          elim (subst (λ (key : MethodKey). IsIn z key.specialisers) (sym same) s) [
            | inl a ↦ well.known (d.Field field start true) z i (inl a)
            | inr (inl a) ↦ subst (λ b. is_there program b ≡ true) a (there_of any (d.Object any []) any_object (bytes_same any any refl))
            | inr (inr a) ↦ absurd a
          ]
      by (d.Field field start true) i (inr (inr (inr e))) = absurd e
      by (d.Field field start false) i (inr (inr e)) = absurd e

  -- ---- every plain object is below `any`

  to_any : (n : ℕ) (x : Bytes) → height program x < n → IsIn x (plain_names program) → Leads program x any
  to_any zero x l j = absurd (omega (arith, l))
  to_any (suc n) x l j = let own = plain_in program x j in by own.0 own.1 (to_any n)
    where
      by : (parents : List Bytes) → IsIn (d.Object x parents) program →
          ((z : Bytes) → height program z < n → IsIn z (plain_names program) → Leads program z any) → Leads program x any
      by [] i more = elim (well.written (d.Object x []) i) [ inl old ↦ subst (Leads program x) (only_any x old) here | inr written ↦ absurd written.1 ]
      by (parent ∷ parents) i more =
          let other = parent_plain program well x parent (parent ∷ parents) i (inl refl) in
          up (d.Object x (parent ∷ parents)) parent i (bytes_same x x refl) (inl refl)
          (more parent (omega (arith, l, lower program well chains (d.Object x (parent ∷ parents)) x parent i (bytes_same x x refl) (inl refl)))
          (in_plain program parent other.0 other.1))

  -- ---- values

  -- each value is of a plain object
  pub class_plain : (heap : Heap) → ThingsArePlain program heap → (value : Value) → IsThere heap value → IsIn (class_of heap value) (plain_names program)
  class_plain heap all (v.Int n) s = in_plain program (codes "int") (any ∷ []) (well.has_prelude _ int_there)
  class_plain heap all (v.Text bytes) s = in_plain program (codes "string") (any ∷ []) (well.has_prelude _ string_there)
  class_plain heap all (v.Closure n) s = in_plain program (codes "closure") (any ∷ []) (well.has_prelude _ closure_there)
  class_plain heap all (v.Object n) s = let one = stands heap.objects n s in
      subst (λ z. IsIn z (plain_names program)) (sym (ap (λ (o : Option Thing). elim o [ Some thing ↦ thing.class | None ↦ [] ]) one.1)) (all n one.0 one.1)

  module _ (heap : Heap) (all : ThingsArePlain program heap) where
    -- a value that fits what is known of it counts as a specialiser that is sure
    leads_held : (value : Value) (x : Bytes) → IsIn x (plain_names program) → Leads program (class_of heap value) x → holds program heap value x ≡ true
    leads_held value x j chain = let own = plain_in program x j in holds_plain program well chains heap value x own.0 own.1 ∙
        leads_finds program (class_of heap value) x chain

    any_held : (value : Value) → IsThere heap value → (x : Bytes) → bytes_eq x any ≡ true → holds program heap value x ≡ true
    any_held value s x e =
        subst (λ z. holds program heap value z ≡ true) (sym (same_bytes x any e))
        (leads_held value any (in_plain program any [] any_object) (to_any (suc (height program (class_of heap value))) (class_of heap value) (omega arith)
        (class_plain heap all value s)))

    -- a name that is its own base is a plain object
    plain_is : (x : Bytes) → is_plain (order program) x ≡ true → IsIn x (plain_names program)
    plain_is x h = by (base program x) refl h
      where
        by : (o : Option Bytes) → base program x ≡ o → (elim o [ Some z ↦ bytes_eq z x | None ↦ false ]) ≡ true → IsIn x (plain_names program)
        by None e h = absurd (false≢true h)
        by (Some z) e h = subst (λ a. IsIn a (plain_names program)) (same_bytes z x h) (found_is _ (plain_names program) z e).0

    sure_held : (info : Info) (value : Value) (x : Bytes) → IsThere heap value → Fits program heap info value → is_sure (order program) info x ≡ true →
        holds program heap value x ≡ true
    sure_held i.Any value x s f h = any_held value s x h
    sure_held (i.Cone c) value x s f h =
        elim (or_cases (bytes_eq x any) _ h) [
          | inl e ↦ any_held value s x e
          | inr e ↦
              let two = and_parts (is_plain (order program) x) (is_name_of (orders.up program c) x) e in
              leads_held value x (plain_is x two.0) (on program (cone_is program chains (class_of heap value) c f).1
              (up_is program chains c x (name_in (orders.up program c) x two.1)).2)
        ]
    sure_held (i.Exact c) value x s f h =
        elim (or_cases (bytes_eq x any) _ h) [
          | inl e ↦ any_held value s x e
          | inr e ↦
              let two = and_parts (is_plain (order program) x) (is_name_of (orders.up program c) x) e in
              leads_held value x (plain_is x two.0) (subst (λ z. Leads program z x) (sym f)
              (up_is program chains c x (name_in (orders.up program c) x two.1)).2)
        ]

    all_sure_held : (infos : List Info) (values : List Value) (xs : List Bytes) → AreThere heap values → AllFit program heap infos values →
        at_each (is_sure (order program)) infos xs ≡ true → are_held program heap values xs ≡ true
    all_sure_held [] [] [] s f h = refl
    all_sure_held [] [] (x ∷ xs) s f h = h
    all_sure_held [] (value ∷ values) xs s f h = absurd f
    all_sure_held (info ∷ infos) [] xs s f h = absurd f
    all_sure_held (info ∷ infos) (value ∷ values) [] s f h = h
    all_sure_held (info ∷ infos) (value ∷ values) (x ∷ xs) s f h =
        let two = and_parts (is_sure (order program) info x) (at_each (is_sure (order program)) infos xs) h in
        and_from (holds program heap value x) (are_held program heap values xs) (sure_held info value x s.0 f.0 two.0)
        (all_sure_held infos values xs s.1 f.1 two.1)

    -- what counts as a name is below its base
    pub base_below : (value : Value) {x z : Bytes} → IsBase program x z → holds program heap value x ≡ true → Leads program (class_of heap value) z
    base_below value (plain {x = x} parents j) h = leads_is program (class_of heap value) x (sym (holds_plain program well chains heap value x parents j) ∙ h)
    base_below value (first {x = x} parent parents test j rest) h =
        base_below value rest (holds_parent program well chains heap value x parent (d.Predicate x (parent ∷ parents) test) j (bytes_same x x refl)
        (inl refl) (well.known (d.Predicate x (parent ∷ parents) test) parent j (inl refl)) h)

    base_plain_name : {x z : Bytes} → IsBase program x z → IsIn z (plain_names program)
    base_plain_name (plain {x = x} parents j) = in_plain program x parents j
    base_plain_name (first parent parents test j rest) = base_plain_name rest

    -- what a value counts as is possible
    held_possible : (info : Info) (value : Value) (x : Bytes) → IsThere heap value → Fits program heap info value → holds program heap value x ≡ true →
        is_possible (order program) info x ≡ true
    held_possible i.Any value x s f h = refl
    held_possible (i.Cone c) value x s f h =
        let own = has_base program well chains x (holds_is program heap value x h).0 in
        let shared = any_in (is_name_of (cone program own.0)) (cone program c) (class_of heap value) f
        (in_name (cone program own.0) (class_of heap value) (is_cone program chains (class_of heap value) own.0 (class_plain heap all value s)
        (base_below value own.2 h))) in
        or_right (bytes_eq x any) _ (subst (λ z. (elim z [ Some a ↦ list_any (is_name_of (cone program a)) (cone program c) | None ↦ false ]) ≡ true)
        (sym own.1) shared)
    held_possible (i.Exact c) value x s f h =
        let own = has_base program well chains x (holds_is program heap value x h).0 in
        let above = subst (λ z. IsIn own.0 (orders.up program z)) f (is_up program chains (class_of heap value) own.0
        (plain_there (class_of heap value) (class_plain heap all value s)) (plain_there own.0 (base_plain_name own.2)) (base_below value own.2 h)) in
        or_right (bytes_eq x any) _ (subst (λ z. (elim z [ Some a ↦ is_name_of (orders.up program c) a | None ↦ false ]) ≡ true) (sym own.1)
        (in_name (orders.up program c) own.0 above))

    all_held_possible : (infos : List Info) (values : List Value) (xs : List Bytes) → AreThere heap values → AllFit program heap infos values →
        are_held program heap values xs ≡ true → at_each (is_possible (order program)) infos xs ≡ true
    all_held_possible [] [] [] s f h = refl
    all_held_possible [] [] (x ∷ xs) s f h = h
    all_held_possible [] (value ∷ values) xs s f h = absurd f
    all_held_possible (info ∷ infos) [] xs s f h = absurd f
    all_held_possible (info ∷ infos) (value ∷ values) [] s f h = h
    all_held_possible (info ∷ infos) (value ∷ values) (x ∷ xs) s f h =
        let two = and_parts (holds program heap value x) (are_held program heap values xs) h in
        and_from (is_possible (order program) info x) (at_each (is_possible (order program)) infos xs) (held_possible info value x s.0 f.0 two.0)
        (all_held_possible infos values xs s.1 f.1 two.1)

    -- ---- accessors are bound for objects alone

    -- a value that fits what makes a specialiser sure is below that, where it is no name of the prelude
    sure_leads : (info : Info) (value : Value) (x : Bytes) → is_there prelude x ≡ false → Fits program heap info value → is_sure (order program) info x ≡ true →
        Leads program (class_of heap value) x
    sure_leads info value x own f h = elim (cases_Bool (bytes_eq x any)) [ inl e ↦ absurd (not_any e) | inr e ↦ by info f h e ]
      where
        not_any : bytes_eq x any ≡ true → ⊥
        not_any e = false≢true (sym own ∙ ap (is_there prelude) (same_bytes x any e) ∙ any_named)

        chain : (c : Bytes) → Leads program (class_of heap value) c → (bytes_eq x any || is_plain (order program) x && is_name_of (orders.up program c) x) ≡
            true →
            bytes_eq x any ≡ false → Leads program (class_of heap value) x
        chain c to_class all e =
            elim (or_cases (bytes_eq x any) _ all) [
              | inl own ↦ absurd (false≢true (sym e ∙ own))
              | inr more ↦
                  let two = and_parts (is_plain (order program) x) (is_name_of (orders.up program c) x) more in
                  on program to_class (up_is program chains c x (name_in (orders.up program c) x two.1)).2
            ]

        by : (info : Info) → Fits program heap info value → is_sure (order program) info x ≡ true → bytes_eq x any ≡ false →
            Leads program (class_of heap value) x
        by i.Any f h e = absurd (false≢true (sym e ∙ h))
        by (i.Cone c) f h e = chain c (cone_is program chains (class_of heap value) c f).1 h e
        by (i.Exact c) f h e = chain c (subst (λ z. Leads program (class_of heap value) z) f here) h e

    -- and then it is an object
    below_object : (value : Value) (x : Bytes) → is_there prelude x ≡ false → Leads program (class_of heap value) x → IsObject value
    below_object (v.Int n) x own chain = absurd (false≢true (sym own ∙ prelude_up program well chain int_named))
    below_object (v.Text bytes) x own chain = absurd (false≢true (sym own ∙ prelude_up program well chain string_named))
    below_object (v.Closure n) x own chain = absurd (false≢true (sym own ∙ prelude_up program well chain closure_named))
    below_object (v.Object n) x own chain = tt

    first_object : (infos : List Info) (values : List Value) (x : Bytes) (xs : List Bytes) → is_there prelude x ≡ false → AllFit program heap infos values →
        at_each (is_sure (order program)) infos (x ∷ xs) ≡ true → IsFirstObject values
    first_object [] values x xs own f h = absurd (false≢true h)
    first_object (info ∷ infos) [] x xs own f h = absurd f
    first_object (info ∷ infos) (value ∷ values) x xs own f h =
        below_object value x own
        (sure_leads info value x own f.0 (and_parts (is_sure (order program) info x) (at_each (is_sure (order program)) infos xs) h).0)

    sure_suits : (key : MethodKey) (infos : List Info) (values : List Value) → AllFit program heap infos values →
        at_each (is_sure (order program)) infos key.specialisers ≡ true → SuitsKind (kind program key) values
    sure_suits key infos values f h = by (maker program key) refl
      where
        either : (so : Bool) (field : FieldKey) → IsFirstObject values → SuitsKind (if so then kinds.Get field else kinds.Set field) values
        either true field own = own
        either false field own = own

        primitive : (number : Option ℕ) → SuitsKind (primitive_kind number) values
        primitive None = tt
        primitive (Some number) = tt

        accessor : (field : FieldKey) (start : Start) (changeable : Bool) → IsIn (d.Field field start changeable) program →
            IsIn (decl_keys.Method key) (occupied (d.Field field start changeable)) → IsFirstObject values
        accessor field start changeable i (inl e) = absurd (cc)
        accessor field start changeable i (inr (inl e)) =
            let same : getter field ≡ key = cc in
            first_object infos values field.specialiser [] (well.allowed (d.Field field start changeable) field.specialiser i (inl refl)) f
            (subst (λ (z : MethodKey). at_each (is_sure (order program)) infos z.specialisers ≡ true) (sym same) h)
        accessor field start true i (inr (inr (inl e))) =
            let same : setter field ≡ key = cc in
            first_object infos values field.specialiser (any ∷ []) (well.allowed (d.Field field start true) field.specialiser i (inl refl)) f
            (subst (λ (z : MethodKey). at_each (is_sure (order program)) infos z.specialisers ≡ true) (sym same) h)
        accessor field start true i (inr (inr (inr e))) = absurd e
        accessor field start false i (inr (inr e)) = absurd e

        by : (made : Option Decl) → maker program key ≡ made → SuitsKind (kind_by key made) values
        by None is = primitive (number_of key)
        by (Some (d.Object x parents)) is = tt
        by (Some (d.Predicate x parents test)) is = tt
        by (Some (d.Method own formals body)) is = tt
        by (Some (d.Field field start changeable)) is =
            let one = found_is (λ decl. occupies decl (decl_keys.Method key)) program (d.Field field start changeable) is in
            either (length key.specialisers == 1) field (accessor field start changeable one.0
            (occupies_is (d.Field field start changeable) (decl_keys.Method key) one.1))

    -- ---- what is bound is found

    below_candidate : (below : Option MethodKey) (m : MethodKey) (own : Kind) → ((z : Bytes) → IsIn z m.specialisers → is_there program z ≡ true) →
        is_below program below m ≡ true → is_candidate (order program) below (m, own) ≡ true
    below_candidate None m own t h = refl
    below_candidate (Some from) m own t h = specific_before from m t h

    candidate_below : (below : Option MethodKey) (head : MethodKey × Kind) → is_candidate (order program) below head ≡ true →
        is_below program below head.0 ≡ true
    candidate_below None head h = refl
    candidate_below (Some from) head h = before_specific from head.0 h

    pub bound_one : (selector : Selector) (values : List Value) (infos : List Info) (below : Option MethodKey) (key : MethodKey) (own : Kind) →
        AreThere heap values → AllFit program heap infos values → (asked program).bind selector infos below ≡ b.One key own →
        (lookup program heap selector values below ≡ look.One key) × (own ≡ kind program key) × SuitsKind own values
    bound_one selector values infos below key own s f e = by (heads program selector) refl (sym (asked_bind program selector infos below) ∙ e)
      where
        own_list : List MethodKey
        own_list = sorted (methods program selector)

        best : (hs : List (MethodKey × Kind)) → heads program selector ≡ hs → (head : MethodKey × Kind) →
            find (is_bound_to (order program) infos (filter (is_candidate (order program) below) hs))
            (filter (is_candidate (order program) below) hs) ≡ Some head →
            IsBest program (applicable program heap selector values below) head.0 × (head.1 ≡ kind program head.0) × SuitsKind (kind program head.0) values
        best hs same head found =
            let one = found_is (is_bound_to (order program) infos (filter (is_candidate (order program) below) hs))
            (filter (is_candidate (order program) below) hs) head found in
            let candidate = left_is (is_candidate (order program) below) hs head one.0 in
            let listed = head_is program (sorted (methods program selector)) head (subst (IsIn head) (sym same) candidate.0) in
            let two = and_parts (at_each (is_sure (order program)) infos head.0.specialisers) _ one.1 in
            let held = all_sure_held infos values head.0.specialisers s f two.0 in
            let is_applicable = is_left (λ m. is_below program below m && are_held program heap values m.specialisers) (methods program selector) head.0
            (sorted_in (methods program selector) head.0 listed.0)
            (and_from (is_below program below head.0) (are_held program heap values head.0.specialisers) (candidate_below below head candidate.1) held) in
            ((is_applicable, λ k j. other hs same head two.1 k j), listed.1, sure_suits head.0 infos values f two.0)
          where
            other : (hs : List (MethodKey × Kind)) → heads program selector ≡ hs → (head : MethodKey × Kind) →
                list_all (λ one. not (at_each (is_possible (order program)) infos one.0.specialisers) || same_method head.0 one.0 ||
                goes_before (order program) head.0 one.0) (filter (is_candidate (order program) below) hs) ≡ true →
                (k : MethodKey) → IsIn k (applicable program heap selector values below) → (k ≡ head.0) ⊎ (is_more_specific program head.0 k ≡ true)
            other hs same head every k j =
                let left = left_is (λ m. is_below program below m && are_held program heap values m.specialisers) (methods program selector) k j in
                let two = and_parts (is_below program below k) (are_held program heap values k.specialisers) left.1 in
                let listed = subst (IsIn (with_kind program k)) same (is_head program (sorted (methods program selector)) k
                (in_sorted (methods program selector) k left.0)) in
                let candidate = is_left (is_candidate (order program) below) hs (with_kind program k) listed
                (below_candidate below k (kind program k) (specialisers_there selector k left.0) two.0) in
                let so = each (λ one. not (at_each (is_possible (order program)) infos one.0.specialisers) || same_method head.0 one.0 ||
                goes_before (order program) head.0 one.0) (filter (is_candidate (order program) below) hs) every (with_kind program k) candidate in
                let possible = all_held_possible infos values k.specialisers s f two.1 in
                elim (or_cases (not (at_each (is_possible (order program)) infos k.specialisers) || same_method head.0 k)
                (goes_before (order program) head.0 k) so) [
                  | inl a ↦
                      elim (or_cases (not (at_each (is_possible (order program)) infos k.specialisers)) (same_method head.0 k) a) [
                        | inl never ↦ absurd (false≢true (sym (not-true (at_each (is_possible (order program)) infos k.specialisers) never) ∙ possible))
                        | inr e ↦ inl (sym (same_is head.0 k e))
                      ]
                  | inr a ↦ inr (before_specific head.0 k a)
                ]

        by : (hs : List (MethodKey × Kind)) → heads program selector ≡ hs → bind (order program) hs infos below ≡ b.One key own →
            (lookup program heap selector values below ≡ look.One key) × (own ≡ kind program key) × SuitsKind own values
        by [] same e = absurd (cc)
        by (head ∷ hs) same e = from (find (is_bound_to (order program) infos (filter (is_candidate (order program) below) (head ∷ hs)))
            (filter (is_candidate (order program) below) (head ∷ hs))) refl e
          where
            from : (o : Option (MethodKey × Kind)) → find (is_bound_to (order program) infos (filter (is_candidate (order program) below) (head ∷ hs)))
                (filter (is_candidate (order program) below) (head ∷ hs)) ≡ o → chosen o ≡ b.One key own →
                (lookup program heap selector values below ≡ look.One key) × (own ≡ kind program key) × SuitsKind own values
            from None found e = absurd (cc)
            from (Some one) found e =
                let first_same : one.0 ≡ key = cc in
                let second_same : one.1 ≡ own = cc in
                let best_one = best (head ∷ hs) same one found in
                let made : own ≡ kind program key = sym second_same ∙ best_one.1 ∙ ap (kind program) first_same in (
                  is_one program well chains (applicable program heap selector values below) key
                      (subst (IsBest program (applicable program heap selector values below)) first_same best_one.0),
                  made,
                  subst (λ z. SuitsKind z values)
                      (ap (kind program) first_same ∙ sym made) best_one.2,
                )

pub binding_is_sound : BindingIsSound
binding_is_sound = record {
  one = λ program heap selector values infos below key own well all there fit e.
      bound_one program well heap all selector values infos below key own there fit e;
  nobody = bound_nobody;
}
