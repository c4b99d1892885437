-- No meaning of a program is stuck: calls are fine with every allowance.
use Rattle.std.proofs.Common.{◌≡◌, ℕ, zero, suc, ◌<◌, ◌⊎◌, Bool, true, false, ◌&&◌, List, [], ◌∷◌, ◌++◌, map, length, Option, Some, None, is_some, refl, sym, ap, ◌∙◌, subst, inl, inr, arith}
use Rattle.std.specs.List.{slice_get}
use Rattle.std.specs.Option.{IfSome}
use Rattle.std.specs.Prelude.{◌==◌, if◌then◌else◌, slice_set}
use Rattle.std.specs.Str.{bytes_eq}
use Rattle.std.proofs.lemmas.Bool.{false≢true, and_parts, or_parts, or_from, or_right, cond-false, eqb-true}
use Rattle.std.proofs.lemmas.List.{length-map}
use Rattle.vx_lists.specs.Members.{IsIn}
use Rattle.vx_lists.proofs.Each.{all_at, all_joined}
use Rattle.vx_lists.proofs.Finding.{found_is, is_found, left_is}
use Rattle.vx_lists.proofs.Members.{any_in, in_either}
use Rattle.vx_lists.proofs.Places.{stands}
use Rattle.vx_names.specs.declared.key.Selector.{Selector}
use Rattle.vx_names.specs.declared.key.MethodKey.{MethodKey}
use Rattle.vx_names.specs.declared.key.FieldKey.{FieldKey}
use Rattle.vx_names.specs.declared.key.DeclKey.{DeclKey}
use Rattle.vx_names.specs.declared.key.DeclKey.TheVariants as k
use Rattle.vx_syntax.specs.declared.decl.Decl.{Decl}
use Rattle.vx_syntax.specs.declared.decl.Decl.TheVariants as d
use Rattle.vx_syntax.specs.declared.decl.Start.{Start}
use Rattle.vx_syntax.specs.declared.expr.Body.{Body}
use Rattle.vx_syntax.specs.Expressions.{Bytes, Scope, is_variable, is_among, with_formals}
use Rattle.vx_syntax.specs.Declarations.{any, named, formal_scope}
use Rattle.vx_syntax.specs.Written.{AreNew}
use Rattle.vx_program.specs.Prelude.{same_key, primitive_keys, is_primitive}
use Rattle.vx_program.specs.Program.{IsProgram, occupied, occupies, is_method_of, getter, setter}
use Rattle.vx_program.specs.Methods.{with_selector, methods}
use Rattle.vx_program.proofs.ByKey.{occupies_is, is_occupied}
use Rattle.vx_program.proofs.Members.{key_itself}
use Rattle.vx_model.specs.declared.value.Value.{Value}
use Rattle.vx_model.specs.declared.value.Value.TheVariants as v
use Rattle.vx_model.specs.declared.value.Local.{Local}
use Rattle.vx_model.specs.declared.value.Local.TheVariants as l
use Rattle.vx_model.specs.declared.value.Thing.{Thing}
use Rattle.vx_model.specs.declared.value.Held.{Held}
use Rattle.vx_model.specs.declared.value.Heap.{Heap}
use Rattle.vx_model.specs.declared.look.Look.{Look}
use Rattle.vx_model.specs.declared.look.Look.TheVariants as look
use Rattle.vx_model.specs.declared.report.RunError.TheVariants as e
use Rattle.vx_model.specs.declared.report.Report.TheVariants as r
use Rattle.vx_model.specs.Fields.{fields}
use Rattle.vx_model.specs.Holds.{holds, slot}
use Rattle.vx_model.specs.Kinds.{maker, number_of, primitive_kind, kind_by, kind, source_by}
use Rattle.vx_model.specs.Lookup.{are_held, is_below, applicable, lookup}
use Rattle.vx_model.specs.Values.{nil}
use Rattle.vx_model.specs.declared.primitives.Deed.{Deed}
use Rattle.vx_model.specs.declared.primitives.Deed.TheVariants.{Answers, Prints, Breaks, Evaluates, Repeats, Lacks}
use Rattle.vx_model.specs.Primitives.{Operation, deed}
use Rattle.vx_model.specs.Meaning as m
use Rattle.vx_model.specs.Meaning.{State, Back, Fails, Out, Stuck, Done, Gives, Stops, Message, Allowance, call, Frame, bound, given, put_slot, statements, if_home, caught, entered, evaluated, evaluation, turns, with_closure_of, doing, getting, put_in, setting, entered_source, made_by, found, answer, allowance, report, main_message, begun, meaning}
use Rattle.vx_model.proofs.Choices.{one_is}
use Rattle.vx_model.proofs.Sound.{IsLater, as_late, later_on, IsSound, AreSound, IsBinding, AreBindings, Covers, IsThing, IsHeld, IsHeap, still_held, with_thing_at, later_thing_at, heap_with_thing_at}
use Rattle.vx_model.proofs.Things.{nil_sound, slot_sound, put_sound, opening_sound}
use Rattle.vx_model.proofs.Bodies.{IsFine, fine_later, after_fine, AreFine, call_fine, still_variable, other_name, statements_fine}
use Rattle.vx_model.proofs.Counting.{field_in, field_held}
use Rattle.vx_model.proofs.Deeds.{IsDeed, primitive_suits}
use Rattle.vx_model.proofs.MethodTexts.{IsMethod, method_is}

-- ---- formals

abbrev pub own_name : Bytes × Local → Bytes
own_name own = own.0

-- as many arguments as formals are bound to their names
formals_fine : (P : Done → Type 0) (heap : Heap) (formals : List (Option Bytes)) (values : List Value) → length formals ≡ length values → AreSound heap values →
    (go : List (Bytes × Local) → Done) (otherwise : Done) →
    ((scope : List (Bytes × Local)) → AreBindings heap scope → map own_name scope ≡ named formals → P (go scope)) →
    P (m.with_formals formals values go otherwise)
formals_fine P heap [] [] count all go otherwise next = next [] tt refl
formals_fine P heap [] (value ∷ values) count all go otherwise next = absurd (omega arith)
formals_fine P heap (formal ∷ formals) [] count all go otherwise next = absurd (omega arith)
formals_fine P heap (None ∷ formals) (value ∷ values) count all go otherwise next = formals_fine P heap formals values (omega arith) all.1 go otherwise next
formals_fine P heap (Some name ∷ formals) (value ∷ values) count all go otherwise next =
    formals_fine P heap formals values (omega arith) all.1 (λ scope. go ((name, l.Plain value) ∷ scope)) otherwise (λ scope bindings same.
    next ((name, l.Plain value) ∷ scope) (all.0, bindings) (ap (λ (names : List Bytes). name ∷ names) same))

-- formals are no variables
pub no_variable : (static : Scope) (formals : List Bytes) (y : Bytes) → is_variable (with_formals static formals) y ≡ true → is_variable static y ≡ true
no_variable static [] y h = h
no_variable static (x ∷ xs) y h = still_variable static x y (no_variable ((x, false) ∷ static) xs y h)

-- and no variable has the name of a formal
pub no_formal : (static : Scope) (formals : List Bytes) (y : Bytes) → AreNew static formals → is_variable static y ≡ true → is_among formals y ≡ false
no_formal static [] y new h = refl
no_formal static (x ∷ xs) y new h =
    or_from (bytes_eq x y) (is_among xs y) (other_name static x y new.1 h)
    (no_formal ((x, false) ∷ static) xs y new.2 (or_right (bytes_eq x y && false) (is_variable static y) h))

-- what is bound to no name in front is bound behind
pub bound_behind : (scope rest : List (Bytes × Local)) (y : Bytes) → is_among (map own_name scope) y ≡ false → bound y (scope ++ rest) ≡ bound y rest
bound_behind [] rest y h = refl
bound_behind (own ∷ scope) rest y h =
    let parts = or_parts (bytes_eq own.0 y) (is_among (map own_name scope) y) h in
    cond-false (bytes_eq own.0 y) (Some own.1) (bound y (scope ++ rest)) parts.0 ∙ bound_behind scope rest y parts.1

pub all_named : (formals : List Bytes) → named (map Some formals) ≡ formals
all_named [] = refl
all_named (x ∷ xs) = ap (λ (names : List Bytes). x ∷ names) (all_named xs)

-- ---- bodies of methods and closures

caught_fine : (program : List Decl) (old : Heap) (own : ℕ) (done : Done) → IsFine program old done → IsFine program old (caught own done)
caught_fine program old own (Gives value state) f = f
caught_fine program old own (Stops (Back home value) state) f = by (home == own)
  where
    by : (b : Bool) → IsFine program old (if_home b home value state)
    by true = f
    by false = f
caught_fine program old own (Stops (Fails error) state) f = tt
caught_fine program old own (Stops Out state) f = tt
caught_fine program old own (Stops Stuck state) f = f

given_fine : (program : List Decl) (state : State) → IsHeap program state.heap → (value : Option Value) → is_some value ≡ true →
    IfSome value (IsSound state.heap) →
    IsFine program state.heap (given value state)
given_fine program state is (Some value) h s = (is, as_late state.heap, s)
given_fine program state is None h s = absurd (false≢true h)

-- values that count as specialisers are as many
pub held_count : (program : List Decl) (heap : Heap) (values : List Value) (xs : List Bytes) → are_held program heap values xs ≡ true →
    length values ≡ length xs
held_count program heap [] [] h = refl
held_count program heap [] (x ∷ xs) h = absurd (false≢true h)
held_count program heap (value ∷ values) [] h = absurd (false≢true h)
held_count program heap (value ∷ values) (x ∷ xs) h =
    ap suc (held_count program heap values xs (and_parts (holds program heap value x) (are_held program heap values xs) h).1)

-- values that count as the specialisers of a method, sound in a sound heap
record IsCall (program : List Decl) (key : MethodKey) (values : List Value) (state : State) : Type 0 where
  pub heap : IsHeap program state.heap
  pub sound : AreSound state.heap values
  pub held : are_held program state.heap values key.specialisers ≡ true

module _ (program : List Decl) (well : IsProgram program) where
  entered_fine : (lower : Allowance) → AreFine program lower → (key : MethodKey) (formals : List (Option Bytes)) (body : Body) →
      IsMethod (d.Method key formals body) → (values : List Value) (state : State) → IsCall program key values state →
      IsFine program state.heap (entered program lower key formals body values state)
  entered_fine lower fine key formals body is values state given =
      formals_fine (IsFine program state.heap) state.heap formals values
      (is.0 ∙ sym (held_count program state.heap values key.specialisers given.held)) given.sound _ (Stops Stuck state) (λ scope bindings same.
      let frame : Frame = record { method = key; arguments = values; home = state.next; scope = scope } in
      let begins : State = record state { next = suc state.next } in
      caught_fine program state.heap state.next (statements program body.0 lower frame (nil program) begins)
      (statements_fine program well lower fine body.0 (formal_scope formals) is.1 frame (nil program) begins
      (record {
        sound = given.heap;
        activation = record { given_values = given.sound; bindings = bindings; covers = λ y h. absurd (false≢true (no_variable [] (named formals) y h)) };
        since = as_late state.heap;
      }) (nil_sound program well given.heap.begun)))

  pub evaluated_fine : (lower : Allowance) → AreFine program lower → (held : Held) (values : List Value) (state : State) → IsHeap program state.heap →
      IsHeld state.heap held → AreSound state.heap values → length held.formals ≡ length values →
      IsFine program state.heap (evaluated program lower held values state)
  evaluated_fine lower fine held values state is h all count =
      formals_fine (IsFine program state.heap) state.heap (map Some held.formals) values (length-map held.formals Some ∙ count) all _ (Stops Stuck state)
      (λ scope bindings same.
      let frame : Frame = record { method = held.method; arguments = held.arguments; home = held.home; scope = scope ++ held.scope } in
      let covers : Covers (with_formals h.static held.formals) (scope ++ held.scope) = λ y var.
      let old = no_variable h.static held.formals y var in
      let other = ap (λ names. is_among names y) (same ∙ all_named held.formals) ∙ no_formal h.static held.formals y h.fresh_formals old in
      let r = h.covers y old in
      (r.0, bound_behind scope held.scope y other ∙ r.1) in
      statements_fine program well lower fine held.body.0 (with_formals h.static held.formals) h.stated frame (nil program) state
      (record {
        sound = is;
        activation = record { given_values = h.given; bindings = all_joined (IsBinding state.heap) scope held.scope bindings h.bindings; covers = covers };
        since = as_late state.heap;
      }) (nil_sound program well is.begun))

  evaluation_fine : (lower : Allowance) → AreFine program lower → (held : Held) (values : List Value) (state : State) → IsHeap program state.heap →
      IsHeld state.heap held →
      AreSound state.heap values → length held.formals ≡ length values → IsFine program state.heap (evaluation program lower held values state)
  evaluation_fine [] fine held values state is h all count = tt
  evaluation_fine (does ∷ lower) fine held values state is h all count = evaluated_fine lower fine.1 held values state is h all count

  turns_fine : (lower : Allowance) → AreFine program lower → (held : Held) (state : State) → IsHeap program state.heap → IsHeld state.heap held →
      length held.formals ≡ 0 →
      IsFine program state.heap (turns program lower held state)
  turns_fine [] fine held state is h none = tt
  turns_fine (does ∷ lower) fine held state is h none =
      after_fine program (as_late state.heap) (evaluated program lower held [] state) _
      (evaluated_fine lower fine.1 held [] state is h tt none) (λ value state' is' later s.
      fine_later program later (turns program lower held state') (turns_fine lower fine.1 held state' is' (still_held later held h) none))

  -- a closure that is there has so many formals, or the evaluation fails
  closure_fine : (count i : ℕ) (state : State) (go : Held → Done) → IsHeap program state.heap → i < length state.heap.closures →
      ((held : Held) → IsHeld state.heap held → length held.formals ≡ count → IsFine program state.heap (go held)) →
      IsFine program state.heap (with_closure_of count (slice_get state.heap.closures i) state go)
  closure_fine count i state go is there next =
      subst (λ (o : Option Held). IsFine program state.heap (with_closure_of count o state go)) (sym one.1)
      (by (length one.0.formals == count) refl)
    where
      one : (held : Held) × (slice_get state.heap.closures i ≡ Some held)
      one = stands state.heap.closures i there

      by : (b : Bool) → (length one.0.formals == count) ≡ b → IsFine program state.heap (if b then go one.0 else Stops (Fails (e.ClosureArity count)) state)
      by true h = next one.0 (all_at (IsHeld state.heap) state.heap.closures i one.0 one.1 is.held) (eqb-true (length one.0.formals) count h)
      by false h = tt

  -- ---- primitives and fields

  doing_fine : (lower : Allowance) → AreFine program lower → (what : Deed) (state : State) → IsHeap program state.heap → IsDeed state.heap what →
      IsFine program state.heap (doing program lower what state)
  doing_fine lower fine (Answers value) state is s = (is, as_late state.heap, s)
  doing_fine lower fine (Prints line) state is s = (is, as_late state.heap, nil_sound program well is.begun)
  doing_fine lower fine (Breaks error) state is s = tt
  doing_fine lower fine (Evaluates i values) state is s =
      closure_fine (length values) i state (λ held. evaluation program lower held values state) is s.0 (λ held h count.
      evaluation_fine lower fine held values state is h s.1 count)
  doing_fine lower fine (Repeats i) state is s =
      closure_fine 0 i state (λ held. turns program lower held state) is s (λ held h count. turns_fine lower fine held state is h count)
  doing_fine lower fine Lacks state is s = s

  primitive_fine : (lower : Allowance) → AreFine program lower → (key : MethodKey) (values : List Value) (state : State) → IsCall program key values state →
      is_primitive (k.Method key) ≡ true → IsFine program state.heap (made_by program lower key (primitive_kind (number_of key)) values state)
  primitive_fine lower fine key values state given h =
      let one = primitive_suits program well state.heap given.heap key h in
      subst (λ (o : Option ℕ). IsFine program state.heap (made_by program lower key (primitive_kind o) values state)) (sym one.2)
      (subst (λ (o : Option Operation). IsFine program state.heap
      (elim o [ Some operation ↦ doing program lower (deed program operation values) state | None ↦ Stops Stuck state ])) (sym one.3)
      (doing_fine lower fine (deed program one.1 values) state given.heap (one.4 values given.sound given.held)))

  getter_fine : (field : FieldKey × Start) → IsIn field (fields program) → (values : List Value) (state : State) →
      IsCall program (getter field.0) values state →
      IsFine program state.heap (getting field.0 values state)
  getter_fine field i [] state given = absurd (false≢true given.held)
  getter_fine field i (v.Int n ∷ []) state given = tt
  getter_fine field i (v.Text bytes ∷ []) state given = tt
  getter_fine field i (v.Closure place ∷ []) state given = tt
  getter_fine field i (v.Object place ∷ []) state given =
      let own = field_held program well state.heap given.heap field i place given.sound.0
      (and_parts (holds program state.heap (v.Object place) field.0.specialiser) true given.held).0 in
      let has = all_at (IsThing program state.heap) state.heap.objects place own.0 own.1 given.heap.things in
      subst (λ (o : Option Thing). IsFine program state.heap (m.given (elim o [ Some thing ↦ slot field.0 thing.slots | None ↦ None ]) state)) (sym own.1)
      (given_fine program state given.heap (slot field.0 own.0.slots) own.2 (slot_sound state.heap field.0 own.0.slots has.values))
  getter_fine field i (value ∷ other ∷ values) state given =
      absurd (false≢true (and_parts (holds program state.heap value field.0.specialiser) false given.held).1)

  setter_fine : (field : FieldKey × Start) → IsIn field (fields program) → (values : List Value) (state : State) →
      IsCall program (setter field.0) values state →
      IsFine program state.heap (setting program field.0 values state)
  setter_fine field i [] state given = absurd (false≢true given.held)
  setter_fine field i (own ∷ []) state given = absurd (false≢true (and_parts (holds program state.heap own field.0.specialiser) false given.held).1)
  setter_fine field i (v.Int n ∷ value ∷ []) state given = tt
  setter_fine field i (v.Text bytes ∷ value ∷ []) state given = tt
  setter_fine field i (v.Closure place ∷ value ∷ []) state given = tt
  setter_fine field i (v.Object place ∷ value ∷ []) state given =
      subst (λ (o : Option Thing). IsFine program state.heap (put_in program (put_at o) state)) (sym own.1) (by (slot field.0 own.0.slots) own.2)
    where
      own : (thing : Thing) × (slice_get state.heap.objects place ≡ Some thing) × (is_some (slot field.0 thing.slots) ≡ true)
      own = field_held program well state.heap given.heap field i place given.sound.0
          (and_parts (holds program state.heap (v.Object place) field.0.specialiser) (are_held program state.heap (value ∷ []) (any ∷ [])) given.held).0

      with_slot : Thing → Thing
      with_slot thing = record thing { slots = put_slot field.0 value thing.slots }

      put_at : Option Thing → Option (List Thing)
      put_at o = elim (elim o as (λ z. Option Value) [ Some thing ↦ slot field.0 thing.slots | None ↦ None ]) [
        | Some old ↦ elim o [ Some thing ↦ Some (slice_set state.heap.objects place (with_slot thing)) | None ↦ None ]
        | None ↦ None
      ]

      later : IsLater state.heap (with_thing_at state.heap place (with_slot own.0))
      later = later_thing_at state.heap place own.0 (with_slot own.0) own.1 refl

      has : IsThing program state.heap own.0
      has = all_at (IsThing program state.heap) state.heap.objects place own.0 own.1 given.heap.things

      by : (o : Option Value) → is_some o ≡ true →
          IsFine program state.heap (put_in program (elim o [ Some old ↦ Some (slice_set state.heap.objects place (with_slot own.0)) | None ↦ None ]) state)
      by (Some old) there = (
        heap_with_thing_at program state.heap place own.0 (with_slot own.0) own.1 refl given.heap
            (put_sound program state.heap own.0 has field.0 value given.sound.1.0),
        later,
        nil_sound program well (later_on given.heap.begun later),
      )
      by None there = absurd (false≢true there)
  setter_fine field i (own ∷ value ∷ other ∷ values) state given =
      let first = and_parts (holds program state.heap own field.0.specialiser) (are_held program state.heap (value ∷ other ∷ values) (any ∷ [])) given.held in
      absurd (false≢true (and_parts (holds program state.heap value any) false first.1).1)

  -- ---- methods

  -- what is declared is a method, or a field
  declared_fine : (lower : Allowance) → AreFine program lower → (key : MethodKey) (decl : Decl) → maker program key ≡ Some decl →
      IsIn (k.Method key) (occupied decl) → (values : List Value) (state : State) → IsCall program key values state →
      IsFine program state.heap (made_by program lower key (kind_by key (Some decl)) values state)
  declared_fine lower fine key (d.Object x parents) made (inl same) values state given = absurd (cc)
  declared_fine lower fine key (d.Object x parents) made (inr none) values state given = absurd none
  declared_fine lower fine key (d.Predicate x parents test) made (inl same) values state given = absurd (cc)
  declared_fine lower fine key (d.Predicate x parents test) made (inr none) values state given = absurd none
  declared_fine lower fine key (d.Method own formals body) made (inl same) values state given =
      let one : own ≡ key = cc in
      let is_so = method_is program well own formals body (found_is (λ decl. occupies decl (k.Method key)) program (d.Method own formals body) made).0 in
      subst (λ (o : Option Decl). IsFine program state.heap (entered_source program lower key (source_by o) values state)) (sym made)
      (entered_fine lower fine key formals body (subst (λ (z : MethodKey). IsMethod (d.Method z formals body)) one is_so) values state given)
  declared_fine lower fine key (d.Method own formals body) made (inr none) values state given = absurd none
  declared_fine lower fine key (d.Field field start changeable) made (inl same) values state given = absurd (cc)
  declared_fine lower fine key (d.Field field start changeable) made (inr (inl same)) values state given =
      let one : getter field ≡ key = cc in
      let i = field_in program field start changeable (found_is (λ decl. occupies decl (k.Method key)) program (d.Field field start changeable) made).0 in
      subst (λ (z : MethodKey). IsFine program state.heap (made_by program lower z (kind_by z (Some (d.Field field start changeable))) values state)) one
      (getter_fine (field, start) i values state (subst (λ (z : MethodKey). IsCall program z values state) (sym one) given))
  declared_fine lower fine key (d.Field field start true) made (inr (inr (inl same))) values state given =
      let one : setter field ≡ key = cc in
      let i = field_in program field start true (found_is (λ decl. occupies decl (k.Method key)) program (d.Field field start true) made).0 in
      subst (λ (z : MethodKey). IsFine program state.heap (made_by program lower z (kind_by z (Some (d.Field field start true))) values state)) one
      (setter_fine (field, start) i values state (subst (λ (z : MethodKey). IsCall program z values state) (sym one) given))
  declared_fine lower fine key (d.Field field start true) made (inr (inr (inr none))) values state given = absurd none
  declared_fine lower fine key (d.Field field start false) made (inr (inr none)) values state given = absurd none

-- the keys with a selector are among the keys
among_keys : (selector : Selector) (keys : List DeclKey) (key : MethodKey) → IsIn key (with_selector selector keys) → IsIn (k.Method key) keys
among_keys selector [] key i = absurd i
among_keys selector (k.Object x ∷ keys) key i = inr (among_keys selector keys key i)
among_keys selector (k.Predicate x ∷ keys) key i = inr (among_keys selector keys key i)
among_keys selector (k.Field own ∷ keys) key i = inr (among_keys selector keys key i)
among_keys selector (k.Method own ∷ keys) key i = by (is_method_of selector (k.Method own)) (among_keys selector keys key) i
  where
    by : (b : Bool) → (IsIn key (with_selector selector keys) → IsIn (k.Method key) keys) →
        IsIn key (if b then own ∷ with_selector selector keys else with_selector selector keys) → IsIn (k.Method key) (k.Method own ∷ keys)
    by true more (inl same) = inl (ap k.Method same)
    by true more (inr j) = inr (more j)
    by false more j = inr (more j)

-- a method of a selector is made by a declaration, or is a primitive
pub method_made : (decls : List Decl) (selector : Selector) (key : MethodKey) → IsIn key (methods decls selector) →
    ((decl : Decl) × IsIn decl decls × (occupies decl (k.Method key) ≡ true)) ⊎ (is_primitive (k.Method key) ≡ true)
method_made [] selector key i =
    inr (any_in (λ one. same_key one (k.Method key)) primitive_keys (k.Method key)
    (among_keys selector primitive_keys key i) (key_itself (k.Method key) (k.Method key) refl))
method_made (decl ∷ decls) selector key i =
    elim (in_either key (with_selector selector (occupied decl)) (methods decls selector) i) [
      | inl j ↦ inl (decl, inl refl, is_occupied decl (k.Method key) (among_keys selector (occupied decl) key j))
      | inr j ↦ elim (method_made decls selector key j) [ inl other ↦ inl (other.0, inr other.1, other.2) | inr h ↦ inr h ]
    ]

module _ (program : List Decl) (well : IsProgram program) (lower : Allowance) (fine : AreFine program lower) where
  -- the method that is found
  one_fine : (selector : Selector) (key : MethodKey) → IsIn key (methods program selector) → (values : List Value) (state : State) →
      IsCall program key values state → IsFine program state.heap (made_by program lower key (kind program key) values state)
  one_fine selector key i values state given = by (maker program key) refl
    where
      by : (o : Option Decl) → maker program key ≡ o → IsFine program state.heap (made_by program lower key (kind_by key o) values state)
      by (Some decl) same =
          let own = found_is (λ decl. occupies decl (k.Method key)) program decl same in
          declared_fine program well lower fine key decl same (occupies_is decl (k.Method key) own.1) values state given
      by None same =
          elim (method_made program selector key i) [
            | inl own ↦
                let there = is_found (λ decl. occupies decl (k.Method key)) program own.0 own.1 own.2 in
                let never : Some there.0 ≡ None = sym there.1 ∙ same in
                absurd (cc)
            | inr primitive ↦ primitive_fine program well lower fine key values state given primitive
          ]

  -- A call is fine where the calls below it are.
  answer_fine : (message : Message) (state : State) → IsHeap program state.heap → AreSound state.heap message.arguments →
      IsFine program state.heap (answer program lower message state)
  answer_fine message state is all = by (lookup program state.heap message.selector message.arguments message.below) refl
    where
      by : (o : Look) → lookup program state.heap message.selector message.arguments message.below ≡ o →
          IsFine program state.heap (found program lower message o state)
      by look.None same = tt
      by look.Many same = tt
      by (look.One key) same =
          let best = one_is program (applicable program state.heap message.selector message.arguments message.below) key same in
          let left = left_is (λ own. is_below program message.below own && are_held program state.heap message.arguments own.specialisers)
          (methods program message.selector) key best.0 in
          one_fine message.selector key left.0 message.arguments state (record {
            heap = is;
            sound = all;
            held = (and_parts (is_below program message.below key) (are_held program state.heap message.arguments key.specialisers) left.1).1;
          })

pub allowance_fine : (program : List Decl) → IsProgram program → (n : ℕ) → AreFine program (allowance program n)
unfolding allowance
allowance_fine program well zero = tt
allowance_fine program well (suc n) =
    let fine = allowance_fine program well n in
    (answer_fine program well (allowance program n) fine, fine)

-- No run of a program lacks anything.
pub never_stuck : (program : List Decl) (n : ℕ) (lines : List Bytes) → IsProgram program → meaning program n ≡ r.Stuck lines → ⊥
unfolding meaning
never_stuck program n lines well same =
    by (call (allowance program n) main_message (begun program))
    (call_fine program (allowance program n) (allowance_fine program well n) main_message (begun program) (opening_sound program well) tt) same
  where
    by : (done : Done) → IsFine program (begun program).heap done → report done ≡ r.Stuck lines → ⊥
    by (Gives value state) f e = absurd (cc)
    by (Stops (Back home value) state) f e = absurd (cc)
    by (Stops (Fails error) state) f e = absurd (cc)
    by (Stops Out state) f e = absurd (cc)
    by (Stops Stuck state) f e = f
