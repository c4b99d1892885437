-- Expressions and statements that stand in some text are never stuck, where calls are not.
use Rattle.std.proofs.Common.{◌≡◌, ℕ, suc, ◌<◌, Bool, true, false, ◌||◌, ◌&&◌, List, [], ◌∷◌, ◌++◌, length, codes, Option, Some, None, is_some, refl, sym, ap, ◌∙◌, subst, inl, inr, arith}
use Rattle.std.specs.List.{list_all}
use Rattle.std.specs.Option.{IfSome}
use Rattle.std.specs.Prelude.{◌==◌, if◌then◌else◌}
use Rattle.std.specs.Str.{bytes_eq}
use Rattle.std.proofs.lemmas.Bool.{false≢true, cases_Bool, cond-true, cond-false, and_from, and_parts, or_cases, or_left, or_right, both_ways, false_from_ne_true, not-true, eq-eqb}
use Rattle.std.proofs.lemmas.List.{length_push}
use Rattle.vx_lists.proofs.Each.{all_at}
use Rattle.vx_lists.proofs.Places.{stands, mapped_behind}
use Rattle.vx_lists.proofs.Texts.{same_bytes}
use Rattle.vx_names.specs.declared.key.FieldKey.{FieldKey}
use Rattle.vx_syntax.specs.declared.decl.Decl.{Decl}
use Rattle.vx_syntax.specs.declared.expr.Expr as x
use Rattle.vx_syntax.specs.declared.expr.Stmt as t
use Rattle.vx_syntax.specs.Expressions.{Bytes, Scope, is_bound, is_variable, brings, with_formals}
use Rattle.vx_syntax.specs.Written.{is_over, is_last, AreNew, IsWritten, AreWritten, AreFieldsWritten, IsBodyWritten, AreStated}
use Rattle.vx_program.specs.Prelude.{sealed}
use Rattle.vx_program.specs.Program.{IsProgram, is_name_of}
use Rattle.vx_model.specs.declared.value.Value.{Value}
use Rattle.vx_model.specs.declared.value.Value.TheVariants as v
use Rattle.vx_model.specs.declared.value.Local.{Local}
use Rattle.vx_model.specs.declared.value.Local.TheVariants as l
use Rattle.vx_model.specs.declared.value.Thing.{Thing}
use Rattle.vx_model.specs.declared.value.Held.{Held}
use Rattle.vx_model.specs.declared.value.Heap.{Heap}
use Rattle.vx_model.specs.declared.report.RunError.TheVariants as e
use Rattle.vx_model.specs.Order.{plain_names}
use Rattle.vx_model.specs.Fields.{field_at}
use Rattle.vx_model.specs.Holds.{slot}
use Rattle.vx_model.specs.Values.{object, nil, fresh_slots, unnamed, is_meant, is_made}
use Rattle.vx_model.specs.Meaning.{State, Back, Fails, Out, Stuck, Done, Gives, Stops, after, Message, Allowance, call, Frame, bound, given, named, assigned, field_names, keys_of, constructing, filled, are_filled, made, with_object, statements_of, closed, expression, parts, fields, in_scope, statements}
use Rattle.vx_model.proofs.Sound.{IsLater, as_late, later_on, class, IsSound, AreSound, IsLocal, AreBindings, Covers, IsHeld, IsHeap, still_sound, all_still_sound, still_bindings, with_value, later_thing, later_value, later_held, later_value_at, heap_with_thing, heap_with_value, heap_with_held, heap_with_value_at, with_value_at}
use Rattle.vx_model.proofs.Things.{meant_sound, nil_sound, fresh_sound, meant_has_slot, filled_sound}

-- ---- how an evaluation ends

-- An evaluation is fine where it ends with a sound heap that is later, and a sound value, or where no more follows; it is not where it is stuck.
abbrev pub IsFine : List Decl → Heap → Done → Type 0
IsFine program old (Gives value state) = IsHeap program state.heap × IsLater old state.heap × IsSound state.heap value
IsFine program old (Stops (Back home value) state) = IsHeap program state.heap × IsLater old state.heap × IsSound state.heap value
IsFine program old (Stops (Fails error) state) = Unit {0}
IsFine program old (Stops Out state) = Unit {0}
IsFine program old (Stops Stuck state) = ⊥

pub fine_later : (program : List Decl) {old new : Heap} → IsLater old new → (done : Done) → IsFine program new done → IsFine program old done
fine_later program later (Gives value state) f = (f.0, later_on later f.1, f.2)
fine_later program later (Stops (Back home value) state) f = (f.0, later_on later f.1, f.2)
fine_later program later (Stops (Fails error) state) f = tt
fine_later program later (Stops Out state) f = tt
fine_later program later (Stops Stuck state) f = f

pub after_fine : (program : List Decl) {old new : Heap} → IsLater old new → (done : Done) (go : Value → State → Done) → IsFine program new done →
    ((value : Value) (state : State) → IsHeap program state.heap → IsLater new state.heap → IsSound state.heap value → IsFine program old (go value state)) →
    IsFine program old (after done go)
after_fine program later (Gives value state) go f next = next value state f.0 f.1 f.2
after_fine program later (Stops stop state) go f next = fine_later program later (Stops stop state) f

-- an allowance is fine where each of its calls is, whatever its message
abbrev pub AreFine : List Decl → Allowance → Type 0
AreFine program [] = Unit {0}
AreFine program (does ∷ lower) =
    ((message : Message) (state : State) → IsHeap program state.heap → AreSound state.heap message.arguments → IsFine program state.heap (does message state))
    × AreFine program lower

pub call_fine : (program : List Decl) (lower : Allowance) → AreFine program lower → (message : Message) (state : State) → IsHeap program state.heap →
    AreSound state.heap message.arguments → IsFine program state.heap (call lower message state)
call_fine program [] fine message state is all = tt
call_fine program (does ∷ lower) fine message state is all = fine.0 message state is all

-- ---- activations

-- an activation, in whose scope a text stands
pub record IsFrame (heap : Heap) (static : Scope) (frame : Frame) : Type 0 where
  pub given_values : AreSound heap frame.arguments
  pub bindings : AreBindings heap frame.scope
  pub covers : Covers static frame.scope

pub still_frame : {old new : Heap} → IsLater old new → {static : Scope} {frame : Frame} → IsFrame old static frame → IsFrame new static frame
still_frame later {static} {frame} f = record {
  given_values = all_still_sound later frame.arguments f.given_values;
  bindings = still_bindings later frame.scope f.bindings;
  covers = f.covers;
}

-- a variable is in scope
pub variable_bound : (static : Scope) (y : Bytes) → is_variable static y ≡ true → is_bound static y ≡ true
variable_bound [] y h = absurd (false≢true h)
variable_bound (own ∷ static) y h =
    elim (or_cases (bytes_eq own.0 y && own.1) (is_variable static y) h) [
      | inl e ↦ or_left (bytes_eq own.0 y) (is_bound static y) (and_parts (bytes_eq own.0 y) own.1 e).0
      | inr e ↦ or_right (bytes_eq own.0 y) (is_bound static y) (variable_bound static y e)
    ]

-- and it is not what is brought into scope as no variable
pub still_variable : (static : Scope) (name y : Bytes) → is_variable ((name, false) ∷ static) y ≡ true → is_variable static y ≡ true
still_variable static name y h =
    elim (or_cases (bytes_eq name y && false) (is_variable static y) h) [
      | inl e ↦ absurd (false≢true (and_parts (bytes_eq name y) false e).1)
      | inr e ↦ e
    ]

pub other_name : (static : Scope) (name y : Bytes) → is_bound static name ≡ false → is_variable static y ≡ true → bytes_eq name y ≡ false
other_name static name y free h =
    false_from_ne_true (bytes_eq name y) (λ same.
    both_ways (is_bound static name) free
    (subst (λ z. is_bound static z ≡ true) (sym (same_bytes name y same)) (variable_bound static y h)))

pub let_frame : {heap : Heap} {static : Scope} {frame : Frame} → IsFrame heap static frame → (name : Bytes) (value : Value) →
    is_bound static name ≡ false → IsSound heap value → IsFrame heap ((name, false) ∷ static) (in_scope frame name (l.Plain value))
let_frame {heap} {static} {frame} f name value free s = record {
  given_values = f.given_values;
  bindings = (s, f.bindings);
  covers = λ y h.
      let old = still_variable static name y h in
      let r = f.covers y old in
      (r.0, cond-false (bytes_eq name y) (Some (l.Plain value)) (bound y frame.scope) (other_name static name y free old) ∙ r.1);
}

pub var_frame : {heap : Heap} {static : Scope} {frame : Frame} → IsFrame heap static frame → (name : Bytes) (i : ℕ) → i < length heap.cells →
    IsFrame heap ((name, true) ∷ static) (in_scope frame name (l.Cell i))
var_frame {heap} {static} {frame} f name i there = record {
  given_values = f.given_values;
  bindings = (there, f.bindings);
  covers = λ y h.
      elim (cases_Bool (bytes_eq name y)) [
        | inl same ↦ (i, cond-true (bytes_eq name y) (Some (l.Cell i)) (bound y frame.scope) same)
        | inr other ↦
            elim (or_cases (bytes_eq name y && true) (is_variable static y) h) [
              | inl e ↦ absurd (both_ways (bytes_eq name y) other (and_parts (bytes_eq name y) true e).0)
              | inr old ↦ let r = f.covers y old in (r.0, cond-false (bytes_eq name y) (Some (l.Cell i)) (bound y frame.scope) other ∙ r.1)
            ]
      ];
}

-- an evaluation that began in one heap, and has come to a state of an activation, in whose scope the text to come stands
pub record IsRunning (program : List Decl) (old : Heap) (static : Scope) (frame : Frame) (state : State) : Type 0 where
  pub sound : IsHeap program state.heap
  pub activation : IsFrame state.heap static frame
  pub since : IsLater old state.heap

runs_on : {program : List Decl} {old : Heap} {static : Scope} {frame : Frame} {state next : State} → IsRunning program old static frame state →
    IsHeap program next.heap → IsLater state.heap next.heap → IsRunning program old static frame next
runs_on running is later = record { sound = is; activation = still_frame later running.activation; since = later_on running.since later }

-- ---- expressions

bound_sound : (heap : Heap) (scope : List (Bytes × Local)) → AreBindings heap scope → (name : Bytes) → IfSome (bound name scope) (IsLocal heap)
bound_sound heap [] all name = tt
bound_sound heap (own ∷ rest) all name = by (bytes_eq own.0 name) (bound_sound heap rest all.1 name)
  where
    by : (b : Bool) → IfSome (bound name rest) (IsLocal heap) → IfSome (if b then Some own.1 else bound name rest) (IsLocal heap)
    by true more = all.0
    by false more = more

named_fine : (program : List Decl) (name : Bytes) (local : Option Local) (state : State) → IsHeap program state.heap → IfSome local (IsLocal state.heap) →
    IsFine program state.heap (named program name local state)
named_fine program name (Some (l.Plain value)) state is s = (is, as_late state.heap, s)
named_fine program name (Some (l.Cell i)) state is s =
    let r = stands state.heap.cells i s in
    subst (λ (o : Option Value). IsFine program state.heap (given o state)) (sym r.1)
    (is, as_late state.heap, all_at (IsSound state.heap) state.heap.cells i r.0 r.1 is.values)
named_fine program name None state is s = by (is_meant program name) refl
  where
    by : (b : Bool) → is_meant program name ≡ b →
        IsFine program state.heap (if b then Gives (object program name) state else Stops (Fails (e.UnknownObject name)) state)
    by true h = (is, as_late state.heap, meant_sound program is.begun name h)
    by false h = tt

over_last : {n : _} (row : x.Row_of-Stmt n) → is_over row ≡ true → is_last (statements_of row) ≡ true
over_last x.end_of-Stmt h = refl
over_last (x.more_of-Stmt a rest) h = absurd (false≢true h)

stated : {n : _} (row : x.Row_of-Stmt n) (static : Scope) → IsBodyWritten row static → AreStated (statements_of row) static
stated x.end_of-Stmt static h = tt
stated (x.more_of-Stmt a rest) static h = (h.0, (λ back. over_last rest (h.1 back)), stated rest (brings static a) h.2)

closed_fine : (program : List Decl) (static : Scope) (frame : Frame) (formals : List Bytes) (body : List t.Stmt) (state : State) →
    IsRunning program state.heap static frame state → AreNew static formals → AreStated body (with_formals static formals) →
    IsFine program state.heap (closed frame formals body state)
closed_fine program static frame formals body state running new all =
    let held : Held = record {
      method = frame.method;
      arguments = frame.arguments;
      formals = formals;
      body = record { 0 = body };
      home = frame.home;
      scope = frame.scope;
    } in
    let holds : IsHeld state.heap held = record {
      given = running.activation.given_values;
      bindings = running.activation.bindings;
      static = static;
      covers = running.activation.covers;
      fresh_formals = new;
      stated = all;
    } in
    (heap_with_held program state.heap held running.sound holds, later_held state.heap held, omega (arith, length_push state.heap.closures held))

-- as many keys as names, each of a slot that objects of the class have
record AreKeys (program : List Decl) (class : Bytes) (names : List Bytes) (keys : List FieldKey) : Type 0 where
  pub slots : list_all (λ key. is_some (slot key (fresh_slots program class))) keys ≡ true
  pub count : length keys ≡ length names

-- a constructor tries its names, and makes an object that is sound
keys_fine : (program : List Decl) (old : Heap) (name : Bytes) (names : List Bytes) (go : List FieldKey → Done) (state : State) →
    ((keys : List FieldKey) → AreKeys program name names keys → IsFine program old (go keys)) → IsFine program old (keys_of program name names go state)
keys_fine program old name [] go state next = next [] (record { slots = refl; count = refl })
keys_fine program old name (first ∷ names) go state next =
    by (field_at program name first) refl (λ key has. keys_fine program old name names (λ keys. go (key ∷ keys)) state (λ keys all.
    next (key ∷ keys) (record {
      slots = and_from (is_some (slot key (fresh_slots program name))) (list_all (λ own. is_some (slot own (fresh_slots program name))) keys) has all.slots;
      count = ap suc all.count;
    })))
  where
    by : (o : Option FieldKey) → field_at program name first ≡ o →
        ((key : FieldKey) → is_some (slot key (fresh_slots program name)) ≡ true →
        IsFine program old (keys_of program name names (λ keys. go (key ∷ keys)) state)) →
        IsFine program old (elim o [ Some key ↦ keys_of program name names (λ keys. go (key ∷ keys)) state | None ↦ Stops (Fails (e.NoField first)) state ])
    by (Some key) same more = more key (meant_has_slot program name first key same)
    by None same more = tt

constructing_fine : (program : List Decl) (old : Heap) (name : Bytes) (names : List Bytes) (go : List FieldKey → Done) (state : State) →
    (is_made program name ≡ true → (keys : List FieldKey) → AreKeys program name names keys → IsFine program old (go keys)) →
    IsFine program old (constructing program name names go state)
constructing_fine program old name names go state next = by (is_made program name) refl
  where
    by : (b : Bool) → is_made program name ≡ b →
        IsFine program old (if b then keys_of program name names go state else Stops (Fails (e.UnknownObject name)) state)
    by true h = keys_fine program old name names go state (next h)
    by false h = tt

-- what is made is none of the sealed objects, and so not one for which values stand
not_unnamed : (name : Bytes) → is_name_of sealed name ≡ false → is_name_of unnamed name ≡ false
not_unnamed name h =
    by (bytes_eq (codes "int") name) (bytes_eq (codes "string") name) (bytes_eq (codes "closure") name)
    (is_name_of (codes "true" ∷ codes "false" ∷ codes "nil" ∷ []) name) h
  where
    by : (a b c d : Bool) → (a || (b || (c || d))) ≡ false → (a || (b || (c || false))) ≡ false
    by true b c d h = h
    by false true c d h = h
    by false false true d h = h
    by false false false d h = refl

-- what a constructor makes an object of
record IsMaking (program : List Decl) (class : Bytes) (keys : List FieldKey) (values : List Value) : Type 0 where
  pub is_class : is_made program class ≡ true
  pub fills : are_filled keys values (fresh_slots program class) ≡ true

making : (program : List Decl) (class : Bytes) (names : List Bytes) (keys : List FieldKey) (values : List Value) → is_made program class ≡ true →
    AreKeys program class names keys → length values ≡ length names → IsMaking program class keys values
making program class names keys values h all count = record {
  is_class = h;
  fills = and_from (list_all (λ key. is_some (slot key (fresh_slots program class))) keys) (length keys == length values) all.slots
      (eq-eqb (length keys) (length values) (all.count ∙ sym count));
}

made_fine : (program : List Decl) → IsProgram program → (name : Bytes) (keys : List FieldKey) (values : List Value) → IsMaking program name keys values →
    (state : State) → IsHeap program state.heap → AreSound state.heap values → IsFine program state.heap (made program name keys values state)
made_fine program well name keys values h state is all = by (are_filled keys values (fresh_slots program name)) h.fills
  where
    thing : Thing
    thing = record { class = name; slots = filled keys values (fresh_slots program name) }

    by : (b : Bool) → b ≡ true →
        IsFine program state.heap (if b then Gives (v.Object (length state.heap.objects)) (with_object state thing) else Stops Stuck state)
    by true e = (
      heap_with_thing program state.heap thing is
          (filled_sound program state.heap name keys values all (fresh_slots program name) (fresh_sound program well is.begun name)),
      later_thing state.heap thing,
      (
        name,
        mapped_behind class state.heap.objects thing,
        not_unnamed name (not-true (is_name_of sealed name) (and_parts (is_name_of (plain_names program) name) _ h.is_class).1),
      ),
    )
    by false e = absurd (false≢true e)

module _ (program : List Decl) (well : IsProgram program) (lower : Allowance) (fine : AreFine program lower) where
  mutual
    pub expression_fine : (a : x.Expr) (static : Scope) → IsWritten a static → (frame : Frame) (state : State) → IsHeap program state.heap →
        IsFrame state.heap static frame → IsFine program state.heap (expression program a lower frame state)
    expression_fine (x.Int n) static w frame state is f = (is, as_late state.heap, tt)
    expression_fine (x.Text bytes) static w frame state is f = (is, as_late state.heap, tt)
    expression_fine (x.Name name) static w frame state is f =
        named_fine program name (bound name frame.scope) state is (bound_sound state.heap frame.scope f.bindings name)
    expression_fine (x.Closure' formals shape row) static w frame state is f =
        closed_fine program static frame formals (statements_of row) state (record { sound = is; activation = f; since = as_late state.heap })
        w.0 (stated row (with_formals static formals) w.2)
    expression_fine x.Resend static w frame state is f = call_fine program lower fine _ state is f.given_values
    expression_fine (x.Send' selector shape row) static w frame state is f =
        parts_fine row static w.2 frame state (record { sound = is; activation = f; since = as_late state.heap }) _ (λ values state' is' later all.
        fine_later program later _ (call_fine program lower fine _ state' is' all))
    expression_fine (x.New' name shape row) static w frame state is f =
        constructing_fine program state.heap name (field_names row) _ state (λ h keys are.
        fields_fine row [] static w.1 frame state (record { sound = is; activation = f; since = as_late state.heap }) (made program name keys)
        (λ values count state' is' later all.
        fine_later program later (made program name keys values state')
        (made_fine program well name keys values (making program name (field_names row) keys values h are count) state' is' all)))

    -- parts in order, and then what follows
    parts_fine : {n : _} (row : x.Row_of-Expr n) (static : Scope) → AreWritten row static → (frame : Frame) (state : State) → {old : Heap} →
        IsRunning program old static frame state → (go : List Value → State → Done) →
        ((values : List Value) (state' : State) → IsHeap program state'.heap → IsLater state.heap state'.heap → AreSound state'.heap values →
        IsFine program old (go values state')) → IsFine program old (parts program row lower frame state go)
    parts_fine x.end_of-Expr static w frame state running go next = next [] state running.sound (as_late state.heap) tt
    parts_fine (x.more_of-Expr part rest) static w frame state running go next =
        after_fine program running.since (expression program part lower frame state) _
        (expression_fine part static w.0 frame state running.sound running.activation) (λ value state' is' later s.
        parts_fine rest static w.1 frame state' (runs_on running is' later) (λ values. go (value ∷ values)) (λ values state'' is'' later' all.
        next (value ∷ values) state'' is'' (later_on later later') (still_sound later' value s, all)))

    fields_fine : {n : _} (row : x.Row_of-Expr-New-1-2 n) (names : List Bytes) (static : Scope) → AreFieldsWritten row names static →
        (frame : Frame) (state : State) →
        {old : Heap} → IsRunning program old static frame state → (go : List Value → State → Done) →
        ((values : List Value) → length values ≡ length (field_names row) → (state' : State) → IsHeap program state'.heap → IsLater state.heap state'.heap →
        AreSound state'.heap values → IsFine program old (go values state')) → IsFine program old (fields program row lower frame state go)
    fields_fine x.end_of-Expr-New-1-2 names static w frame state running go next = next [] refl state running.sound (as_late state.heap) tt
    fields_fine (x.more_of-Expr-New-1-2 name part rest) names static w frame state running go next =
        after_fine program running.since (expression program part lower frame state) _
        (expression_fine part static w.3 frame state running.sound running.activation) (λ value state' is' later s.
        fields_fine rest (names ++ name ∷ []) static w.4 frame state' (runs_on running is' later) (λ values. go (value ∷ values))
        (λ values count state'' is'' later' all.
        next (value ∷ values) (ap suc count) state'' is'' (later_on later later') (still_sound later' value s, all)))

  -- ---- statements

  -- The statements of a body are fine.
  pub statements_fine : (body : List t.Stmt) (static : Scope) → AreStated body static → (frame : Frame) (last : Value) (state : State) → {old : Heap} →
      IsRunning program old static frame state → IsSound state.heap last → IsFine program old (statements program body lower frame last state)
  statements_fine [] static w frame last state running s = (running.sound, running.since, s)
  statements_fine (t.Let name part ∷ rest) static w frame last state running s =
      after_fine program running.since (expression program part lower frame state) _
      (expression_fine part static w.0.2 frame state running.sound running.activation) (λ value state' is' later s'.
      statements_fine rest ((name, false) ∷ static) w.2 (in_scope frame name (l.Plain value)) (nil program) state'
      (record {
        sound = is';
        activation = let_frame (still_frame later running.activation) name value w.0.1 s';
        since = later_on running.since later;
      }) (nil_sound program well is'.begun))
  statements_fine (t.LetVar name part ∷ rest) static w frame last state running s =
      after_fine program running.since (expression program part lower frame state) _
      (expression_fine part static w.0.2 frame state running.sound running.activation) (λ value state' is' later s'.
      let more = later_value state'.heap value in
      statements_fine rest ((name, true) ∷ static) w.2 (in_scope frame name (l.Cell (length state'.heap.cells))) (nil program)
      (record state' { heap = with_value state'.heap value })
      (record {
        sound = heap_with_value program state'.heap value is' s';
        activation = var_frame (still_frame more (still_frame later running.activation)) name (length state'.heap.cells)
            (omega (arith, length_push state'.heap.cells value));
        since = later_on running.since (later_on later more);
      }) (nil_sound program well (later_on is'.begun more)))
  statements_fine (t.Set name part ∷ rest) static w frame last state {old} running s =
      let r = running.activation.covers name w.0.1 in
      after_fine program running.since (expression program part lower frame state) _
      (expression_fine part static w.0.2 frame state running.sound running.activation) (λ value state' is' later s'.
      let more = later_value_at state'.heap r.0 value in
      let there : r.0 < length state'.heap.cells =
      subst (λ (o : Option Local). IfSome o (IsLocal state'.heap)) r.1
      (bound_sound state'.heap frame.scope (still_frame later running.activation).bindings name) in
      let cell = stands state'.heap.cells r.0 there in
      let next : State = record state' { heap = with_value_at state'.heap r.0 value } in
      subst (λ (local : Option Local). IsFine program old (assigned local value state' (statements program rest lower frame (nil program)))) (sym r.1)
      (subst (λ (o : Option Value). IsFine program old
      (elim o [ Some own ↦ statements program rest lower frame (nil program) next | None ↦ Stops Stuck state' ])) (sym cell.1)
      (statements_fine rest static w.2 frame (nil program) next
      (runs_on running (heap_with_value_at program state'.heap r.0 value is' s') (later_on later more))
      (nil_sound program well (later_on is'.begun more)))))
  statements_fine (t.Do part ∷ rest) static w frame last state running s =
      after_fine program running.since (expression program part lower frame state) _
      (expression_fine part static w.0 frame state running.sound running.activation) (λ value state' is' later s'.
      statements_fine rest static w.2 frame value state' (runs_on running is' later) s')
  statements_fine (t.Back part ∷ rest) static w frame last state running s =
      after_fine program running.since (expression program part lower frame state) _
      (expression_fine part static w.0 frame state running.sound running.activation) (λ value state' is' later s'.
      (is', later_on running.since later, s'))
