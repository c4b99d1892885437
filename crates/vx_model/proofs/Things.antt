-- Objects are sound: those that names mean, those at first, and those whose slots change.
use Rattle.std.proofs.Common.{◌≡◌, ◌⊎◌, Bool, true, false, List, [], ◌∷◌, map, codes, Option, Some, is_some, refl, sym, ap, ◌∙◌, subst, inl, inr}
use Rattle.std.specs.List.{AllByRecursion, slice_get, position_or_len}
use Rattle.std.specs.Option.{IfSome}
use Rattle.std.specs.Prelude.{if◌then◌else◌}
use Rattle.std.specs.Str.{bytes_eq}
use Rattle.std.proofs.lemmas.Bool.{false≢true, and_from, and_parts, not_from_false, not-true}
use Rattle.std.proofs.lemmas.List.Folds.{find_at}
use Rattle.vx_lists.specs.Members.{IsIn}
use Rattle.vx_lists.proofs.Finding.{found_is, is_found}
use Rattle.vx_lists.proofs.Members.{any_in, in_any}
use Rattle.vx_lists.proofs.Texts.{same_bytes, bytes_same}
use Rattle.vx_names.specs.declared.key.FieldKey.{FieldKey}
use Rattle.vx_syntax.specs.declared.decl.Decl.{Decl}
use Rattle.vx_syntax.specs.declared.decl.Decl.TheVariants as d
use Rattle.vx_syntax.specs.declared.decl.Start.{Start}
use Rattle.vx_syntax.specs.declared.decl.Start.TheVariants as s
use Rattle.vx_syntax.specs.Expressions.{Bytes}
use Rattle.vx_syntax.specs.Declarations.{any}
use Rattle.vx_program.specs.Prelude.{prelude}
use Rattle.vx_program.specs.Program.{IsProgram, is_name_of}
use Rattle.vx_model.specs.declared.value.Value.{Value}
use Rattle.vx_model.specs.declared.value.Thing.{Thing}
use Rattle.vx_model.specs.declared.value.Heap.{Heap}
use Rattle.vx_model.specs.Order.{plain_names}
use Rattle.vx_model.specs.Fields.{slots, field_at}
use Rattle.vx_model.specs.Holds.{same_field, slot}
use Rattle.vx_model.specs.Values.{object, nil, truth, start_value, fresh_slots, fresh, opening, unnamed, is_meant}
use Rattle.vx_model.specs.Meaning.{put_slot, filled}
use Rattle.vx_model.proofs.Orders.{chains}
use Rattle.vx_model.proofs.Bases.{in_plain}
use Rattle.vx_model.proofs.Within.{meant_slot}
use Rattle.vx_model.proofs.Sound.{IsLater, as_late, class, IsSound, AreSound, IsSlot, IsThing, IsHeap}

-- ---- the objects that names mean

-- the place of a name among others has that name
pub placed : (xs : List Bytes) (x : Bytes) → is_name_of xs x ≡ true → slice_get xs (position_or_len (λ y. bytes_eq y x) xs) ≡ Some x
placed xs x h =
    let some = in_any (λ y. bytes_eq y x) xs h in
    let first = is_found (λ y. bytes_eq y x) xs some.0 some.1 some.2 in
    let is = found_is (λ y. bytes_eq y x) xs first.0 first.1 in
    sym (find_at (λ y. bytes_eq y x) xs) ∙ first.1 ∙ ap Some (same_bytes first.0 x is.1)

-- the objects at first have the names as their classes
pub named_classes : (program : List Decl) (xs : List Bytes) → map class (map (fresh program) xs) ≡ xs
named_classes program [] = refl
named_classes program (x ∷ xs) = ap (λ (ys : List Bytes). x ∷ ys) (named_classes program xs)

-- What a name in a body means is sound, in whatever heap a program comes to.
pub meant_sound : (program : List Decl) {heap : Heap} → IsLater (opening program) heap → (x : Bytes) → is_meant program x ≡ true →
    IsSound heap (object program x)
meant_sound program later x h =
    let both = and_parts (is_name_of (plain_names program) x) _ h in (
      x,
      later.objects (position_or_len (λ y. bytes_eq y x) (plain_names program)) x
          (ap (λ (ys : List Bytes). slice_get ys (position_or_len (λ y. bytes_eq y x) (plain_names program))) (named_classes program (plain_names program))
          ∙ placed (plain_names program) x both.0),
      not-true (is_name_of unnamed x) both.1,
    )

-- the objects of the prelude are there
pub nil_there : IsIn (d.Object (codes "nil") (any ∷ [])) prelude
unfolding prelude
nil_there = inr (inr (inr (inr (inr (inl refl)))))

pub true_there : IsIn (d.Object (codes "true") (codes "bool" ∷ [])) prelude
unfolding prelude
true_there = inr (inr (inr (inr (inr (inr (inr (inl refl)))))))

pub false_there : IsIn (d.Object (codes "false") (codes "bool" ∷ [])) prelude
unfolding prelude
false_there = inr (inr (inr (inl refl)))

pub meant : (program : List Decl) → IsProgram program → (x : Bytes) (parents : List Bytes) → IsIn (d.Object x parents) prelude →
    is_name_of unnamed x ≡ false → is_meant program x ≡ true
meant program is x parents i other =
    and_from (is_name_of (plain_names program) x) _
    (any_in (λ y. bytes_eq y x) (plain_names program) x (in_plain program x parents (is.has_prelude (d.Object x parents) i)) (bytes_same x x refl))
    (not_from_false (is_name_of unnamed x) other)

pub nil_sound : (program : List Decl) → IsProgram program → {heap : Heap} → IsLater (opening program) heap → IsSound heap (nil program)
nil_sound program is later = meant_sound program later (codes "nil") (meant program is (codes "nil") (any ∷ []) nil_there refl)

pub truth_sound : (program : List Decl) → IsProgram program → {heap : Heap} → IsLater (opening program) heap → (b : Bool) → IsSound heap (truth program b)
truth_sound program is later true = meant_sound program later (codes "true") (meant program is (codes "true") (codes "bool" ∷ []) true_there refl)
truth_sound program is later false = meant_sound program later (codes "false") (meant program is (codes "false") (codes "bool" ∷ []) false_there refl)

start_sound : (program : List Decl) → IsProgram program → {heap : Heap} → IsLater (opening program) heap → (start : Start) →
    IsSound heap (start_value program start)
start_sound program is later s.Nil = nil_sound program is later
start_sound program is later s.True = truth_sound program is later true
start_sound program is later s.False = truth_sound program is later false
start_sound program is later (s.Int n) = tt
start_sound program is later (s.Text bytes) = tt

-- ---- slots

abbrev begun_slots : List Decl → List (FieldKey × Start) → List (FieldKey × Value)
begun_slots program fields = map (λ (field : FieldKey × Start). (field.0, start_value program field.1)) fields

found_first : {X : Type 0} (b : Bool) (x : X) (rest : Option X) → (b ≡ true) ⊎ (is_some rest ≡ true) → is_some (if b then Some x else rest) ≡ true
found_first true x rest h = refl
found_first false x rest (inl e) = absurd (false≢true e)
found_first false x rest (inr h) = h

same_field_itself : (a b : FieldKey) → a ≡ b → same_field a b ≡ true
same_field_itself a b e =
    ap (same_field a) (sym e)
    ∙ and_from (bytes_eq a.name a.name) (bytes_eq a.specialiser a.specialiser) (bytes_same a.name a.name refl) (bytes_same a.specialiser a.specialiser refl)

has_begun : (program : List Decl) (fields : List (FieldKey × Start)) (field : FieldKey × Start) → IsIn field fields →
    is_some (slot field.0 (begun_slots program fields)) ≡ true
has_begun program [] field i = absurd i
has_begun program (own ∷ fields) field (inl e) =
    found_first (same_field own.0 field.0) (start_value program own.1) (slot field.0 (begun_slots program fields))
    (inl (same_field_itself own.0 field.0 (ap (λ (z : FieldKey × Start). z.0) e)))
has_begun program (own ∷ fields) field (inr i) =
    found_first (same_field own.0 field.0) (start_value program own.1) (slot field.0 (begun_slots program fields)) (inr (has_begun program fields field i))

begun_sound : (program : List Decl) → IsProgram program → {heap : Heap} → IsLater (opening program) heap → (fields : List (FieldKey × Start)) →
    AllByRecursion (IsSlot heap) (begun_slots program fields)
begun_sound program is later [] = tt
begun_sound program is later (field ∷ fields) = (start_sound program is later field.1, begun_sound program is later fields)

-- A fresh object is sound,
pub fresh_sound : (program : List Decl) → IsProgram program → {heap : Heap} → IsLater (opening program) heap → (x : Bytes) →
    IsThing program heap (fresh program x)
fresh_sound program is later x = record {
  has_slots = has_begun program (slots program x);
  values = begun_sound program is later (slots program x);
}

-- and has a slot for the field that a name means for its class.
pub meant_has_slot : (program : List Decl) (x name : Bytes) (key : FieldKey) → field_at program x name ≡ Some key →
    is_some (slot key (fresh_slots program x)) ≡ true
meant_has_slot program x name key e =
    let own = meant_slot program chains x name key e in
    subst (λ z. is_some (slot z (fresh_slots program x)) ≡ true) own.2 (has_begun program (slots program x) own.0 own.1)

-- It stays sound with another value in a slot,
kept_first : {X : Type 0} (b : Bool) (x y : X) (old new : Option X) → (is_some old ≡ true → is_some new ≡ true) → is_some (if b then Some x else old) ≡ true →
    is_some (if b then Some y else new) ≡ true
kept_first true x y old new f h = refl
kept_first false x y old new f h = f h

still_slot : (key own : FieldKey) (value : Value) (slots : List (FieldKey × Value)) → is_some (slot key slots) ≡ true →
    is_some (slot key (put_slot own value slots)) ≡ true
still_slot key own value [] h = h
still_slot key own value (first ∷ rest) h = by (same_field first.0 own) (still_slot key own value rest)
  where
    by : (b : Bool) → (is_some (slot key rest) ≡ true → is_some (slot key (put_slot own value rest)) ≡ true) →
        is_some (slot key (if b then (first.0, value) ∷ rest else first ∷ put_slot own value rest)) ≡ true
    by true more = kept_first (same_field first.0 key) first.1 value (slot key rest) (slot key rest) (λ e. e) h
    by false more = kept_first (same_field first.0 key) first.1 first.1 (slot key rest) (slot key (put_slot own value rest)) more h

still_values : (heap : Heap) (own : FieldKey) (value : Value) → IsSound heap value → (slots : List (FieldKey × Value)) → AllByRecursion (IsSlot heap) slots →
    AllByRecursion (IsSlot heap) (put_slot own value slots)
still_values heap own value s [] all = tt
still_values heap own value s (first ∷ rest) all = by (same_field first.0 own) (still_values heap own value s rest all.1)
  where
    by : (b : Bool) → AllByRecursion (IsSlot heap) (put_slot own value rest) →
        AllByRecursion (IsSlot heap) (if b then (first.0, value) ∷ rest else first ∷ put_slot own value rest)
    by true more = (s, all.1)
    by false more = (all.0, more)

pub put_sound : (program : List Decl) (heap : Heap) (thing : Thing) → IsThing program heap thing → (key : FieldKey) (value : Value) → IsSound heap value →
    IsThing program heap (record thing { slots = put_slot key value thing.slots })
put_sound program heap thing is key value s = record {
  has_slots = λ field i. still_slot field.0 key value thing.slots (is.has_slots field i);
  values = still_values heap key value s thing.slots is.values;
}

-- or in several.
pub filled_sound : (program : List Decl) (heap : Heap) (x : Bytes) (keys : List FieldKey) (values : List Value) → AreSound heap values →
    (slots : List (FieldKey × Value)) →
    IsThing program heap (record { class = x; slots = slots }) → IsThing program heap (record { class = x; slots = filled keys values slots })
filled_sound program heap x [] values all slots is = is
filled_sound program heap x (key ∷ keys) [] all slots is = is
filled_sound program heap x (key ∷ keys) (value ∷ values) all slots is =
    filled_sound program heap x keys values all.1 (put_slot key value slots) (put_sound program heap (record { class = x; slots = slots }) is key value all.0)

-- What is in a slot is sound.
pub slot_sound : (heap : Heap) (key : FieldKey) (slots : List (FieldKey × Value)) → AllByRecursion (IsSlot heap) slots → IfSome (slot key slots) (IsSound heap)
slot_sound heap key [] all = tt
slot_sound heap key (first ∷ rest) all = by (same_field first.0 key) (slot_sound heap key rest all.1)
  where
    by : (b : Bool) → IfSome (slot key rest) (IsSound heap) → IfSome (if b then Some first.1 else slot key rest) (IsSound heap)
    by true more = all.0
    by false more = more

-- ---- the heap at first

-- The heap at first is sound.
pub opening_sound : (program : List Decl) → IsProgram program → IsHeap program (opening program)
opening_sound program is = record { begun = as_late (opening program); things = all (plain_names program); values = tt; held = tt }
  where
    all : (xs : List Bytes) → AllByRecursion (IsThing program (opening program)) (map (fresh program) xs)
    all [] = tt
    all (x ∷ xs) = (fresh_sound program is (as_late (opening program)) x, all xs)
