-- Slots of words and slots of values.
use Rattle.std.proofs.Common.{◌≡◌, ℕ, suc, ◌+◌, ◌<◌, eqb, true, false, List, [], ◌∷◌, length, map, set, Option, Some, None, refl, sym, ap, ◌∙◌, arith, inl, inr}
use Rattle.std.specs.Option.{option_map}
use Rattle.std.specs.Prelude.{slice_get}
use Rattle.std.proofs.lemmas.List.{map-set}
use Rattle.std.proofs.lemmas.Option.{slice_get-map}
use Rattle.std.proofs.lemmas.Bool.{cases_Bool, eqb-true}
use Rattle.vx_model.specs.declared.value.Value.{Value}
use Rattle.vx_model.specs.declared.value.Value.TheVariants as v
use Rattle.vx_format.specs.declared.image.Image.{Image}
use Rattle.vx_compilation.specs.Machine.{On, Finds, gets, sets, gives, puts}
use Rattle.vx_places.specs.Dispatch.{Placed, slot_at, slot_of}
use Rattle.vx_places.specs.ImageMachine.{world, put, changed, put_slot}
use Rattle.vx_machine.specs.declared.word.Word.{Word}
use Rattle.vx_machine.specs.declared.word.Word.TheVariants as w
use Rattle.vx_machine.specs.declared.word.Object.{Object}
use Rattle.vx_machine.specs.Cuts.{Stacked, pushed}
use Rattle.vx_machine.specs.Slots.{Changes, held_at, place_from, put_at, put_word, word_at}
use Rattle.vx_machine.specs.Meaning.{Kept, Whole, arguments, frames, machine_of, placed_of, state_of, value_of}

-- ---- places of slots

pub record Placing (field n : ℕ) (slots : List (ℕ × Word)) (i : ℕ) : Type 0 where
  pub k : ℕ
  pub at : i ≡ n + k
  pub within : k < length slots
  pub held : Word
  pub has : word_at field slots ≡ Some held
  pub puts : (word : Word) → put_word field word slots ≡ set slots k (field, word)

pub placing : (field n : ℕ) (slots : List (ℕ × Word)) (i : ℕ) → place_from field n slots ≡ Some i → Placing field n slots i
placing field n [] i e = absurd cc
placing field n (slot ∷ rest) i e = elim (cases_Bool (eqb slot.0 field)) [
  | inl is ↦
      let here : Some n ≡ Some i = rw is at e in
      let same : n ≡ i = cc in
      record {
        k = 0;
        at = omega (arith, same);
        within = omega arith;
        held = slot.1;
        has = rw is refl;
        puts = λ word. rw is (ap (λ (f : ℕ). (f, word) ∷ rest) (eqb-true slot.0 field is));
      }
  | inr is ↦ later is (placing field (suc n) rest i (rw is at e))
] where
  later : eqb slot.0 field ≡ false → Placing field (suc n) rest i → Placing field n (slot ∷ rest) i
  later is p = record {
    k = suc p.k;
    at = omega (arith, p.at);
    within = omega (arith, p.within);
    held = p.held;
    has = rw is p.has;
    puts = λ word. rw is (ap (λ (xs : List (ℕ × Word)). slot ∷ xs) (p.puts word));
  }

pub no_place : (field n : ℕ) (slots : List (ℕ × Word)) → place_from field n slots ≡ None → word_at field slots ≡ None
no_place field n [] e = refl
no_place field n (slot ∷ rest) e = elim (cases_Bool (eqb slot.0 field)) [
  | inl is ↦ let here : Some n ≡ None = rw is at e in absurd cc
  | inr is ↦ rw is (no_place field (suc n) rest (rw is at e))
]

pub changes : (objects : List Object) (number field i : ℕ) (word : Word) (object : Object) → slice_get objects number ≡ Some object
    → place_from field 0 object.slots ≡ Some i → Changes true number field word objects (set objects number (put_at i field word object))
changes objects number field i word object at place =
    let p = placing field 0 object.slots i place in
    let same : i ≡ p.k = omega (arith, p.at) in (
      object,
      p.held,
      at,
      p.has,
      ap (λ (slots : List (ℕ × Word)). set objects number (record object { slots = slots }))
          (ap (λ (k : ℕ). set object.slots k (field, word)) same ∙ sym (p.puts word)),
    )

pub not_held : (objects : List Object) (number field : ℕ) (object : Object) → slice_get objects number ≡ Some object → word_at field object.slots ≡ None
    → held_at objects number field ≡ None
not_held objects number field object at none =
    ap (λ (o : Option Object). elim o as (λ o'. Option Word) [ Some own ↦ word_at field own.slots | None ↦ None ]) at ∙ none

-- ---- slots mean slots

pub slot_mapped : (texts : List (List ℕ)) (field : ℕ) (slots : List (ℕ × Word))
    → slot_at field (map (λ slot. (slot.0, value_of texts slot.1)) slots) ≡ option_map (value_of texts) (word_at field slots)
slot_mapped texts field [] = refl
slot_mapped texts field (slot ∷ slots) = elim (cases_Bool (eqb slot.0 field)) [ inl is ↦ rw is refl | inr is ↦ rw is (slot_mapped texts field slots) ]

pub put_mapped : (texts : List (List ℕ)) (field : ℕ) (word : Word) (slots : List (ℕ × Word))
    → put_slot field (value_of texts word) (map (λ slot. (slot.0, value_of texts slot.1)) slots)
    ≡ map (λ slot. (slot.0, value_of texts slot.1)) (put_word field word slots)
put_mapped texts field word [] = refl
put_mapped texts field word (slot ∷ slots) = elim (cases_Bool (eqb slot.0 field)) [
  | inl is ↦ rw is refl
  | inr is ↦ rw is (ap (λ (xs : List (ℕ × Value)). (slot.0, value_of texts slot.1) ∷ xs) (put_mapped texts field word slots))
]

slot_one : (texts : List (List ℕ)) (field : ℕ) (found : Option Object)
    → (elim (option_map (placed_of texts) found) as (λ o. Option Value) [ Some thing ↦ slot_at field thing.slots | None ↦ None ])
    ≡ option_map (value_of texts) (elim found as (λ o. Option Word) [ Some object ↦ word_at field object.slots | None ↦ None ])
slot_one texts field None = refl
slot_one texts field (Some object) = slot_mapped texts field object.slots

pub slot_is : (texts : List (List ℕ)) (objects : List Object) (o field : ℕ)
    → slot_of (map (placed_of texts) objects) (v.Object o) field ≡ option_map (value_of texts) (held_at objects o field)
slot_is texts objects o field =
    ap (λ (t : Option Placed). elim t as (λ t'. Option Value) [ Some thing ↦ slot_at field thing.slots | None ↦ None ])
    (slice_get-map (placed_of texts) objects o)
    ∙ slot_one texts field (slice_get objects o)

changed_is : (texts : List (List ℕ)) (objects : List Object) (o field : ℕ) (word : Word) (object : Object) → slice_get objects o ≡ Some object
    → changed field (v.Object o) (value_of texts word) (map (placed_of texts) objects)
    ≡ Some (map (placed_of texts) (set objects o (record object { slots = put_word field word object.slots })))
changed_is texts objects o field word object at =
    ap (λ (t : Option Placed). elim t as (λ t'. Option (List Placed)) [
      | Some own ↦ Some (set (map (placed_of texts) objects) o (record own { slots = put_slot field (value_of texts word) own.slots }))
      | None ↦ None
    ]) (slice_get-map (placed_of texts) objects o ∙ ap (option_map (placed_of texts)) at)
    ∙ ap (λ (slots : List (ℕ × Value)). Some (set (map (placed_of texts) objects) o (record { class = object.class; slots = slots })))
    (put_mapped texts field word object.slots)
    ∙ ap (λ (things : List Placed). Some things) (sym (map-set (placed_of texts) objects o (record object { slots = put_word field word object.slots })))

-- ---- accessors

-- a machine with this on its stacks
pub stacked_as : (old : Kept) (s : Stacked) → old.stacked ≡ s → old ≡ record old { stacked = s }
stacked_as old s e = ap (λ (stacked : Stacked). record old { stacked = stacked }) e

pub gets_as : (image : Image) (all : Whole) (old : Kept) (s : Stacked) (o field : ℕ) → old.stacked ≡ pushed (w.Object o) s
    → gets (world image) field (arguments all 1 old) (frames image all 1 old) (state_of all old)
    ≡ gives (option_map (value_of all.texts) (held_at old.objects o field)) (frames image all 1 (record old { stacked = pushed (w.Object o) s }))
    (state_of all old)
gets_as image all old s o field e =
    ap (λ (m : Kept). gets (world image) field (arguments all 1 m) (frames image all 1 m) (state_of all m)) (stacked_as old (pushed (w.Object o) s) e)
    ∙ ap (λ (t : Option Value). gives t (frames image all 1 (record old { stacked = pushed (w.Object o) s })) (state_of all old))
    (slot_is all.texts old.objects o field)

pub gets_done : (image : Image) (all : Whole) (old : Kept) (s : Stacked) (o field : ℕ) (word : Word) → old.stacked ≡ pushed (w.Object o) s
    → held_at old.objects o field ≡ Some word
    → gets (world image) field (arguments all 1 old) (frames image all 1 old) (state_of all old) ≡ On
    (machine_of image all (record old { stacked = pushed word s }))
gets_done image all old s o field word e at =
    gets_as image all old s o field e ∙ ap (λ (t : Option Word). gives (option_map (value_of all.texts) t)
    (frames image all 1 (record old { stacked = pushed (w.Object o) s })) (state_of all old)) at

pub gets_finds : (image : Image) (all : Whole) (old : Kept) (s : Stacked) (o field : ℕ) → old.stacked ≡ pushed (w.Object o) s
    → held_at old.objects o field ≡ None → gets (world image) field (arguments all 1 old) (frames image all 1 old) (state_of all old) ≡ Finds
gets_finds image all old s o field e at =
    gets_as image all old s o field e ∙ ap (λ (t : Option Word). gives (option_map (value_of all.texts) t)
    (frames image all 1 (record old { stacked = pushed (w.Object o) s })) (state_of all old)) at

-- what is put
put_one : (field : ℕ) (own value : Value) (objects : List Placed) (found : Option Value) → slot_of objects own field ≡ found
    → put field own value objects ≡ (elim found as (λ o. Option (List Placed)) [ Some old ↦ changed field own value objects | None ↦ None ])
put_one field own value objects found at =
    ap (λ (o : Option Value). elim o as (λ o'. Option (List Placed)) [ Some old ↦ changed field own value objects | None ↦ None ]) at

pub sets_done : (image : Image) (all : Whole) (old : Kept) (s : Stacked) (o field : ℕ) (word : Word) (objects : List Object)
    → old.stacked ≡ pushed word (pushed (w.Object o) s) → Changes true o field word old.objects objects
    → sets (world image) field (arguments all 2 old) (frames image all 2 old) (state_of all old)
    ≡ On (machine_of image all (record old { stacked = pushed (w.Object image.own.nil) s; objects = objects }))
sets_done image all old s o field word objects e (object, held, at, has, is) =
    let slot : slot_of (map (placed_of all.texts) old.objects) (v.Object o) field ≡ Some (value_of all.texts held) =
    slot_is all.texts old.objects o field
    ∙ ap (option_map (value_of all.texts)) (ap (λ (t : Option Object). elim t as
    (λ t'. Option Word) [ Some own ↦ word_at field own.slots | None ↦ None ]) at ∙ has) in
    ap (λ (m : Kept). sets (world image) field (arguments all 2 m) (frames image all 2 m) (state_of all m))
    (stacked_as old (pushed word (pushed (w.Object o) s)) e)
    ∙ ap (λ (t : Option (List Placed)). puts (world image) t (frames image all 2 (record old { stacked = pushed word (pushed (w.Object o) s) }))
    (state_of all old))
    (put_one field (v.Object o) (value_of all.texts word) (map (placed_of all.texts) old.objects) (Some (value_of all.texts held)) slot
    ∙ changed_is all.texts old.objects o field word object at ∙ ap (λ (os : List Object). Some (map (placed_of all.texts) os)) (sym is))

pub sets_finds : (image : Image) (all : Whole) (old : Kept) (s : Stacked) (o field : ℕ) (word : Word)
    → old.stacked ≡ pushed word (pushed (w.Object o) s) → held_at old.objects o field ≡ None
    → sets (world image) field (arguments all 2 old) (frames image all 2 old) (state_of all old) ≡ Finds
sets_finds image all old s o field word e none =
    ap (λ (m : Kept). sets (world image) field (arguments all 2 m) (frames image all 2 m) (state_of all m))
    (stacked_as old (pushed word (pushed (w.Object o) s)) e)
    ∙ ap (λ (t : Option (List Placed)). puts (world image) t (frames image all 2 (record old { stacked = pushed word (pushed (w.Object o) s) }))
    (state_of all old))
    (put_one field (v.Object o) (value_of all.texts word) (map (placed_of all.texts) old.objects) None
    (slot_is all.texts old.objects o field ∙ ap (option_map (value_of all.texts)) none))
