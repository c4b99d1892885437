-- Slots, sought from the first one on.
use Rattle.std.proofs.Common.{◌≡◌, ◌∙◌, ℕ, zero, suc, List, [], ◌∷◌, ◌++◌, ◌<◌, ◌≤◌, ◌+◌, min, ◌&&◌, Bool, true, false, length, take, drop, set, get_or, sym, ap, refl, arith}
use Rattle.std.proofs.lemmas.Bool.{cond-true, cond-false}
use Rattle.std.proofs.Math.ListN.{drop_of_length-le}
use Rattle.std.proofs.Math.Numerals.{suc-eq-add-one}
use Rattle.std.specs.Str.{bytes_eq}
use Rattle.vx_lists.proofs.Texts.{same_bytes}
use Rattle.vx_names.specs.declared.key.FieldKey.{FieldKey}
use Rattle.vx_model.specs.declared.value.Value.{Value}
use Rattle.vx_model.specs.Holds.{same_field}
use Rattle.vx_model.specs.Meaning.{put_slot, filled}

and_both : (a b : Bool) → (a && b) ≡ true → (a ≡ true) × (b ≡ true)
and_both true b h = (refl, h)
and_both false b h = absurd (cc)

same_fields : (a b : FieldKey) → a.name ≡ b.name → a.specialiser ≡ b.specialiser → a ≡ b
same_fields a b n s = ap (λ x. record { name = x; specialiser = a.specialiser }) n ∙ ap (λ x. record { name = b.name; specialiser = x }) s

-- keys that are the same are equal
same_keys : (a b : FieldKey) → same_field a b ≡ true → a ≡ b
same_keys a b h = let parts = and_both (bytes_eq a.name b.name) (bytes_eq a.specialiser b.specialiser) h in same_fields a b (same_bytes a.name b.name parts.0) (same_bytes a.specialiser b.specialiser parts.1)

-- the value goes into the slot at the place, if those before it are passed
pub put_here : (key : FieldKey) (value : Value) (slots : List (FieldKey × Value)) (i : ℕ) (own : FieldKey × Value) → i < length slots → own ≡ get_or slots i own →
    true ≡ same_field own.0 key → take i slots ++ put_slot key value (drop i slots) ≡ set slots i (key, value)
put_here key value [] i own lt at h = absurd (omega (arith, lt))
put_here key value (first ∷ rest) zero own lt at h =
    let e = ap (λ (slot : FieldKey × Value). same_field slot.0 key) (sym at) ∙ sym h in
    cond-true (same_field first.0 key) ((first.0, value) ∷ rest) (first ∷ put_slot key value rest) e ∙ ap (λ k. (k, value) ∷ rest) (same_keys first.0 key e)
put_here key value (first ∷ rest) (suc i) own lt at h = ap (λ l. first ∷ l) (put_here key value rest i own (omega (arith, lt)) at h)

passes : (key : FieldKey) (value : Value) (slots : List (FieldKey × Value)) (i : ℕ) (own : FieldKey × Value) → i < length slots → own ≡ get_or slots i own →
    false ≡ same_field own.0 key → take i slots ++ put_slot key value (drop i slots) ≡ take (suc i) slots ++ put_slot key value (drop (suc i) slots)
passes key value [] i own lt at h = absurd (omega (arith, lt))
passes key value (first ∷ rest) zero own lt at h =
    cond-false (same_field first.0 key) ((first.0, value) ∷ rest) (first ∷ put_slot key value rest) (ap (λ (slot : FieldKey × Value). same_field slot.0 key) (sym at) ∙ sym h)
passes key value (first ∷ rest) (suc i) own lt at h = ap (λ l. first ∷ l) (passes key value rest i own (omega (arith, lt)) at h)

-- a slot of another key is passed
pub put_on : (key : FieldKey) (value : Value) (slots : List (FieldKey × Value)) (i : ℕ) (own : FieldKey × Value) → i < length slots → own ≡ get_or slots i own →
    false ≡ same_field own.0 key → take i slots ++ put_slot key value (drop i slots) ≡ take (i + 1) slots ++ put_slot key value (drop (i + 1) slots)
put_on key value slots i own lt at h = passes key value slots i own lt at h ∙ ap (λ n. take n slots ++ put_slot key value (drop n slots)) (suc-eq-add-one i)

-- past the last slot nothing is put
pub put_past : (key : FieldKey) (value : Value) (slots : List (FieldKey × Value)) (i : ℕ) → length slots ≤ i → take i slots ++ put_slot key value (drop i slots) ≡ slots
put_past key value [] zero past = refl
put_past key value [] (suc i) past = refl
put_past key value (own ∷ rest) zero past = absurd (omega (arith, past))
put_past key value (own ∷ rest) (suc i) past = ap (λ l. own ∷ l) (put_past key value rest i (omega (arith, past)))

no_values : (keys : List FieldKey) (slots : List (FieldKey × Value)) → filled keys [] slots ≡ slots
no_values [] slots = refl
no_values (key ∷ keys) slots = refl

-- where the keys or the values are used up, nothing more is put
pub fill_past : (keys : List FieldKey) (values : List Value) (i : ℕ) (slots : List (FieldKey × Value)) →
    min (length keys) (length values) ≤ i → filled (drop i keys) (drop i values) slots ≡ slots
fill_past [] values i slots past = ap (λ l. filled l (drop i values) slots) (drop_of_length-le [] (omega arith))
fill_past (key ∷ keys) [] i slots past = ap (λ l. filled (drop i (key ∷ keys)) l slots) (drop_of_length-le [] (omega arith)) ∙ no_values (drop i (key ∷ keys)) slots
fill_past (key ∷ keys) (value ∷ values) zero slots past = absurd (omega (arith, past))
fill_past (key ∷ keys) (value ∷ values) (suc i) slots past = fill_past keys values i slots (omega (arith, past))
