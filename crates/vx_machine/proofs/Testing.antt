-- Tests of objects by their slots.
use Rattle.std.proofs.Common.{◌≡◌, ℕ, zero, suc, ◌<◌, ◌≤◌, max, sym, ℤ, Bool, false, List, [], ◌∷◌, length, drop, map}
use Rattle.std.proofs.Common.{Option, Some, None, refl, ap, ◌∙◌, arith}
use Rattle.std.specs.Option.{option_map}
use Rattle.std.specs.Prelude.{slice_get}
use Rattle.std.proofs.lemmas.Option.{slice_get-map}
use Rattle.std.proofs.lemmas.List.{drop_all}
use Rattle.std.specs.List.{list_all}
use Rattle.std.specs.Prelude.{bit_and, ◌&&◌, true}
use Rattle.vx_tables.specs.Masks.{has}
use Rattle.vx_tables.proofs.Bits.{has_and}
use Rattle.vx_format.specs.declared.image.Own.{Own}
use Rattle.vx_format.specs.declared.image.Position.{Position}
use Rattle.vx_format.specs.declared.image.Table.{Table}
use Rattle.vx_format.specs.declared.image.Image.{Image}
use Rattle.vx_model.specs.declared.value.Value.{Value}
use Rattle.vx_model.specs.declared.value.Value.TheVariants as v
use Rattle.vx_places.specs.Dispatch.{Placed, class_of, class_mask, compared, field_at, is_true_of, mask_of, masks_of, slot_of, with_tests}
use Rattle.vx_machine.specs.declared.word.Object.{Object}
use Rattle.vx_machine.specs.Slots.{class_at, held_at}
use Rattle.vx_machine.specs.Masks.{mask_one}
use Rattle.vx_machine.specs.declared.word.Word.{Word}
use Rattle.vx_machine.specs.Meaning.{Texts, beats_of, placed_of, things_of, value_of}
use Rattle.vx_machine.proofs.Fielding.{slot_is}

pub field_found : (fields : List (Option ℕ)) (name : ℕ) (field : Option ℕ) → slice_get fields name ≡ Some field → field_at fields name ≡ field
field_found [] name field e = absurd cc
field_found (own ∷ fields) zero field e = let same : own ≡ field = cc in same
field_found (own ∷ fields) (suc name) field e = field_found fields name field e

pub field_missing : (fields : List (Option ℕ)) (name : ℕ) → slice_get fields name ≡ None → field_at fields name ≡ None
field_missing [] name e = refl
field_missing (own ∷ fields) zero e = absurd cc
field_missing (own ∷ fields) (suc name) e = field_missing fields name e

pub true_of_object : (texts : Texts) (objects : List Object) (fields : List (Option ℕ)) (operator name o field : ℕ) (z : ℤ) → field_at fields name ≡ Some field
    → is_true_of (things_of texts objects) (v.Object o) fields operator name z ≡ compared (option_map (value_of texts) (held_at objects o field)) operator z
true_of_object texts objects fields operator name o field z at =
    ap (λ (f : Option ℕ). elim f as (λ f'. Bool) [
      | Some own ↦ compared (slot_of (map (placed_of texts) objects) (v.Object o) own) operator z
      | None ↦ false
    ]) at ∙ ap (λ (held : Option Value). compared held operator z) (slot_is texts objects o field)

class_one : (texts : Texts) (found : Option Object)
    → (elim (option_map (placed_of texts) found) as (λ o. Option ℕ) [ Some thing ↦ Some thing.class | None ↦ None ])
    ≡ (elim found as (λ o. Option ℕ) [ Some object ↦ Some object.class | None ↦ None ])
class_one texts None = refl
class_one texts (Some object) = refl

pub class_of_object : (texts : Texts) (own : Own) (objects : List Object) (o : ℕ) → class_of own (things_of texts objects) (v.Object o) ≡ class_at objects o
class_of_object texts own objects o =
    ap (λ (t : Option Placed). elim t as (λ t'. Option ℕ) [ Some thing ↦ Some thing.class | None ↦ None ]) (slice_get-map (placed_of texts) objects o)
    ∙ class_one texts (slice_get objects o)

-- ---- masks

pub mask_of_class : (image : Image) (things : List Placed) (value : Value) (position : Position) (class : ℕ) → class_of image.own things value ≡ Some class
    → mask_of image things value position ≡ with_tests image things value class (class_mask position.default class position.classes) position.tests
mask_of_class image things value position class at =
    ap (λ (c : Option ℕ). elim c as (λ c'. ℕ) [
      | Some own ↦ with_tests image things value own (class_mask position.default own position.classes) position.tests
      | None ↦ 0
    ]) at

pub mask_of_none : (image : Image) (things : List Placed) (value : Value) (position : Position) → class_of image.own things value ≡ None
    → mask_of image things value position ≡ 0
mask_of_none image things value position at =
    ap (λ (c : Option ℕ). elim c as (λ c'. ℕ) [
      | Some own ↦ with_tests image things value own (class_mask position.default own position.classes) position.tests
      | None ↦ 0
    ]) at

drop_nil : {A : Type 0} (i : ℕ) → drop {A = A} i [] ≡ []
drop_nil zero = refl
drop_nil (suc i) = refl

pub masks_next : (image : Image) (texts : Texts) (objects : List Object) (words : List Word) (positions : List Position) (i : ℕ) →
    i < max (length words) (length positions)
    → masks_of image (things_of texts objects) (map (value_of texts) (drop i words)) (drop i positions)
    ≡ mask_one image texts objects (slice_get words i) (slice_get positions i)
    ∷ masks_of image (things_of texts objects) (map (value_of texts) (drop (suc i) words)) (drop (suc i) positions)
masks_next image texts objects [] [] i lt = absurd (omega arith)
masks_next image texts objects [] (p ∷ positions) zero lt = refl
masks_next image texts objects [] (p ∷ positions) (suc i) lt =
    let none : drop {A = Word} i [] ≡ [] = drop_nil i in rw none at (masks_next image texts objects [] positions i (omega arith))
masks_next image texts objects (w ∷ words) [] zero lt = refl
masks_next image texts objects (w ∷ words) [] (suc i) lt =
    let none : drop {A = Position} i [] ≡ [] = drop_nil i in rw none at (masks_next image texts objects words [] i (omega arith))
masks_next image texts objects (w ∷ words) (p ∷ positions) zero lt = refl
masks_next image texts objects (w ∷ words) (p ∷ positions) (suc i) lt = masks_next image texts objects words positions i (omega arith)

-- the rows that count so far, and those of one mask more
pub rows_next : (all rest : List ℕ) (left mask row : ℕ) → all ≡ mask ∷ rest
    → (has (bit_and left mask) row && list_all (λ m. has m row) rest) ≡ (has left row && list_all (λ m. has m row) all)
rows_next all rest left mask row is =
    ap (λ (b : Bool). b && list_all (λ m. has m row) rest) (has_and left mask row)
    ∙ and_left (has left row) (has mask row) (list_all (λ m. has m row) rest) ∙ ap (λ (ms : List ℕ). has left row && list_all (λ m. has m row) ms) (sym is)
  where
    and_left : (a b c : Bool) → ((a && b) && c) ≡ (a && (b && c))
    and_left true b c = refl
    and_left false b c = refl

-- past the last value and the last position there are no masks
pub masks_end : (image : Image) (texts : Texts) (objects : List Object) (words : List Word) (positions : List Position) (i : ℕ)
    → max (length words) (length positions) ≤ i → masks_of image (things_of texts objects) (map (value_of texts) (drop i words)) (drop i positions) ≡ []
masks_end image texts objects words positions i le = rw (drop_all i words (omega arith), drop_all i positions (omega arith)) refl

pub beats_kept : (image : Image) (t : ℕ) (table : Table) (kept : List (List ℕ)) → kept ≡ beats_of image → slice_get image.tables t ≡ Some table
    → slice_get kept t ≡ Some (map (λ row. row.beats) table.rows)
beats_kept image t table kept is there =
    let own : Table → List ℕ = λ table'. map (λ row. row.beats) table'.rows in
    ap (λ (all : List (List ℕ)). slice_get all t) is ∙ slice_get-map own image.tables t ∙ ap (option_map own) there
