-- What an object may come to count as, and that it has a slot for each field of that.
use Rattle.std.proofs.Common.{◌≡◌, Bool, true, false, not, ◌||◌, List, [], ◌∷◌, Some, refl, sym, ◌∙◌, subst, inl, inr}
use Rattle.std.specs.List.{list_all}
use Rattle.std.specs.Prelude.{if◌then◌else◌}
use Rattle.std.specs.Str.{bytes_eq}
use Rattle.std.proofs.lemmas.Bool.{cases_Bool, cond-true, cond-false, and_parts}
use Rattle.vx_lists.specs.Members.{IsIn}
use Rattle.vx_lists.proofs.Finding.{found_is, left_is, is_left}
use Rattle.vx_lists.proofs.Members.{each, all_of}
use Rattle.vx_names.specs.declared.key.FieldKey.{FieldKey}
use Rattle.vx_syntax.specs.declared.decl.Decl.{Decl}
use Rattle.vx_syntax.specs.declared.decl.Decl.TheVariants as d
use Rattle.vx_syntax.specs.declared.decl.Start.{Start}
use Rattle.vx_syntax.specs.Expressions.{Bytes}
use Rattle.vx_program.specs.Program.{IsProgram, leads, is_there, is_predicate_there}
use Rattle.vx_model.specs.declared.value.Value.{Value}
use Rattle.vx_model.specs.declared.value.Heap.{Heap}
use Rattle.vx_model.specs.Order.{plain_names, is_above}
use Rattle.vx_model.specs.Fields.{fields, fields_above, keys_named, keys_above, is_lowest, field_at, may, slots}
use Rattle.vx_model.specs.Holds.{class_of, holds, lets_hold}
use Rattle.vx_model.proofs.Orders.{Chains, on}
use Rattle.vx_model.proofs.Bases.{plain_in}
use Rattle.vx_model.proofs.Holding.{need_not, holds_plain}
use Rattle.vx_model.proofs.Predicates.{plain_there}

-- the plain objects above x are above the class
abbrev are_above : List Decl → Bytes → Bytes → Bool
are_above program class x = list_all (λ plain. not (leads program x plain) || leads program class plain) (plain_names program)

-- An object counts as what is above its class, if tests allow it,
pub above_may : (program : List Decl) → Chains → (class x : Bytes) → leads program class x ≡ true → may program class x ≡ true
above_may program chains class x h = by (is_predicate_there program x)
  where
    all : are_above program class x ≡ true
    all = all_of (λ plain. not (leads program x plain) || leads program class plain) (plain_names program) (λ plain i.
        need_not (leads program x plain) (leads program class plain) (λ l.
        chains.finds program class plain (on program (chains.are program class x h) (chains.are program x plain l))))

    by : (b : Bool) → (if b then are_above program class x else leads program class x) ≡ true
    by true = all
    by false = h

-- and whatever it counts as it may count as.
pub holds_may : (program : List Decl) → IsProgram program → Chains → (heap : Heap) (value : Value) (x : Bytes) → holds program heap value x ≡ true →
    may program (class_of heap value) x ≡ true
holds_may program well chains heap value x h = by (is_predicate_there program x) refl
  where
    there : (is_there program x ≡ true) × (list_all (λ decl. not (is_above program x decl) || lets_hold program heap value decl) program ≡ true)
    there = and_parts (is_there program x) (list_all (λ decl. not (is_above program x decl) || lets_hold program heap value decl) program) h

    all : are_above program (class_of heap value) x ≡ true
    all = all_of (λ plain. not (leads program x plain) || leads program (class_of heap value) plain) (plain_names program) (λ plain i.
        let own = plain_in program plain i in
        each (λ decl. not (is_above program x decl) || lets_hold program heap value decl) program there.1 (d.Object plain own.0) own.1)

    by : (b : Bool) → is_predicate_there program x ≡ b → (if b then are_above program (class_of heap value) x else leads program (class_of heap value) x) ≡ true
    by true e = all
    by false e = let own = plain_there program x there.0 e in sym (holds_plain program well chains heap value x own.0 own.1) ∙ h

-- A field is a slot where an object may count as its specialiser.
pub is_slot : (program : List Decl) (class : Bytes) (field : FieldKey × Start) → IsIn field (fields program) → may program class field.0.specialiser ≡ true →
    IsIn field (slots program class)
is_slot program class field i h = is_left (λ own. may program class own.0.specialiser) (fields program) field i h

-- a key of a name is that of a field
pub key_of_field : (name : Bytes) (fields : List (FieldKey × Start)) (key : FieldKey) → IsIn key (keys_named name fields) →
    (field : FieldKey × Start) × IsIn field fields × (field.0 ≡ key)
key_of_field name [] key i = absurd i
key_of_field name (field ∷ rest) key i =
    elim (cases_Bool (bytes_eq field.0.name name)) [
      | inl t ↦
          elim (subst (IsIn key) (cond-true (bytes_eq field.0.name name) (field.0 ∷ keys_named name rest) (keys_named name rest) t) i) [
            | inl e ↦ (field, inl refl, e)
            | inr j ↦ let r = key_of_field name rest key j in (r.0, inr r.1, r.2)
          ]
      | inr f ↦
          let r = key_of_field name rest key
          (subst (IsIn key) (cond-false (bytes_eq field.0.name name) (field.0 ∷ keys_named name rest) (keys_named name rest) f) i) in
          (r.0, inr r.1, r.2)
    ]

-- The field that a name means for a class is a slot of its objects.
pub meant_slot : (program : List Decl) → Chains → (class name : Bytes) (key : FieldKey) → field_at program class name ≡ Some key →
    (field : FieldKey × Start) × IsIn field (slots program class) × (field.0 ≡ key)
meant_slot program chains class name key e =
    let lowest = found_is (is_lowest program (keys_above program class name program)) (keys_above program class name program) key e in
    let own = key_of_field name (fields_above program class program) key lowest.0 in
    let above = left_is (λ field. leads program class field.0.specialiser) (fields program) own.0 own.1 in
    (own.0, is_slot program class own.0 above.0 (above_may program chains class own.0.0.specialiser above.1), own.2)
