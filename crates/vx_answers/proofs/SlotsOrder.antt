-- Slots in key order.
use Rattle.std.proofs.Common.{List, Bool, true, false, [], ap, refl, sym, subst, inl, inr, ◌∷◌, ◌++◌, ◌≡◌, ◌∙◌, ◌⊎◌, filter}
use Rattle.std.specs.Ordering.{is_lt}
use Rattle.std.proofs.lemmas.Bool.{cases_Bool, cond-true, cond-false, both_ways}
use Rattle.vx_lists.specs.Members.{IsIn}
use Rattle.vx_lists.proofs.Members.{in_either}
use Rattle.vx_lists.proofs.Finding.{left_is}
use Rattle.vx_names.specs.declared.key.FieldKey.{FieldKey}
use Rattle.vx_names.specs.declared.key.DeclKey.TheVariants as decl_keys
use Rattle.vx_names.specs.Key.{decl_key_cmp}
use Rattle.vx_names.specs.KeyLaws.{decl_keys_total}
use Rattle.vx_names.proofs.Keys.{keys_apart}
use Rattle.vx_syntax.specs.declared.decl.Decl.{Decl}
use Rattle.vx_syntax.specs.declared.decl.Decl.TheVariants as d
use Rattle.vx_program.specs.Program.{IsOrdered}
use Rattle.vx_program.proofs.Members.{goes_first, tail_ordered, not_before_itself}
use Rattle.vx_model.specs.Fields.{fields}
use Rattle.vx_answers.specs.FieldRows.{Slot, goes_before, with_slot, in_key_order}
use Rattle.vx_answers.proofs.Ascending.{lt_less, turned}

-- each slot goes before all behind it
abbrev pub AreSorted : List Slot → Type 0
AreSorted [] = Unit {0}
AreSorted (slot ∷ rest) = ((other : Slot) → IsIn other rest → goes_before slot other ≡ true) × AreSorted rest

-- no key twice
abbrev pub KeysApart : List Slot → Type 0
KeysApart [] = Unit {0}
KeysApart (slot ∷ rest) = ((other : Slot) → IsIn other rest → slot.0 ≡ other.0 → ⊥) × KeysApart rest

before_on : (a b c : Slot) → goes_before a b ≡ true → goes_before b c ≡ true → goes_before a c ≡ true
before_on a b c p q =
    ap is_lt (decl_keys_total.trans (decl_keys.Field a.0) (decl_keys.Field b.0) (decl_keys.Field c.0)
    (lt_less (decl_key_cmp (decl_keys.Field a.0) (decl_keys.Field b.0)) p) (lt_less (decl_key_cmp (decl_keys.Field b.0) (decl_keys.Field c.0)) q))

pub never_before : (a b : Slot) → a.0 ≡ b.0 → goes_before a b ≡ true → ⊥
never_before a b same before =
    both_ways (goes_before a a) (not_before_itself (decl_keys.Field a.0))
    (subst (λ (z : FieldKey). is_lt (decl_key_cmp (decl_keys.Field a.0) (decl_keys.Field z)) ≡ true) (sym same) before)

other_way : (a b : Slot) → goes_before a b ≡ false → (a.0 ≡ b.0 → ⊥) → goes_before b a ≡ true
other_way a b f apart =
    ap is_lt (decl_keys_total.antisymm (decl_keys.Field b.0) (decl_keys.Field a.0)
    ∙ turned (decl_key_cmp (decl_keys.Field a.0) (decl_keys.Field b.0)) f (λ e.
    let same : decl_keys.Field a.0 ≡ decl_keys.Field b.0 = keys_apart (decl_keys.Field a.0) (decl_keys.Field b.0) e in apart (cc)))

-- a slot is put among slots
pub in_with : (slot : Slot) (slots : List Slot) (one : Slot) → IsIn one (with_slot slot slots) → (slot ≡ one) ⊎ IsIn one slots
in_with slot [] one (inl e) = inl e
in_with slot [] one (inr i) = absurd i
in_with slot (other ∷ rest) one i =
    elim (cases_Bool (goes_before slot other)) [
      | inl before ↦ elim (subst (IsIn one) (cond-true (goes_before slot other) (slot ∷ other ∷ rest) (other ∷ with_slot slot rest) before) i) [
        | inl e ↦ inl e
        | inr j ↦ inr j
      ]
      | inr behind ↦ elim (subst (IsIn one) (cond-false (goes_before slot other) (slot ∷ other ∷ rest) (other ∷ with_slot slot rest) behind) i) [
        | inl e ↦ inr (inl e)
        | inr j ↦ elim (in_with slot rest one j) [ inl e ↦ inl e | inr k ↦ inr (inr k) ]
      ]
    ]

pub with_in : (slot : Slot) (slots : List Slot) (one : Slot) → (slot ≡ one) ⊎ IsIn one slots → IsIn one (with_slot slot slots)
with_in slot [] one (inl e) = inl e
with_in slot [] one (inr i) = absurd i
with_in slot (other ∷ rest) one i =
    elim (cases_Bool (goes_before slot other)) [
      | inl before ↦
          subst (IsIn one) (sym (cond-true (goes_before slot other) (slot ∷ other ∷ rest) (other ∷ with_slot slot rest) before))
          (elim i [ inl e ↦ inl e | inr j ↦ inr j ])
      | inr behind ↦
          subst (IsIn one) (sym (cond-false (goes_before slot other) (slot ∷ other ∷ rest) (other ∷ with_slot slot rest) behind))
          (elim i [
            | inl e ↦ inr (with_in slot rest one (inl e))
            | inr j ↦ elim j [ inl e ↦ inl e | inr k ↦ inr (with_in slot rest one (inr k)) ]
          ])
    ]

with_sorted : (slot : Slot) (slots : List Slot) → AreSorted slots → ((other : Slot) → IsIn other slots → slot.0 ≡ other.0 → ⊥) →
    AreSorted (with_slot slot slots)
with_sorted slot [] sorted new = ((λ other i. absurd i), tt)
with_sorted slot (other ∷ rest) sorted new =
    elim (cases_Bool (goes_before slot other)) [
      | inl before ↦
          subst AreSorted (sym (cond-true (goes_before slot other) (slot ∷ other ∷ rest) (other ∷ with_slot slot rest) before)) (
            (λ one i. elim i [
              | inl e ↦ ap (goes_before slot) (sym e) ∙ before
              | inr j ↦ before_on slot other one before (sorted.0 one j)
            ]),
            sorted,
          )
      | inr behind ↦
          let first : goes_before other slot ≡ true = other_way slot other behind (new other (inl refl)) in
          subst AreSorted (sym (cond-false (goes_before slot other) (slot ∷ other ∷ rest) (other ∷ with_slot slot rest) behind)) (
            (λ one i. elim (in_with slot rest one i) [ inl e ↦ ap (goes_before other) (sym e) ∙ first | inr j ↦ sorted.0 one j ]),
            with_sorted slot rest sorted.1 (λ one i. new one (inr i)),
          )
    ]

-- slots in key order are the same slots
pub in_sorted : (slots : List Slot) (one : Slot) → IsIn one (in_key_order slots) → IsIn one slots
in_sorted [] one i = i
in_sorted (slot ∷ rest) one i = elim (in_with slot (in_key_order rest) one i) [ inl e ↦ inl e | inr j ↦ inr (in_sorted rest one j) ]

pub sorted_in : (slots : List Slot) (one : Slot) → IsIn one slots → IsIn one (in_key_order slots)
sorted_in [] one i = i
sorted_in (slot ∷ rest) one (inl e) = with_in slot (in_key_order rest) one (inl e)
sorted_in (slot ∷ rest) one (inr i) = with_in slot (in_key_order rest) one (inr (sorted_in rest one i))

pub are_sorted : (slots : List Slot) → KeysApart slots → AreSorted (in_key_order slots)
are_sorted [] apart = tt
are_sorted (slot ∷ rest) apart =
    with_sorted slot (in_key_order rest) (are_sorted rest apart.1) (λ other i. apart.0 other (in_sorted rest other i))

-- what is in key order has no key twice
pub sorted_apart : (slots : List Slot) → AreSorted slots → KeysApart slots
sorted_apart [] sorted = tt
sorted_apart (slot ∷ rest) sorted = ((λ other i same. never_before slot other same (sorted.0 other i)), sorted_apart rest sorted.1)

pub filter_sorted : (p : Slot → Bool) (slots : List Slot) → AreSorted slots → AreSorted (filter p slots)
filter_sorted p [] sorted = tt
filter_sorted p (slot ∷ rest) sorted =
    elim (cases_Bool (p slot)) [
      | inl t ↦
          subst AreSorted (sym (cond-true (p slot) (slot ∷ filter p rest) (filter p rest) t))
          ((λ other i. sorted.0 other (left_is p rest other i).0), filter_sorted p rest sorted.1)
      | inr f ↦ subst AreSorted (sym (cond-false (p slot) (slot ∷ filter p rest) (filter p rest) f)) (filter_sorted p rest sorted.1)
    ]

pub joined_apart : (first second : List Slot) → KeysApart first → KeysApart second →
    ((one other : Slot) → IsIn one first → IsIn other second → one.0 ≡ other.0 → ⊥) → KeysApart (first ++ second)
joined_apart [] second a b apart = b
joined_apart (slot ∷ first) second a b apart = (
  (λ other i. elim (in_either other first second i) [ inl j ↦ a.0 other j | inr j ↦ apart slot other (inl refl) j ]),
  joined_apart first second a.1 b (λ one other i j. apart one other (inr i) j),
)

-- two lists in key order with the same slots are one
pub same_slots : (xs ys : List Slot) → AreSorted xs → AreSorted ys → ((x : Slot) → IsIn x xs → IsIn x ys) → ((y : Slot) → IsIn y ys → IsIn y xs) → xs ≡ ys
same_slots [] [] a b to from = refl
same_slots [] (y ∷ ys) a b to from = absurd (from y (inl refl))
same_slots (x ∷ xs) [] a b to from = absurd (to x (inl refl))
same_slots (x ∷ xs) (y ∷ ys) a b to from =
    let same : x ≡ y =
    elim (to x (inl refl)) [
      | inl e ↦ sym e
      | inr i ↦ elim (from y (inl refl)) [
        | inl e ↦ e
        | inr j ↦ absurd (never_before x x refl (before_on x y x (a.0 y j) (b.0 x i)))
      ]
    ] in
    let to' : (z : Slot) → IsIn z xs → IsIn z ys =
    λ z i. elim (to z (inr i)) [
      | inl e ↦ absurd (never_before x z (ap (λ (w : Slot). w.0) (same ∙ e)) (a.0 z i))
      | inr j ↦ j
    ] in
    let from' : (z : Slot) → IsIn z ys → IsIn z xs =
    λ z i. elim (from z (inr i)) [
      | inl e ↦ absurd (never_before y z (ap (λ (w : Slot). w.0) (sym same ∙ e)) (b.0 z i))
      | inr j ↦ j
    ] in
    ap (λ w. w ∷ xs) same ∙ ap (λ rest. y ∷ rest) (same_slots xs ys a.1 b.1 to' from')

-- ---- the fields of a program

-- a field is declared
pub field_decl : (decls : List Decl) (slot : Slot) → IsIn slot (fields decls) → (changeable : Bool) × IsIn (d.Field slot.0 slot.1 changeable) decls
field_decl [] slot i = absurd i
field_decl (d.Object x parents ∷ decls) slot i = let r = field_decl decls slot i in (r.0, inr r.1)
field_decl (d.Predicate x parents test ∷ decls) slot i = let r = field_decl decls slot i in (r.0, inr r.1)
field_decl (d.Field key start changeable ∷ decls) slot (inl e) = (changeable, inl (ap (λ (w : Slot). d.Field w.0 w.1 changeable) e))
field_decl (d.Field key start changeable ∷ decls) slot (inr i) = let r = field_decl decls slot i in (r.0, inr r.1)
field_decl (d.Method key formals body ∷ decls) slot i = let r = field_decl decls slot i in (r.0, inr r.1)

pub fields_sorted : (decls : List Decl) → IsOrdered decls → AreSorted (fields decls)
fields_sorted [] ordered = tt
fields_sorted (d.Object x parents ∷ decls) ordered = fields_sorted decls (tail_ordered (d.Object x parents) decls ordered)
fields_sorted (d.Predicate x parents test ∷ decls) ordered = fields_sorted decls (tail_ordered (d.Predicate x parents test) decls ordered)
fields_sorted (d.Field key start changeable ∷ decls) ordered = (
  (λ other i.
      let r = field_decl decls other i in
      goes_first (d.Field key start changeable) decls ordered (d.Field other.0 other.1 r.0) r.1),
  fields_sorted decls (tail_ordered (d.Field key start changeable) decls ordered),
)
fields_sorted (d.Method key formals body ∷ decls) ordered = fields_sorted decls (tail_ordered (d.Method key formals body) decls ordered)
