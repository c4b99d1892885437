-- Names in byte order.
use Rattle.std.proofs.Common.{List, Bool, true, false, [], ap, refl, sym, subst, inl, inr, ◌∷◌, ◌≡◌, ◌∙◌, Ordering, Less, Equal, Greater, filter}
use Rattle.std.specs.Ordering.{is_lt, ordering_reverse}
use Rattle.std.specs.Cmp.Lexicographic.{nat_list_cmp_total}
use Rattle.std.proofs.lemmas.Bool.{cases_Bool, cond-true, cond-false, false≢true}
use Rattle.std.proofs.lemmas.Map.Lookups.{exact_bytes}
use Rattle.vx_lists.specs.Members.{IsIn}
use Rattle.vx_lists.proofs.Finding.{left_is}
use Rattle.vx_names.specs.Key.{name_cmp}
use Rattle.vx_syntax.specs.Expressions.{Bytes}
use Rattle.vx_answers.specs.OrderRows.{with_name}
use Rattle.vx_answers.proofs.Members.{in_with}
use Rattle.vx_answers.proofs.Pigeons.{AreApart}

-- each name goes before all behind it
abbrev pub AreAscending : List Bytes → Type 0
AreAscending [] = Unit {0}
AreAscending (x ∷ xs) = ((y : Bytes) → IsIn y xs → name_cmp x y ≡ Less) × AreAscending xs

pub lt_less : (o : Ordering) → is_lt o ≡ true → o ≡ Less
lt_less Less h = refl
lt_less Equal h = absurd (false≢true h)
lt_less Greater h = absurd (false≢true h)

pub turned : (o : Ordering) → is_lt o ≡ false → (o ≡ Equal → ⊥) → ordering_reverse o ≡ Less
turned Less h other = absurd (false≢true (sym h))
turned Equal h other = absurd (other refl)
turned Greater h other = refl

pub with_ascending : (x : Bytes) (xs : List Bytes) → AreAscending xs → (IsIn x xs → ⊥) → AreAscending (with_name x xs)
with_ascending x [] ascending new = ((λ y i. absurd i), tt)
with_ascending x (z ∷ zs) ascending new =
    elim (cases_Bool (is_lt (name_cmp x z))) [
      | inl less ↦
          let first : name_cmp x z ≡ Less = lt_less (name_cmp x z) less in
          subst AreAscending (sym (cond-true (is_lt (name_cmp x z)) (x ∷ z ∷ zs) (z ∷ with_name x zs) less))
          ((λ y i. elim i [ inl e ↦ ap (name_cmp x) (sym e) ∙ first | inr j ↦ nat_list_cmp_total.trans x z y first (ascending.0 y j) ]), ascending)
      | inr behind ↦
          let other : name_cmp z x ≡ Less =
          nat_list_cmp_total.antisymm z x ∙ turned (name_cmp x z) behind (λ e. new (inl (sym (exact_bytes x z e)))) in
          subst AreAscending (sym (cond-false (is_lt (name_cmp x z)) (x ∷ z ∷ zs) (z ∷ with_name x zs) behind)) (
            (λ y i. elim (in_with x zs y i) [ inl e ↦ ap (name_cmp z) (sym e) ∙ other | inr j ↦ ascending.0 y j ]),
            with_ascending x zs ascending.1 (λ i. new (inr i)),
          )
    ]

pub filter_ascending : (p : Bytes → Bool) (xs : List Bytes) → AreAscending xs → AreAscending (filter p xs)
filter_ascending p [] ascending = tt
filter_ascending p (x ∷ xs) ascending =
    elim (cases_Bool (p x)) [
      | inl t ↦
          subst AreAscending (sym (cond-true (p x) (x ∷ filter p xs) (filter p xs) t))
          ((λ y i. ascending.0 y (left_is p xs y i).0), filter_ascending p xs ascending.1)
      | inr f ↦ subst AreAscending (sym (cond-false (p x) (x ∷ filter p xs) (filter p xs) f)) (filter_ascending p xs ascending.1)
    ]

pub not_before_itself : (x : Bytes) → name_cmp x x ≡ Less → ⊥
not_before_itself x less = no_way (name_cmp x x) less (nat_list_cmp_total.antisymm x x) where
  no_way : (o : Ordering) → o ≡ Less → o ≡ ordering_reverse o → ⊥
  no_way Less e r = absurd (cc)
  no_way Equal e r = absurd (cc)
  no_way Greater e r = absurd (cc)

-- two lists in order with the same names are one
pub same_lists : (xs ys : List Bytes) → AreAscending xs → AreAscending ys → ((x : Bytes) → IsIn x xs → IsIn x ys) → ((y : Bytes) → IsIn y ys → IsIn y xs) →
    xs ≡ ys
same_lists [] [] a b to from = refl
same_lists [] (y ∷ ys) a b to from = absurd (from y (inl refl))
same_lists (x ∷ xs) [] a b to from = absurd (to x (inl refl))
same_lists (x ∷ xs) (y ∷ ys) a b to from =
    let same : x ≡ y =
    elim (to x (inl refl)) [
      | inl e ↦ sym e
      | inr i ↦ elim (from y (inl refl)) [
        | inl e ↦ e
        | inr j ↦ absurd (not_before_itself x (nat_list_cmp_total.trans x y x (a.0 y j) (b.0 x i)))
      ]
    ] in
    let to' : (z : Bytes) → IsIn z xs → IsIn z ys =
    λ z i. elim (to z (inr i)) [
      | inl e ↦ absurd (not_before_itself x (subst (λ w. name_cmp x w ≡ Less) (sym (same ∙ e)) (a.0 z i)))
      | inr j ↦ j
    ] in
    let from' : (z : Bytes) → IsIn z ys → IsIn z xs =
    λ z i. elim (from z (inr i)) [
      | inl e ↦ absurd (not_before_itself y (subst (λ w. name_cmp y w ≡ Less) (sym (sym same ∙ e)) (b.0 z i)))
      | inr j ↦ j
    ] in
    ap (λ w. w ∷ xs) same ∙ ap (λ rest. y ∷ rest) (same_lists xs ys a.1 b.1 to' from')

-- names in order are apart
pub ascending_apart : (xs : List Bytes) → AreAscending xs → AreApart xs
ascending_apart [] ascending = tt
ascending_apart (x ∷ xs) ascending = ((λ i. not_before_itself x (ascending.0 x i)), ascending_apart xs ascending.1)
