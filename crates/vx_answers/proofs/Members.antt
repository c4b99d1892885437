-- Members of names in order.
use Rattle.std.proofs.Common.{List, [], sym, subst, inl, inr, ◌∷◌, ◌≡◌, ◌⊎◌}
use Rattle.std.specs.Ordering.{is_lt}
use Rattle.std.proofs.lemmas.Bool.{cases_Bool, cond-true, cond-false}
use Rattle.vx_lists.specs.Members.{IsIn}
use Rattle.vx_names.specs.Key.{name_cmp}
use Rattle.vx_syntax.specs.Expressions.{Bytes}
use Rattle.vx_answers.specs.OrderRows.{with_name}

-- a name is put among names
pub in_with : (x : Bytes) (xs : List Bytes) (y : Bytes) → IsIn y (with_name x xs) → (x ≡ y) ⊎ IsIn y xs
in_with x [] y (inl e) = inl e
in_with x [] y (inr i) = absurd i
in_with x (z ∷ zs) y i =
    elim (cases_Bool (is_lt (name_cmp x z))) [
      | inl less ↦ elim (subst (IsIn y) (cond-true (is_lt (name_cmp x z)) (x ∷ z ∷ zs) (z ∷ with_name x zs) less) i) [ inl e ↦ inl e | inr j ↦ inr j ]
      | inr behind ↦
          elim (subst (IsIn y) (cond-false (is_lt (name_cmp x z)) (x ∷ z ∷ zs) (z ∷ with_name x zs) behind) i) [
            | inl e ↦ inr (inl e)
            | inr j ↦ elim (in_with x zs y j) [ inl e ↦ inl e | inr k ↦ inr (inr k) ]
          ]
    ]

pub with_in : (x : Bytes) (xs : List Bytes) (y : Bytes) → (x ≡ y) ⊎ IsIn y xs → IsIn y (with_name x xs)
with_in x [] y (inl e) = inl e
with_in x [] y (inr i) = absurd i
with_in x (z ∷ zs) y i =
    elim (cases_Bool (is_lt (name_cmp x z))) [
      | inl less ↦ subst (IsIn y) (sym (cond-true (is_lt (name_cmp x z)) (x ∷ z ∷ zs) (z ∷ with_name x zs) less)) (elim i [ inl e ↦ inl e | inr j ↦ inr j ])
      | inr behind ↦
          subst (IsIn y) (sym (cond-false (is_lt (name_cmp x z)) (x ∷ z ∷ zs) (z ∷ with_name x zs) behind))
          (elim i [
            | inl e ↦ inr (with_in x zs y (inl e))
            | inr j ↦ elim j [ inl e ↦ inl e | inr k ↦ inr (with_in x zs y (inr k)) ]
          ])
    ]
