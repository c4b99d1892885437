-- No more distinct elements than there are.
use Rattle.std.proofs.Common.{List, [], ap, arith, refl, sym, subst, suc, length, inl, inr, ◌∷◌, ◌≡◌, ◌∙◌, ◌≤◌}
use Rattle.vx_lists.specs.Members.{IsIn}

-- no element twice
abbrev pub AreApart : {X : Type 0} → List X → Type 0
AreApart [] = Unit {0}
AreApart (x ∷ xs) = (IsIn x xs → ⊥) × AreApart xs

-- a list without the first place at which an element stands
left_out : {X : Type 0} (x : X) (ys : List X) → IsIn x ys → List X
left_out x [] i = []
left_out x (y ∷ ys) (inl e) = ys
left_out x (y ∷ ys) (inr i) = y ∷ left_out x ys i

size : {X : Type 0} (x : X) (ys : List X) (i : IsIn x ys) → length ys ≡ suc (length (left_out x ys i))
unfolding left_out
size x [] i = absurd i
size x (y ∷ ys) (inl e) = refl
size x (y ∷ ys) (inr i) = ap suc (size x ys i)

still_there : {X : Type 0} (x z : X) (ys : List X) (i : IsIn x ys) → (x ≡ z → ⊥) → IsIn z ys → IsIn z (left_out x ys i)
unfolding left_out
still_there x z [] i other j = absurd i
still_there x z (y ∷ ys) (inl e) other (inl k) = absurd (other (sym e ∙ k))
still_there x z (y ∷ ys) (inl e) other (inr j) = j
still_there x z (y ∷ ys) (inr i) other (inl k) = inl k
still_there x z (y ∷ ys) (inr i) other (inr j) = inr (still_there x z ys i other j)

pub no_more : {X : Type 0} (xs ys : List X) → AreApart xs → ((x : X) → IsIn x xs → IsIn x ys) → length xs ≤ length ys
no_more [] ys apart among = omega arith
no_more (x ∷ xs) ys apart among =
    let i : IsIn x ys = among x (inl refl) in
    let rest : length xs ≤ length (left_out x ys i) =
    no_more xs (left_out x ys i) apart.1 (λ z j. still_there x z ys i (λ e. apart.0 (subst (λ w. IsIn w xs) (sym e) j)) (among z (inr j))) in
    omega (arith, rest, size x ys i)
