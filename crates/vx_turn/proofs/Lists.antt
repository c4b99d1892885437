-- Beginnings of lists, and the items of one number.
use Rattle.std.proofs.Common.{◌≡◌, ◌≢◌, ◌==◌, ℕ, Bool, true, false, List, [], ◌∷◌, ◌++◌, if◌then◌else◌, eq-eqb, ne_eqb, refl, ap}
use Rattle.std.proofs.Common.{sym, ◌∙◌, append_assoc, append-nil}
use mathlib.Core.List.{IsPrefix}
use Rattle.vx_turn.specs.Turning.{items_of}

module _ {A : Type 0} where
  pub prefix_self : (xs : List A) → IsPrefix xs xs
  prefix_self xs = ([], append-nil xs)

  pub prefix_trans : (xs ys zs : List A) → IsPrefix xs ys → IsPrefix ys zs → IsPrefix xs zs
  prefix_trans xs ys zs p q = (p.0 ++ q.0, sym (append_assoc xs p.0 q.0) ∙ (ap (λ w. w ++ q.0) p.1 ∙ q.1))

  pub prefix_more : (xs ys more : List A) → IsPrefix xs ys → IsPrefix xs (ys ++ more)
  prefix_more xs ys more p = prefix_trans xs ys (ys ++ more) p (more, refl)

module _ {I : Type 0} (seat : I → ℕ) (n : ℕ) where
  choice : (b : Bool) (x : I) (xs ys zs : List I) → zs ≡ xs ++ ys → (if b then x ∷ zs else zs) ≡ (if b then x ∷ xs else xs) ++ ys
  choice true x xs ys zs e = ap (λ w. x ∷ w) e
  choice false x xs ys zs e = e

  pub items_more : (xs ys : List I) → items_of seat n (xs ++ ys) ≡ items_of seat n xs ++ items_of seat n ys
  items_more [] ys = refl
  items_more (x ∷ xs) ys = choice (seat x == n) x (items_of seat n xs) (items_of seat n ys) (items_of seat n (xs ++ ys)) (items_more xs ys)

  pub items_mine : (x : I) → seat x ≡ n → items_of seat n (x ∷ []) ≡ x ∷ []
  items_mine x e = ap (λ (b : Bool). if b then x ∷ [] else []) (eq-eqb (seat x) n e)

  pub items_other : (x : I) → seat x ≢ n → items_of seat n (x ∷ []) ≡ []
  items_other x e = ap (λ (b : Bool). if b then x ∷ [] else []) (ne_eqb (seat x) n e)
