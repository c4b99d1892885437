-- Rows and the keys that they stand for, side by side.
use Rattle.std.proofs.Common.{◌≡◌, ℕ, suc, ◌+◌, Bool, true, false, cond, List, [], ◌∷◌, length, Option, Some, None, refl, sym, ap, subst, ◌∙◌, arith}
use Rattle.std.specs.Prelude.{slice_get, filter}
use Rattle.std.specs.List.{find, list_all}
use Rattle.vx_tables.specs.declared.picked.Picked.TheVariants as chosen
use Rattle.vx_tables.specs.Masks.{has, beaten, is_left, rows_from, covers, choice}
use Rattle.vx_tables.specs.Laws.{One, Several, best, look_of, MasksPick}

-- rows beside the keys at their places
abbrev Beside : List ℕ → List ℕ → List ℕ → Type 0
Beside all [] [] = Unit {0}
Beside all [] (k ∷ ks) = ⊥
Beside all (r ∷ rs) [] = ⊥
Beside all (r ∷ rs) (k ∷ ks) = (slice_get all r ≡ Some k) × Beside all rs ks

beside_cons : (all rs ks : List ℕ) (r k : ℕ) (a b : Bool) → a ≡ b → slice_get all r ≡ Some k → Beside all rs ks →
    Beside all (cond a (r ∷ rs) rs) (cond b (k ∷ ks) ks)
beside_cons all rs ks r k true b e at rest = rw (← e) (at, rest)
beside_cons all rs ks r k false b e at rest = rw (← e) rest

filtered : (all : List ℕ) (left counts : ℕ → Bool) → ((i k : ℕ) → slice_get all i ≡ Some k → left i ≡ counts k)
    → (rest : List ℕ) (first : ℕ) → ((j : ℕ) → slice_get all (first + j) ≡ slice_get rest j) →
    Beside all (filter left (rows_from first (length rest))) (filter counts rest)
filtered all left counts same [] first at = tt
filtered all left counts same (k ∷ rest) first at =
    let here : slice_get all first ≡ Some k = ap (slice_get all) (omega arith) ∙ at 0 in
    beside_cons all _ _ first k (left first) (counts k) (same first k here) here
    (filtered all left counts same rest (suc first) (λ j. ap (slice_get all) (omega arith) ∙ at (suc j)))

alike : (all : List ℕ) (f g : ℕ → Bool) → ((i k : ℕ) → slice_get all i ≡ Some k → f i ≡ g k) → (rs ks : List ℕ) → Beside all rs ks →
    list_all f rs ≡ list_all g ks
alike all f g same [] [] beside = refl
alike all f g same [] (k ∷ ks) beside = absurd beside
alike all f g same (r ∷ rs) [] beside = absurd beside
alike all f g same (r ∷ rs) (k ∷ ks) beside = rw (same r k beside.0, alike all f g same rs ks beside.1) refl

found : (all : List ℕ) (f g : ℕ → Bool) → ((i k : ℕ) → slice_get all i ≡ Some k → f i ≡ g k) → (rs ks : List ℕ) → Beside all rs ks
    → look_of all (elim (find f rs) [ Some row ↦ chosen.Row row | None ↦ chosen.Many ]) ≡ elim (find g ks) [ Some k ↦ One k | None ↦ Several ]
found all f g same [] [] beside = refl
found all f g same [] (k ∷ ks) beside = absurd beside
found all f g same (r ∷ rs) [] beside = absurd beside
found all f g same (r ∷ rs) (k ∷ ks) beside = step (found all f g same rs ks beside.1) (f r) (g k) (same r k beside.0)
  where
    step : look_of all (elim (find f rs) [ Some row ↦ chosen.Row row | None ↦ chosen.Many ]) ≡ elim (find g ks) [ Some k ↦ One k | None ↦ Several ]
        → (a b : Bool) → a ≡ b → look_of all (elim (cond a (Some r) (find f rs)) [ Some row ↦ chosen.Row row | None ↦ chosen.Many ]) ≡ elim
        (cond b (Some k) (find g ks)) [ Some k ↦ One k | None ↦ Several ]
    step later true b e = rw (← e) (ap (λ (o : Option ℕ). elim o [ Some key ↦ One key | None ↦ Several ]) beside.0)
    step later false b e = rw (← e) later

chosen_same : (all beats : List ℕ) (better : ℕ → ℕ → Bool) → ((i j k l : ℕ) → slice_get all i ≡ Some k → slice_get all j ≡ Some l →
    has (beaten beats i) j ≡ better k l)
    → (rs ks : List ℕ) → Beside all rs ks → look_of all (choice beats rs) ≡ best better ks
chosen_same all beats better same [] [] beside = refl
chosen_same all beats better same [] (k ∷ ks) beside = absurd beside
chosen_same all beats better same (r ∷ rs) [] beside = absurd beside
chosen_same all beats better same (r ∷ rs) (k ∷ ks) beside =
    found all (covers beats (r ∷ rs)) (λ k'. list_all (better k') (k ∷ ks))
    (λ i k' at. alike all (has (beaten beats i)) (better k') (λ j l at2. same i j k' l at at2) (r ∷ rs) (k ∷ ks) beside) (r ∷ rs) (k ∷ ks) beside

pub masks_pick : MasksPick
masks_pick keys beats masks below counts better many left beat =
    chosen_same keys beats better beat _ _ (subst (λ (n : ℕ). Beside keys (filter (is_left beats masks below) (rows_from 0 n)) (filter counts keys)) (sym many)
    (filtered keys (is_left beats masks below) counts left keys 0 (λ j. ap (slice_get keys) (omega arith))))
