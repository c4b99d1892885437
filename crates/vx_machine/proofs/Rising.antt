-- A search by halves finds what a search from the front finds.
use Rattle.std.proofs.Common.{◌≡◌, ℕ, zero, suc, ⊎_elim, ◌+◌, ◌<◌, ◌≤◌, true, false, eqb, List, [], ◌∷◌, Some, refl, ap, ◌∙◌, arith}
use Rattle.std.specs.Prelude.{slice_get}
use Rattle.std.proofs.lemmas.Bool.{eq-eqb, ne_eqb, cases_lt}
use Rattle.vx_format.specs.declared.image.ClassMask.{ClassMask}
use Rattle.vx_places.specs.Dispatch.{class_mask}
use Rattle.vx_machine.specs.Rising.{Rises}

-- all entries before a place have other classes than one that is searched
pub found : (default class : ℕ) (entries : List ClassMask) (i : ℕ) (e : ClassMask) → slice_get entries i ≡ Some e → e.symbol ≡ class
    → ((j : ℕ) (a : ClassMask) → j < i → slice_get entries j ≡ Some a → a.symbol ≡ class → ⊥) → class_mask default class entries ≡ e.mask
found default class [] i e at is before = absurd cc
found default class (x ∷ entries) zero e at is before =
    let same : x ≡ e = cc in
    let yes_ : eqb x.symbol class ≡ true = eq-eqb _ _ (ap (λ (c : ClassMask). c.symbol) same ∙ is) in
    rw yes_ (ap (λ (c : ClassMask). c.mask) same)
found default class (x ∷ entries) (suc i) e at is before =
    let no_ : eqb x.symbol class ≡ false = ne_eqb _ _ (before 0 x (omega arith) refl) in
    rw no_ (found default class entries i e at is (λ j a lt here. before (suc j) a (omega arith) here))

pub not_found : (default class : ℕ) (entries : List ClassMask) → ((j : ℕ) (a : ClassMask) → slice_get entries j ≡ Some a → a.symbol ≡ class → ⊥) →
    class_mask default class entries ≡ default
not_found default class [] none = refl
not_found default class (x ∷ entries) none =
    let no_ : eqb x.symbol class ≡ false = ne_eqb _ _ (none 0 x refl) in
    rw no_ (not_found default class entries (λ j a here. none (suc j) a here))

-- up to a place, and from it on
pub lower : (entries : List ClassMask) → Rises entries → (m : ℕ) (e : ClassMask) (class : ℕ) → slice_get entries m ≡ Some e → e.symbol < class
    → (j : ℕ) (a : ClassMask) → j < m + 1 → slice_get entries j ≡ Some a → a.symbol < class
lower entries rises m e class at lt j a under here = ⊎_elim
    (λ before. let r : a.symbol < class = omega (arith, lt, rises j m a e before here at) in r)
    (λ from. let same : j ≡ m = omega (arith, under, from) in
    let is : a ≡ e = cc in
    rw is lt)
    (cases_lt j m)

pub higher : (entries : List ClassMask) → Rises entries → (m : ℕ) (e : ClassMask) (class : ℕ) → slice_get entries m ≡ Some e → class < e.symbol
    → (j : ℕ) (a : ClassMask) → m ≤ j → slice_get entries j ≡ Some a → class < a.symbol
higher entries rises m e class at lt j a over here = ⊎_elim
    (λ after. let r : class < a.symbol = omega (arith, lt, rises m j e a after at here) in r)
    (λ upto. let same : j ≡ m = omega (arith, over, upto) in
    let is : a ≡ e = cc in
    rw is lt)
    (cases_lt m j)
