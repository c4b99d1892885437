-- Masks pick what a lookup by an order finds.
use Rattle.std.specs.Prelude.{◌≡◌, ℕ, Bool, List, [], ◌∷◌, length, Option, Some, None, slice_get, filter}
use Rattle.std.specs.List.{find, list_all}
use Rattle.vx_tables.specs.declared.picked.Picked.{Picked}
use Rattle.vx_tables.specs.declared.picked.Picked.TheVariants as chosen
use Rattle.vx_tables.specs.Masks.{has, beaten, is_left, picked}

-- what a lookup finds among numbered things
pub data Look : Type 0 where
  One : (key : ℕ) → Look
  Nothing : Look
  Several : Look

-- the best of those that count, as the lookup of methods has it; keys stand for methods
abbrev pub best : (ℕ → ℕ → Bool) → List ℕ → Look
best better [] = Nothing
best better (key ∷ keys) = elim (find (λ k. list_all (better k) (key ∷ keys)) (key ∷ keys)) [ Some k ↦ One k | None ↦ Several ]

abbrev pub key_at : List ℕ → ℕ → Look
key_at keys row = elim (slice_get keys row) [ Some key ↦ One key | None ↦ Several ]

abbrev pub look_of : List ℕ → Picked → Look
look_of keys (chosen.Row row) = key_at keys row
look_of keys chosen.None = Nothing
look_of keys chosen.Many = Several

-- `better k l`: k is l, or more specific than l
abbrev pub MasksPick : Type 0
MasksPick =
    (keys beats masks : List ℕ) (below : Option ℕ) (counts : ℕ → Bool) (better : ℕ → ℕ → Bool)
    → length beats ≡ length keys
    → ((i k : ℕ) → slice_get keys i ≡ Some k → is_left beats masks below i ≡ counts k)
    → ((i j k l : ℕ) → slice_get keys i ≡ Some k → slice_get keys j ≡ Some l → has (beaten beats i) j ≡ better k l)
    → look_of keys (picked beats masks below) ≡ best better (filter counts keys)
