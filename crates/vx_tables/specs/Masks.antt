-- Which row of a table a message takes.
use Rattle.std.specs.Prelude.{ℕ, zero, suc, ◌==◌, Bool, true, not, ◌&&◌, List, [], ◌∷◌, length, Option, Some, None, filter}
use Rattle.std.specs.Int.{bit_at}
use Rattle.std.specs.List.{find, list_all}
use Rattle.vx_tables.specs.declared.picked.Picked.{Picked}
use Rattle.vx_tables.specs.declared.picked.Picked.TheVariants as chosen

-- whether a mask has a row
abbrev pub has : ℕ → ℕ → Bool
has mask row = bit_at mask row == 1

-- what row number so many beats, itself among it
abbrev pub beaten : List ℕ → ℕ → ℕ
beaten [] row = 0
beaten (beats ∷ rest) zero = beats
beaten (beats ∷ rest) (suc row) = beaten rest row

-- a message sent on from a row takes only what that row beats
abbrev pub is_below : List ℕ → Option ℕ → ℕ → Bool
is_below beats None row = true
is_below beats (Some from) row = has (beaten beats from) row && not (row == from)

-- a row is left where every mask has it
abbrev pub is_left : List ℕ → List ℕ → Option ℕ → ℕ → Bool
is_left beats masks below row = is_below beats below row && list_all (λ mask. has mask row) masks

abbrev pub rows_from : ℕ → ℕ → List ℕ
rows_from first zero = []
rows_from first (suc count) = first ∷ rows_from (suc first) count

abbrev pub rows_left : List ℕ → List ℕ → Option ℕ → List ℕ
rows_left beats masks below = filter (is_left beats masks below) (rows_from 0 (length beats))

abbrev pub covers : List ℕ → List ℕ → ℕ → Bool
covers beats left row = list_all (has (beaten beats row)) left

abbrev pub choice : List ℕ → List ℕ → Picked
choice beats [] = chosen.None
choice beats (row ∷ rows) = elim (find (covers beats (row ∷ rows)) (row ∷ rows)) [ Some best ↦ chosen.Row best | None ↦ chosen.Many ]

-- The first row left that beats all that are left.
abbrev pub picked : List ℕ → List ℕ → Option ℕ → Picked
picked beats masks below = choice beats (rows_left beats masks below)
