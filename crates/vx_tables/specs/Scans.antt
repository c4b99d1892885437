-- The same as the code goes about it.
use Rattle.std.specs.Prelude.{ℕ, ◌==◌, Bool, ◌&&◌, List, length, Some, None, bit_and}
use Rattle.std.specs.List.{find}
use Rattle.vx_tables.specs.declared.picked.Picked.{Picked}
use Rattle.vx_tables.specs.declared.picked.Picked.TheVariants as chosen
use Rattle.vx_tables.specs.Masks.{has, beaten, rows_from}

-- whether a row is left, and beats all that are
abbrev pub is_best : List ℕ → ℕ → ℕ → Bool
is_best beats left row = has left row && (bit_and left (beaten beats row) == left)

abbrev pub scanned : List ℕ → ℕ → Picked
scanned beats left = elim (find (is_best beats left) (rows_from 0 (length beats))) [ Some row ↦ chosen.Row row | None ↦ chosen.Many ]
