use Rattle.std.proofs.Common.{◌≡◌, map, take}
use Rattle.vx_machine.proofs.ready.row_beats.Given as goal

abbrev pub invariant-loop-row : goal.invariant-loop-row
invariant-loop-row l = l.beats ≡ map (λ row. row.beats) (take l.row-index l.rows)
