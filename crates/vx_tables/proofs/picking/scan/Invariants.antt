use Rattle.std.proofs.Common.{◌≡◌, ◌-◌, length}
use Rattle.std.specs.List.{find}
use Rattle.vx_tables.specs.Masks.{rows_from}
use Rattle.vx_tables.specs.Scans.{is_best}
use Rattle.vx_tables.proofs.picking.scan.Given as goal

abbrev pub invariant-loop-i : goal.invariant-loop-i
invariant-loop-i l = find (is_best l.beats l.left) (rows_from l.i (length l.beats - l.i)) ≡ find (is_best l.beats l.left) (rows_from 0 (length l.beats))
