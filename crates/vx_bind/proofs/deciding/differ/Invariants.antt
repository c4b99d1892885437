use Rattle.std.proofs.Common.{◌≡◌, drop}
use Rattle.vx_model.specs.Lookup.{differ}
use Rattle.vx_bind.proofs.deciding.differ.Given as goal

abbrev pub invariant-loop-i : goal.invariant-loop-i
invariant-loop-i l = differ l.xs l.ys ≡ differ (drop l.i l.xs) (drop l.i l.ys)
