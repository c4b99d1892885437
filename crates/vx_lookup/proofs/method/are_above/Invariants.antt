use Rattle.std.proofs.Common.{◌≡◌, drop}
use Rattle.vx_model.specs.Lookup.{are_above}
use Rattle.vx_lookup.proofs.method.are_above.Given as goal

abbrev pub invariant-loop-i : goal.invariant-loop-i
invariant-loop-i l = are_above l.program l.xs l.ys ≡ are_above l.program (drop l.i l.xs) (drop l.i l.ys)
