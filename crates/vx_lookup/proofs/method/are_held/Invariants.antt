use Rattle.std.proofs.Common.{◌≡◌, drop}
use Rattle.vx_model.specs.Lookup.{are_held}
use Rattle.vx_lookup.proofs.method.are_held.Given as goal

abbrev pub invariant-loop-i : goal.invariant-loop-i
invariant-loop-i l =
    are_held l.program l.heap l.arguments l.specialisers ≡ are_held l.program l.heap (drop l.i l.arguments) (drop l.i l.specialisers)
