use Rattle.std.proofs.Common.{◌≡◌, ◌++◌, drop}
use Rattle.vx_format.specs.Numbers.{each}
use Rattle.vx_link.specs.Link.{targets, unit_bytes}
use Rattle.vx_link.proofs.linking.write_units.Given as goal

abbrev pub invariant-loop-place : goal.invariant-loop-place
invariant-loop-place g l =
    l.out.items ++ each (unit_bytes l.roster (g.U.Units.unit_of l.units)) (drop l.place (targets l.roster)) ≡ l.fn.out.items ++ each
    (unit_bytes l.roster (g.U.Units.unit_of l.units)) (targets l.roster)
