use Rattle.vx_link.proofs.Measured.{Measured}
use Rattle.vx_link.proofs.measure.measure.Given as goal

abbrev pub invariant-loop-place : goal.invariant-loop-place
invariant-loop-place g l = Measured l.roster (g.U.Units.unit_of l.units) l.size l.place
