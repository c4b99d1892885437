use Rattle.vx_link.proofs.Written.{one_more}
use Rattle.vx_link.proofs.linking.write_units.Goals as goal

pub loop-place-preserved : goal.loop-place-preserved
loop-place-preserved g c = one_more c.in_ok-unit.ensures c.loop-place.out.items _ _ c.in_ok-write_unit.ensures c.loop-place.invariant
