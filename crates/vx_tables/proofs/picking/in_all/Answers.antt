use Rattle.vx_tables.proofs.Bits.{has_first, one_more}
use Rattle.vx_tables.proofs.picking.in_all.Goals as goal

pub loop-mask-init : goal.loop-mask-init
loop-mask-init c = λ i lt. has_first 128 i lt

pub loop-mask-preserved : goal.loop-mask-preserved
loop-mask-preserved c = λ i lt. one_more c.loop-mask.left c.args.masks.now c.loop-mask.mask-index i c.loop-mask-test.true (c.loop-mask.invariant i lt)
