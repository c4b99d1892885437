use Rattle.std.proofs.Common.{arith}
use Rattle.vx_tables.proofs.picking.pick.Goals as goal

pub returns : goal.returns
returns c = c.pick_left.ensures c.args.masks.now (λ i lt. let few = c.requires.rows in c.in_all.ensures i (omega arith))
