use Rattle.vx_tables.proofs.Bits.{scan_here, scan_on}
use Rattle.vx_tables.proofs.picking.scan.Goals as goal

pub loop-i-preserved : goal.loop-i-preserved
loop-i-preserved c = scan_on c.args.beats.now c.args.left c.loop-i.i c.loop-i-test.true c.if-is_best.ensures c.loop-i.invariant

pub returns-then-is_best : goal.returns-then-is_best
returns-then-is_best c = scan_here c.args.beats.now c.args.left c.loop-i.i c.loop-i-test.true c.if-is_best.ensures c.loop-i.invariant
