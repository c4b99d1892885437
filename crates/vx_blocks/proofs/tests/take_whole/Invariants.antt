use Rattle.std.proofs.Common.{length}
use Rattle.vx_blocks.proofs.tests.take_whole.Given as goal

abbrev pub decreases-loop-block : goal.decreases-loop-block
decreases-loop-block l = length l.blocks
