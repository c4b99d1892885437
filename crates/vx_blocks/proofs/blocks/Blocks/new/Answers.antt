use Rattle.vx_blocks.proofs.Places.{search_starts}
use Rattle.vx_blocks.proofs.blocks.Blocks.new.Goals as goal

pub invariant_of-result : goal.invariant_of-result
invariant_of-result c = search_starts _
