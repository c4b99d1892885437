use Rattle.vx_blocks.proofs.Places.{search_starts}
use Rattle.vx_blocks.proofs.blocks.Blocks.next.Goals as goal

pub invariant_of-self : goal.invariant_of-self
invariant_of-self c = search_starts _
