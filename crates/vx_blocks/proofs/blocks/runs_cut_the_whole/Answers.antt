use Rattle.vx_blocks.proofs.Whole.{blocks-fed}
use Rattle.vx_blocks.proofs.blocks.runs_cut_the_whole.Goals as goal

pub returns : goal.returns
returns c = blocks-fed
