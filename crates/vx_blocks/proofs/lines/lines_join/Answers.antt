use Rattle.vx_blocks.proofs.Cuts.{concat-lines}
use Rattle.vx_blocks.proofs.lines.lines_join.Goals as goal

pub returns : goal.returns
returns c = concat-lines
