use Rattle.vx_reader.proofs.Answered.{answered}
use Rattle.vx_reader.proofs.laws.every_block_is_read.Goals as goal

pub returns : goal.returns
returns c = answered c.phrases_are_read.ensures
