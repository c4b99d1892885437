use Rattle.vx_batch.proofs.Reading.{nothing_read}
use Rattle.vx_batch.proofs.pieces.answer_source.Goals as goal

pub returns-in_default : goal.returns-in_default
returns-in_default g c = nothing_read c.every_block_is_read.ensures _ _

pub returns-in_default-new : goal.returns-in_default-new
returns-in_default-new g c = nothing_read c.every_block_is_read.ensures _ _
