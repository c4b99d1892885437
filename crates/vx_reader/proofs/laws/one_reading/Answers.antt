use Rattle.vx_reader.proofs.Answered.{one_reading_of}
use Rattle.vx_reader.proofs.laws.one_reading.Goals as goal

pub returns : goal.returns
returns c = one_reading_of c.phrases_are_read.ensures
