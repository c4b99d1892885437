use Rattle.vx_reader.proofs.Writable.{edit_writable}
use Rattle.vx_reader.proofs.laws.read_edits_are_writable.Goals as goal

pub returns : goal.returns
returns c = edit_writable c.phrases_are_read.ensures c.writable_edits_are_read.ensures.written
