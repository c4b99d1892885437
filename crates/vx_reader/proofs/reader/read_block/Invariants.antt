use Rattle.vx_reader.proofs.Readers.{Reading}
use Rattle.vx_reader.proofs.reader.read_block.Given as goal

abbrev pub invariant-loop-placed : goal.invariant-loop-placed
invariant-loop-placed l = Reading l.bytes l.placed-items l.placed-index l.progress
