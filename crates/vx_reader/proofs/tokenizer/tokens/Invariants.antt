use Rattle.std.proofs.Common.{length}
use Rattle.vx_reader.proofs.Fronts.{Found}
use Rattle.vx_reader.proofs.tokenizer.tokens.Given as goal

abbrev pub invariant-loop-rest : goal.invariant-loop-rest
invariant-loop-rest l = Found l.bytes l.rest l.tokens

abbrev pub decreases-loop-rest : goal.decreases-loop-rest
decreases-loop-rest l = length l.rest
