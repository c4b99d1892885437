use Rattle.vx_reader.proofs.Texts.{Halfway}
use Rattle.vx_reader.proofs.text.quoted.Given as goal

abbrev pub invariant-loop-place : goal.invariant-loop-place
invariant-loop-place l = Halfway l.bytes l.value l.place l.escaped
