use Rattle.std.proofs.Common.{◌≡◌, ◌++◌, drop}
use Rattle.vx_codegen.specs.Ungrouped.{stretches_pieces}
use Rattle.vx_codegen.proofs.unit.append_pieces.Given as goal

abbrev pub invariant-loop-stretch : goal.invariant-loop-stretch
invariant-loop-stretch l = l.pieces.items ++ stretches_pieces (drop l.stretch-index l.stretches) ≡ l.initial.pieces.items ++ stretches_pieces l.stretches
