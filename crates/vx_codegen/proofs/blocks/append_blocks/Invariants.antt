use Rattle.std.proofs.Common.{◌≡◌, ◌++◌, drop}
use Rattle.vx_units.specs.CodeUnit.{blocks_signs}
use Rattle.vx_codegen.proofs.blocks.append_blocks.Given as goal

abbrev pub invariant-loop-number : goal.invariant-loop-number
invariant-loop-number l = l.unit ++ blocks_signs l.number (drop l.number l.blocks) ≡ l.initial.unit ++ blocks_signs 0 l.blocks
