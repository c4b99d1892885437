use Rattle.std.proofs.Common.{◌≡◌, map, take}
use Rattle.vx_image.specs.Parts.{instruction_bytes}
use Rattle.vx_image.proofs.kept.code_of.Given as goal

abbrev pub invariant-loop-block : goal.invariant-loop-block
invariant-loop-block l = l.code ≡ map instruction_bytes (take l.block-index l.blocks)
