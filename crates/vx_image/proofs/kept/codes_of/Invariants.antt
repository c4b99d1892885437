use Rattle.std.proofs.Common.{◌≡◌, map, take}
use Rattle.vx_image.specs.Parts.{instruction_bytes}
use Rattle.vx_image.proofs.kept.codes_of.Given as goal

abbrev pub invariant-loop-blocks : goal.invariant-loop-blocks
invariant-loop-blocks l = l.all ≡ map (map instruction_bytes) (take l.blocks-index l.codes)
