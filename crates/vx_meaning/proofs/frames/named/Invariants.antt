use Rattle.std.proofs.Common.{◌≡◌, Some, map, take}
use Rattle.vx_meaning.proofs.frames.named.Given as goal

abbrev pub invariant-loop-name : goal.invariant-loop-name
invariant-loop-name l = l.formals ≡ map Some (take l.name-index l.names)
