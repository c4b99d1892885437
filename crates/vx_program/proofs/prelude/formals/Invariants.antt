use Rattle.std.proofs.Common.{◌≡◌, take, map, Some}
use Rattle.vx_program.proofs.prelude.formals.Given as goal

abbrev pub invariant-loop-name : goal.invariant-loop-name
invariant-loop-name l = l.formals ≡ map Some (take l.name-index l.names)
