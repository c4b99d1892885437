use Rattle.std.proofs.Common.{◌≡◌, ◌++◌, map, take}
use Rattle.vx_program.proofs.walk.append.Given as goal

abbrev pub invariant-loop-name : goal.invariant-loop-name
invariant-loop-name l = map (λ x. x.now) l.left.items ≡ map (λ x. x.now) l.initial.left.items ++ take l.name-index l.names
