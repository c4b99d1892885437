use Rattle.std.proofs.Common.{◌≡◌, ◌++◌, reverse, take}
use Rattle.vx_meaning.proofs.scope.Scope.copy.Given as goal

abbrev pub invariant-loop-i : goal.invariant-loop-i
invariant-loop-i l = l.copies ++ reverse (take l.i l.self-inside.names.items) ≡ l.self
