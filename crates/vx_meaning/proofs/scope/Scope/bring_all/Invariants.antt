use Rattle.std.proofs.Common.{◌≡◌, ◌++◌, drop}
use Rattle.vx_meaning.proofs.scope.Scope.bring_all.Given as goal

abbrev pub invariant-loop-i : goal.invariant-loop-i
invariant-loop-i l = l.self ≡ drop l.i l.locals ++ l.fn.self
