use Rattle.std.proofs.Common.{◌≡◌, ◌≤◌, length, reverse, take}
use Rattle.vx_model.specs.Meaning.{bound}
use Rattle.vx_meaning.proofs.scope.Scope.bound.Given as goal

abbrev pub invariant-loop-i : goal.invariant-loop-i
invariant-loop-i l = (l.i ≤ length l.self-inside.names.items) × (bound l.name l.self ≡ bound l.name (reverse (take l.i l.self-inside.names.items)))

abbrev pub decreases-loop-i : goal.decreases-loop-i
decreases-loop-i l = l.i
