use Rattle.std.proofs.Common.{◌≡◌, drop}
use Rattle.vx_bodies.specs.Machine.{outer_scope}
use Rattle.vx_bodies.specs.Scopes.{is_listed}
use Rattle.vx_bodies.proofs.scope.is_outside.Given as goal

abbrev pub invariant-loop-i : goal.invariant-loop-i
invariant-loop-i l = is_listed l.variable (outer_scope (drop l.i l.levels)) l.x ≡ is_listed l.variable (outer_scope l.levels) l.x
