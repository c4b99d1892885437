use Rattle.std.proofs.Common.{◌≡◌, drop}
use Rattle.vx_syntax.specs.Declarations.{named, formal_scope}
use Rattle.vx_syntax.specs.Expressions.{with_formals}
use Rattle.vx_bodies.proofs.machine.declared.Given as goal

abbrev pub invariant-loop-formal : goal.invariant-loop-formal
invariant-loop-formal l = formal_scope l.formals ≡ with_formals l.declared (named (drop l.formal-index l.formals))
