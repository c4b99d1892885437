use Rattle.std.proofs.Common.{◌≡◌, ◌↔◌, drop}
use Rattle.vx_syntax.specs.Expressions.{with_formals}
use Rattle.vx_syntax.specs.Written.{AreNew}
use Rattle.vx_program.proofs.written.are_new.Given as goal

abbrev pub invariant-loop-name : goal.invariant-loop-name
invariant-loop-name l =
    (AreNew l.fn.scope l.names ↔ AreNew l.scope (drop l.name-index l.names))
    × (with_formals l.fn.scope l.names ≡ with_formals l.scope (drop l.name-index l.names))
