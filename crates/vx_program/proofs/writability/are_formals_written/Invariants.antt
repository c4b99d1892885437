use Rattle.std.proofs.Common.{◌≡◌, ◌↔◌, drop}
use Rattle.vx_syntax.specs.Declarations.{named}
use Rattle.vx_syntax.specs.Expressions.{with_formals}
use Rattle.vx_syntax.specs.Written.{AreFormalsWritten}
use Rattle.vx_program.proofs.writability.are_formals_written.Given as goal

abbrev pub invariant-loop-place : goal.invariant-loop-place
invariant-loop-place l =
    (AreFormalsWritten l.fn.scope l.formals l.specialisers ↔ AreFormalsWritten l.scope (drop l.place l.formals) (drop l.place l.specialisers))
    × (with_formals l.fn.scope (named l.formals) ≡ with_formals l.scope (named (drop l.place l.formals)))
