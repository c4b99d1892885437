use Rattle.std.proofs.Common.{◌≡◌, drop}
use Rattle.vx_compilation.specs.Inlining.{is_flat_body}
use Rattle.vx_inline.proofs.flat.is_flat_body.Given as goal

abbrev pub invariant-loop-statement : goal.invariant-loop-statement
invariant-loop-statement l = is_flat_body l.body ≡ is_flat_body (drop l.statement-index l.body)
