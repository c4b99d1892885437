use Rattle.std.proofs.Common.{◌≡◌, drop}
use Rattle.vx_syntax.specs.Expressions.{is_among}
use Rattle.vx_syntax.proofs.expr.is_among.Given as goal

abbrev pub invariant-loop-name : goal.invariant-loop-name
invariant-loop-name l = is_among l.names l.x ≡ is_among (drop l.name-index l.names) l.x
