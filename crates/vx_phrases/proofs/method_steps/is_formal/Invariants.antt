use Rattle.std.proofs.Common.{◌≡◌, drop}
use Rattle.vx_syntax.specs.Declarations.{named}
use Rattle.vx_syntax.specs.Expressions.{is_among}
use Rattle.vx_phrases.proofs.method_steps.is_formal.Given as goal

abbrev pub invariant-loop-formal : goal.invariant-loop-formal
invariant-loop-formal l = is_among (named l.formals) l.name ≡ is_among (named (drop l.formal-index l.formals)) l.name
