use Rattle.std.proofs.Common.{◌≡◌}
use Rattle.vx_phrases.specs.TestMachine as spec
use Rattle.vx_phrases.proofs.test_steps.negated.Given as goal

abbrev pub invariant-loop-left : goal.invariant-loop-left
invariant-loop-left l = spec.negated l.left l.negated ≡ spec.negated l.fn.nots l.fn.test

abbrev pub decreases-loop-left : goal.decreases-loop-left
decreases-loop-left l = l.left
