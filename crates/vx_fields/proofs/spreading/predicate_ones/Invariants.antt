use Rattle.std.proofs.Common.{◌≡◌, ◌++◌, drop}
use Rattle.vx_answers.specs.FieldRows.{predicate_ones}
use Rattle.vx_fields.proofs.spreading.predicate_ones.Given as goal

abbrev pub invariant-loop-child : goal.invariant-loop-child
invariant-loop-child l = l.names ++ predicate_ones (drop l.child-index l.children) ≡ predicate_ones l.children
