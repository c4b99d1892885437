use Rattle.std.proofs.Common.{◌≡◌, ◌++◌, drop}
use Rattle.vx_answers.specs.OrderRows.{plain_ones}
use Rattle.vx_walks.proofs.ways.plain_ones.Given as goal

abbrev pub invariant-loop-child : goal.invariant-loop-child
invariant-loop-child l = l.names ++ plain_ones (drop l.child-index l.children) ≡ plain_ones l.children
