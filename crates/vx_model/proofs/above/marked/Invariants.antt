use Rattle.std.proofs.Common.{[]}
use Rattle.vx_model.specs.Walks.{Walked, HasRoom, to_do}
use Rattle.vx_model.proofs.above.marked.Given as goal

abbrev pub invariant-loop-place : goal.invariant-loop-place
invariant-loop-place l = record {
  walked : Walked l.program l.x l.marks l.left.items [];
  room : HasRoom l.program l.marks l.left.items;
}

abbrev pub decreases-loop-place : goal.decreases-loop-place
decreases-loop-place l = to_do l.program l.marks l.left.items
