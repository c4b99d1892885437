use Rattle.std.proofs.Common.{◌≡◌, drop}
use Rattle.vx_syntax.specs.Expressions.{Bytes}
use Rattle.vx_model.specs.Walks.{Walked, HasRoom, to_do}
use Rattle.vx_model.proofs.above.go_up.Given as goal

abbrev pub invariant-loop-parent : goal.invariant-loop-parent
invariant-loop-parent l = record {
  room : HasRoom l.program l.marks l.left.items;
  to_do : to_do l.program l.marks l.left.items ≡ to_do l.program l.initial.marks l.initial.left.items;
  walked : (x : Bytes) → Walked l.program x l.initial.marks l.initial.left.items l.parent-items →
      Walked l.program x l.marks l.left.items (drop l.parent-index l.parent-items);
}
