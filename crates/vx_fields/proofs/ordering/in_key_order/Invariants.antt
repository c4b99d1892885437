use Rattle.std.proofs.Common.{◌≡◌, ◌≤◌, drop, length}
use Rattle.vx_answers.specs.FieldRows.{in_key_order}
use Rattle.vx_fields.proofs.ordering.in_key_order.Given as goal

abbrev pub decreases-loop-left : goal.decreases-loop-left
decreases-loop-left l = l.left

abbrev pub invariant-loop-left : goal.invariant-loop-left
invariant-loop-left l = (l.left ≤ length l.slots) × (l.all.items ≡ in_key_order (drop l.left l.slots))
