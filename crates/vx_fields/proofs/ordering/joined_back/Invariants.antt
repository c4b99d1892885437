use Rattle.std.proofs.Common.{◌≡◌, ◌++◌, ◌≤◌, take, length}
use Rattle.vx_fields.specs.Questions.{gathered}
use Rattle.vx_fields.proofs.ordering.joined_back.Given as goal

abbrev pub decreases-loop-left : goal.decreases-loop-left
decreases-loop-left l = l.left

abbrev pub invariant-loop-left : goal.invariant-loop-left
invariant-loop-left l = (l.left ≤ length l.lists) × (l.all ++ gathered (take l.left l.lists) ≡ gathered l.lists)
