use Rattle.std.proofs.Common.{◌≡◌, ◌++◌, drop}
use Rattle.vx_answers.specs.FieldRows.{joined}
use Rattle.vx_fields.proofs.ordering.joined.Given as goal

abbrev pub invariant-loop-slots : goal.invariant-loop-slots
invariant-loop-slots l = l.all ++ joined (drop l.slots-index l.lists) ≡ joined l.lists
