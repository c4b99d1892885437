use Rattle.std.proofs.Common.{◌≡◌, ◌++◌, drop}
use Rattle.vx_fields.proofs.ordering.push_all.Given as goal

abbrev pub invariant-loop-slot : goal.invariant-loop-slot
invariant-loop-slot l = l.all ++ drop l.slot-index l.slots ≡ l.initial.all ++ l.slots
