use Rattle.std.proofs.Common.{◌≡◌, is_some, drop}
use Rattle.vx_model.specs.Holds.{slot}
use Rattle.vx_meaning.proofs.fields.has_slot.Given as goal

abbrev pub invariant-loop-own : goal.invariant-loop-own
invariant-loop-own l = is_some (slot l.key l.slots) ≡ is_some (slot l.key (drop l.own-index l.slots))
