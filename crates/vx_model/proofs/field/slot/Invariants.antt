use Rattle.std.proofs.Common.{◌≡◌, drop}
use Rattle.vx_model.specs.Holds.{slot}
use Rattle.vx_model.proofs.field.slot.Given as goal

abbrev pub invariant-loop-own : goal.invariant-loop-own
invariant-loop-own l = slot l.key l.slots ≡ slot l.key (drop l.own-index l.slots)
