use Rattle.std.proofs.Common.{◌≡◌, drop}
use Rattle.vx_machine.specs.Slots.{word_at}
use Rattle.vx_machine.proofs.objects.slot.Given as goal

abbrev pub invariant-loop-slot : goal.invariant-loop-slot
invariant-loop-slot l = word_at l.field (drop l.slot-index l.slots) ≡ word_at l.field l.slots
