use Rattle.std.proofs.Common.{◌≡◌, drop}
use Rattle.vx_machine.specs.Slots.{place_from}
use Rattle.vx_machine.proofs.objects.place.Given as goal

abbrev pub invariant-loop-i : goal.invariant-loop-i
invariant-loop-i l = place_from l.field l.i (drop l.i l.slots) ≡ place_from l.field 0 l.slots
