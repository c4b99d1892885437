use Rattle.std.proofs.Common.{◌≡◌, ◌++◌, take, drop}
use Rattle.vx_model.specs.Meaning.{put_slot}
use Rattle.vx_meaning.proofs.fields.put_slot.Given as goal

abbrev pub invariant-loop-i : goal.invariant-loop-i
invariant-loop-i l =
    (l.slots ≡ l.fn.slots) × (l.value ≡ l.fn.value)
    × (take l.i l.slots ++ put_slot l.key l.fn.value (drop l.i l.slots) ≡ put_slot l.key l.fn.value l.fn.slots)
