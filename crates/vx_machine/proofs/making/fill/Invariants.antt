use Rattle.std.proofs.Common.{◌≡◌, ℕ, drop}
use Rattle.vx_machine.specs.Making.{filled_words, has_slots}
use Rattle.vx_machine.specs.Sound.{AreSlotsSound, AreWordsSound}
use Rattle.vx_machine.proofs.making.fill.Given as goal

abbrev pub invariant-loop-i : goal.invariant-loop-i
invariant-loop-i l = (has_slots (drop l.i l.fields) l.slots ≡ has_slots l.fields l.fn.slots)
    × (filled_words (drop l.i l.fields) (drop l.i l.words) l.slots ≡ filled_words l.fields l.words l.fn.slots)
    × ((texts : ℕ) → AreWordsSound texts l.words → AreSlotsSound texts l.fn.slots → AreSlotsSound texts l.slots)
