use Rattle.std.proofs.Common.{◌≡◌, ◌++◌, ℕ, map, drop}
use Rattle.vx_places.specs.ImageMachine.{fresh}
use Rattle.vx_machine.specs.Making.{slot_value}
use Rattle.vx_machine.specs.Meaning.{Texts}
use Rattle.vx_machine.specs.Sound.{AreSlotsSound}
use Rattle.vx_machine.proofs.making.opened.Given as goal

abbrev pub invariant-loop-slot : goal.invariant-loop-slot
invariant-loop-slot l = ((texts : Texts) → map (slot_value texts) l.slots ++ fresh l.own (drop l.slot-index l.shape) ≡ fresh l.own l.shape)
    × ((texts : ℕ) → AreSlotsSound texts l.slots)
