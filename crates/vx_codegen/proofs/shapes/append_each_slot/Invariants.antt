use Rattle.std.proofs.Common.{◌≡◌, ◌++◌, drop}
use Rattle.vx_units.specs.Signs.{each}
use Rattle.vx_units.specs.ShapeUnit.{slot_signs}
use Rattle.vx_codegen.proofs.shapes.append_each_slot.Given as goal

abbrev pub invariant-loop-slot : goal.invariant-loop-slot
invariant-loop-slot l = l.unit ++ each slot_signs (drop l.slot-index l.slots) ≡ l.initial.unit ++ each slot_signs l.slots
