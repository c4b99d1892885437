use Rattle.std.proofs.Common.{◌≡◌, drop}
use Rattle.vx_places.specs.Dispatch.{class_mask}
use Rattle.vx_machine.proofs.masks.first_mask.Given as goal

abbrev pub invariant-loop-entry : goal.invariant-loop-entry
invariant-loop-entry l = class_mask l.default l.class (drop l.entry-index l.entries) ≡ class_mask l.default l.class l.entries
