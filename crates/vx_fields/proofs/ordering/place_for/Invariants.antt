use Rattle.std.proofs.Common.{◌≡◌, ◌++◌, take, drop}
use Rattle.vx_answers.specs.FieldRows.{with_slot}
use Rattle.vx_fields.proofs.ordering.place_for.Given as goal

abbrev pub invariant-loop-place : goal.invariant-loop-place
invariant-loop-place l = with_slot (l.key, l.start) l.slots ≡ take l.place l.slots ++ with_slot (l.key, l.start) (drop l.place l.slots)
