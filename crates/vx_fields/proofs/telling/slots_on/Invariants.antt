use Rattle.std.proofs.Common.{◌≡◌, ◌++◌, drop}
use Rattle.vx_answers.specs.FieldRows.{slots_on}
use Rattle.vx_fields.proofs.telling.slots_on.Given as goal

abbrev pub invariant-loop-field : goal.invariant-loop-field
invariant-loop-field l = l.slots ++ slots_on l.x (drop l.field-index l.fields) ≡ slots_on l.x l.fields
