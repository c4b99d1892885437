use Rattle.std.proofs.Common.{◌≡◌, drop}
use Rattle.vx_syntax.specs.Expressions.{field_names, is_among}
use Rattle.vx_program.proofs.written.is_field.Given as goal

abbrev pub invariant-loop-field : goal.invariant-loop-field
invariant-loop-field l = is_among (field_names l.fields) l.x ≡ is_among (field_names (drop l.field-index l.fields)) l.x
