use Rattle.std.proofs.Common.{◌≡◌, ◌++◌, drop}
use Rattle.vx_units.specs.Signs.{each}
use Rattle.vx_units.specs.CodeUnit.{field_signs}
use Rattle.vx_codegen.specs.Emitted.{keys}
use Rattle.vx_codegen.proofs.parts.append_keys.Given as goal

abbrev pub invariant-loop-field : goal.invariant-loop-field
invariant-loop-field l = l.unit ++ each field_signs (keys (drop l.field-index l.fields)) ≡ l.initial.unit ++ each field_signs (keys l.fields)
