use Rattle.std.proofs.Common.{◌≡◌, ◌++◌, drop, map}
use Rattle.vx_compilation.specs.Code.{Instructions, statements_code, statement_code}
use Rattle.vx_units.specs.CodeUnit.{code_signs}
use Rattle.vx_codegen.specs.Emitted.{mode, parts_code, fields_code}
use Rattle.vx_codegen.proofs.parts.+code.Given as goal

abbrev pub invariant-append_parts-loop-part : goal.invariant-append_parts-loop-part
invariant-append_parts-loop-part l =
    (following : Instructions) → l.unit ++ code_signs (parts_code (drop l.part-index l.parts) following)
    ≡ l.initial.unit ++ code_signs (parts_code l.parts following)

abbrev pub invariant-append_values-loop-field : goal.invariant-append_values-loop-field
invariant-append_values-loop-field l =
    (following : Instructions) → l.unit ++ code_signs (fields_code (drop l.field-index l.fields) following)
    ≡ l.initial.unit ++ code_signs (fields_code l.fields following)

abbrev pub invariant-append_acts-loop-place : goal.invariant-append_acts-loop-place
invariant-append_acts-loop-place l =
    (following : Instructions) → l.unit ++ code_signs (statements_code (mode l.is_closure) (map statement_code (drop l.place l.acts)) following)
    ≡ l.initial.unit ++ code_signs (statements_code (mode l.is_closure) (map statement_code l.acts) following)
