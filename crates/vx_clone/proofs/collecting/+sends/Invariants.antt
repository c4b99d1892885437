use Rattle.std.proofs.Common.{◌≡◌, ◌++◌, drop}
use Rattle.vx_compilation.specs.Cloning.{sends_of}
use Rattle.vx_clone.specs.Sends.{parts_sends, fields_sends}
use Rattle.vx_clone.proofs.collecting.+sends.Given as goal

abbrev pub invariant-push_body-loop-statement : goal.invariant-push_body-loop-statement
invariant-push_body-loop-statement l =
    l.sendings ++ sends_of (drop l.statement-index l.statement-items) ≡ l.initial.sendings ++ sends_of l.statement-items

abbrev pub invariant-push_parts-loop-part : goal.invariant-push_parts-loop-part
invariant-push_parts-loop-part l = l.sendings ++ parts_sends (drop l.part-index l.parts) ≡ l.initial.sendings ++ parts_sends l.parts

abbrev pub invariant-push_fields-loop-field : goal.invariant-push_fields-loop-field
invariant-push_fields-loop-field l = l.sendings ++ fields_sends (drop l.field-index l.fields) ≡ l.initial.sendings ++ fields_sends l.fields
