use Rattle.std.proofs.Common.{◌≡◌, take}
use Rattle.vx_compilation.proofs.tree.+copy.Given as goal

abbrev pub invariant-copy_acts-loop-act : goal.invariant-copy_acts-loop-act
invariant-copy_acts-loop-act l = l.copies ≡ take l.act-index l.acts

abbrev pub invariant-copy_parts-loop-part : goal.invariant-copy_parts-loop-part
invariant-copy_parts-loop-part l = l.copies ≡ take l.part-index l.parts

abbrev pub invariant-copy_fields-loop-field : goal.invariant-copy_fields-loop-field
invariant-copy_fields-loop-field l = l.copies ≡ take l.field-index l.fields
