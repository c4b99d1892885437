use Rattle.std.proofs.Common.{◌≡◌, drop}
use Rattle.vx_inline.specs.Flat.{all_flat, fields_flat}
use Rattle.vx_inline.proofs.flat.+flat.Given as goal

abbrev pub invariant-are_flat-loop-part : goal.invariant-are_flat-loop-part
invariant-are_flat-loop-part l = all_flat l.parts ≡ all_flat (drop l.part-index l.parts)

abbrev pub invariant-are_fields_flat-loop-field : goal.invariant-are_fields_flat-loop-field
invariant-are_fields_flat-loop-field l = fields_flat l.fields ≡ fields_flat (drop l.field-index l.fields)
