use Rattle.std.proofs.Common.{◌∙◌, ap, sym}
use Rattle.vx_compilation.specs.Inlining as spec
use Rattle.vx_inline.specs.Flat.{all_flat, fields_flat}
use Rattle.vx_inline.proofs.Rows.{send_flat, new_flat}
use Rattle.vx_inline.proofs.flat.+flat.Goals as goal

pub is_flat-returns-in-Send : goal.is_flat-returns-in-Send
is_flat-returns-in-Send t c =
    c.are_flat.ensures ∙ ap all_flat c.as_slice.ensures ∙ sym (send_flat c.in-Send.field-0 c.in-Send.parts) ∙ ap spec.is_flat (sym c.in-Send.is)

pub is_flat-returns-in-New : goal.is_flat-returns-in-New
is_flat-returns-in-New t c =
    c.are_fields_flat.ensures ∙ ap fields_flat c.as_slice-in-New.ensures ∙ sym (new_flat c.in-New.field-0 c.in-New.fields) ∙ ap spec.is_flat (sym c.in-New.is)
