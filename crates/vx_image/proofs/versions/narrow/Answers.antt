use Rattle.std.proofs.Common.{not, sym, ap, ◌∙◌}
use Rattle.std.specs.List.{position_from}
use Rattle.vx_image.specs.Narrow.{is_narrow}
use Rattle.vx_image.proofs.Narrowed.{fits_one}
use Rattle.vx_image.proofs.Whole.{narrow_widens}
use Rattle.vx_image.proofs.versions.narrow.Goals as goal

pub returns-clause-widens : goal.returns-clause-widens
returns-clause-widens c =
    let none = ap (position_from (λ t. not (is_narrow t)) 0) (sym c.as_slice.ensures) ∙ sym c.too_wide.ensures ∙ c.in-None.is in
    let fit = fits_one c.in-Ok.field-0-0 c.in-Ok.image c.in-Ok.ensures.fits none in
    narrow_widens c.images_are_loaded.ensures.loaded c.args.bytes.now c.in_ok-spell_image-in-None.field-0.items c.in-Ok.field-0-0 c.in-Ok.image
    c.in-Ok.ensures.gives fit c.in_ok-spell_image-in-None.ensures
