use Rattle.std.proofs.Common.{arith}
use Rattle.vx_image.proofs.Whole.{are_bytes, found_fits}
use Rattle.vx_image.proofs.image.read_image.Goals as goal

pub returns-clause-fits : goal.returns-clause-fits
returns-clause-fits c =
    found_fits c.images_are_loaded.ensures.laid c.args.bytes.now (are_bytes c.args.bytes.now (λ i. let b = c.type_inv.bytes i in omega (arith, b))) _
    c.whole_at.ensures
