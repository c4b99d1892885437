use Rattle.std.proofs.Common.{arith}
use Rattle.vx_image.proofs.Counts.{few_slots}
use Rattle.vx_image.proofs.loaded.Loaded.slots.Goals as goal

pub overflow_cast-result : goal.overflow_cast-result
overflow_cast-result c =
    let few = few_slots c.image.ensures.fits.0 c.image.result.now c.image.ensures.fits.1 c.args.object c.shape_of.result.now c.shape_of.ensures in
    omega (arith, few)
