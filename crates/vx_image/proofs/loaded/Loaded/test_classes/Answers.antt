use Rattle.std.proofs.Common.{arith}
use Rattle.vx_image.proofs.Counts.{few_classes}
use Rattle.vx_image.proofs.loaded.Loaded.test_classes.Goals as goal

pub overflow_cast-result : goal.overflow_cast-result
overflow_cast-result c =
    let few = few_classes c.image.ensures.fits.0 c.image.result.now c.image.ensures.fits.1 c.args.test c.test_of.result.now c.test_of.ensures in
    omega (arith, few)
