use Rattle.std.proofs.Common.{arith}
use Rattle.vx_image.proofs.Counts.{few_blocks}
use Rattle.vx_image.proofs.loaded.Loaded.blocks.Goals as goal

pub overflow_cast-result : goal.overflow_cast-result
overflow_cast-result c =
    let few = few_blocks c.image.ensures.fits.0 c.image.result.now c.image.ensures.fits.1 c.args.code c.code_of.result.now c.code_of.ensures in
    omega (arith, few)
