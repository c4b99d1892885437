use Rattle.std.proofs.Common.{arith}
use Rattle.vx_image.proofs.Counts.{few_listed}
use Rattle.vx_image.proofs.loaded.Loaded.listed.Goals as goal

pub overflow_cast-result : goal.overflow_cast-result
overflow_cast-result c =
    let few = few_listed c.image.ensures.fits.0 c.image.result.now c.image.ensures.fits.1 c.args.table c.args.position
    c.position_of-found.result.now c.position_of-found.ensures in
    omega (arith, few.0)

pub overflow_cast-result-2 : goal.overflow_cast-result-2
overflow_cast-result-2 c =
    let few = few_listed c.image.ensures.fits.0 c.image.result.now c.image.ensures.fits.1 c.args.table c.args.position
    c.position_of-found.result.now c.position_of-found.ensures in
    omega (arith, few.1)
