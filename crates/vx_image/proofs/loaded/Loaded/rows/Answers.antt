use Rattle.std.proofs.Common.{arith}
use Rattle.vx_image.proofs.Counts.{few_rows}
use Rattle.vx_image.proofs.loaded.Loaded.rows.Goals as goal

pub overflow_cast-result : goal.overflow_cast-result
overflow_cast-result c =
    let few = few_rows c.image.ensures.fits.0 c.image.result.now c.image.ensures.fits.1 c.args.table c.table_of.result.now c.table_of.ensures in
    omega (arith, few)
