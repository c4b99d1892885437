use Rattle.vx_image.proofs.Counts.{few_pairs}
use Rattle.vx_image.proofs.loaded.Loaded.row.Goals as goal

pub shown-requires : goal.shown-requires
shown-requires c =
    few_pairs c.image.ensures.fits.0 c.image.result.now c.image.ensures.fits.1 c.args.table c.args.row c.row_of.result.now c.row_of.ensures
