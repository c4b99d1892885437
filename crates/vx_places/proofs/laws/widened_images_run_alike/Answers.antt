use Rattle.vx_places.proofs.Widening.{widened_alike}
use Rattle.vx_places.proofs.laws.widened_images_run_alike.Goals as goal

pub returns : goal.returns
returns c = widened_alike c.images_are_loaded.ensures.laid c.images_are_loaded.ensures.loaded c.images_are_loaded.ensures.wider
