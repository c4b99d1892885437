use Rattle.vx_format.proofs.Images.{loaded_is_laid, laid_is_loaded, fronts_are_short, more_is_trailing, one_image}
use Rattle.vx_format.proofs.Widen.{all_fit}
use Rattle.vx_format.proofs.laws.images_are_loaded.Goals as goal

pub returns : goal.returns
returns c = record { laid = loaded_is_laid; loaded = laid_is_loaded; fronts = fronts_are_short; more = more_is_trailing; one = one_image; wider = all_fit }
