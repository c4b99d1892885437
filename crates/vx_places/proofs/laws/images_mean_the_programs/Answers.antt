use Rattle.vx_places.proofs.Showing.{images_mean}
use Rattle.vx_places.proofs.laws.images_mean_the_programs.Goals as goal

pub returns : goal.returns
returns c = images_mean
