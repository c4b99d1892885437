use Rattle.vx_bodies.proofs.Ends as ends
use Rattle.vx_bodies.proofs.laws.numbers_are_alike.Goals as goal

pub returns : goal.returns
returns c = ends.takes_number
