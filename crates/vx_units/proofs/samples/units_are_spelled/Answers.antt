use Rattle.vx_units.proofs.Spelled.{units_spelled}
use Rattle.vx_units.proofs.samples.units_are_spelled.Goals as goal

pub returns : goal.returns
returns c = units_spelled
