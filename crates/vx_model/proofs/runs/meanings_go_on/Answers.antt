use Rattle.vx_model.proofs.Further.{goes_on}
use Rattle.vx_model.proofs.runs.meanings_go_on.Goals as goal

pub returns : goal.returns
returns c = goes_on
