use Rattle.vx_answers.proofs.ByRow.{built_same}
use Rattle.vx_answers.proofs.laws.reads_determine_answers.Goals as goal

pub returns : goal.returns
returns c = built_same
