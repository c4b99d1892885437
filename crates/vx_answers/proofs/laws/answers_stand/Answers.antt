use Rattle.vx_answers.proofs.ByRow.{built_stands}
use Rattle.vx_answers.proofs.laws.answers_stand.Goals as goal

pub returns : goal.returns
returns c = built_stands
