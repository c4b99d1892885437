use Rattle.vx_answers.proofs.Told.{clones_answer}
use Rattle.vx_answers.proofs.laws.clones_are_answered.Goals as goal

pub returns : goal.returns
returns c = clones_answer
