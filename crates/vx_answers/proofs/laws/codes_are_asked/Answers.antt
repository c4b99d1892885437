use Rattle.vx_answers.proofs.CodeLaw.{codes_are_asked}
use Rattle.vx_answers.proofs.laws.codes_are_asked.Goals as goal

pub returns : goal.returns
returns c = codes_are_asked
