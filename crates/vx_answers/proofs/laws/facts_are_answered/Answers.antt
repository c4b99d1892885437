use Rattle.vx_answers.proofs.ByRow.{facts_are}
use Rattle.vx_answers.proofs.Touching.{same_fact}
use Rattle.vx_answers.proofs.laws.facts_are_answered.Goals as goal

pub returns-clause-answer : goal.returns-clause-answer
returns-clause-answer c = facts_are

pub returns-clause-alone : goal.returns-clause-alone
returns-clause-alone c = same_fact
