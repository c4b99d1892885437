use Rattle.vx_answers.proofs.Told.{told_is, code_told}
use Rattle.vx_answers.proofs.laws.answers_are_told.Goals as goal

pub returns-clause-told : goal.returns-clause-told
returns-clause-told c = told_is

pub returns-clause-code : goal.returns-clause-code
returns-clause-code c = code_told
