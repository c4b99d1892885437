use Rattle.vx_answers.proofs.SlotsLaw.{shape_row_is}
use Rattle.vx_answers.proofs.laws.shapes_are_answered.Goals as goal

pub returns-clause-answer : goal.returns-clause-answer
returns-clause-answer c = λ program is x. (shape_row_is program is x).answer

pub returns-clause-reads : goal.returns-clause-reads
returns-clause-reads c = λ program is x. (shape_row_is program is x).read
