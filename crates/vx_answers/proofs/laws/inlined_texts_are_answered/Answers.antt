use Rattle.vx_answers.proofs.Told.{inline_row_is}
use Rattle.vx_answers.proofs.laws.inlined_texts_are_answered.Goals as goal

pub returns-clause-answer : goal.returns-clause-answer
returns-clause-answer c = λ program key. (inline_row_is program key).answer

pub returns-clause-reads : goal.returns-clause-reads
returns-clause-reads c = λ program key. (inline_row_is program key).read
