use Rattle.vx_answers.proofs.Told.{bind_answer}
use Rattle.vx_answers.proofs.BindLaw.{bind_is_read, bind_reads_each}
use Rattle.vx_answers.proofs.laws.bindings_are_answered.Goals as goal

pub returns-clause-answer : goal.returns-clause-answer
returns-clause-answer c = bind_answer

pub returns-clause-reads : goal.returns-clause-reads
returns-clause-reads c = bind_is_read

pub returns-clause-each : goal.returns-clause-each
returns-clause-each c = bind_reads_each
