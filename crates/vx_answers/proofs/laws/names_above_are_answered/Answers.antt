use Rattle.vx_answers.proofs.UpLaw.{up_answer, up_is_read, up_reads_each}
use Rattle.vx_answers.proofs.laws.names_above_are_answered.Goals as goal

pub returns-clause-answer : goal.returns-clause-answer
returns-clause-answer c = up_answer

pub returns-clause-reads : goal.returns-clause-reads
returns-clause-reads c = up_is_read

pub returns-clause-each : goal.returns-clause-each
returns-clause-each c = up_reads_each
