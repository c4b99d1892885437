use Rattle.vx_answers.proofs.BaseLaw.{base_row_is, base_is_read, base_reads_each}
use Rattle.vx_answers.proofs.laws.bases_are_answered.Goals as goal

pub returns-clause-answer : goal.returns-clause-answer
returns-clause-answer c = λ program is x. (base_row_is program is x).answer

pub returns-clause-reads : goal.returns-clause-reads
returns-clause-reads c = base_is_read

pub returns-clause-each : goal.returns-clause-each
returns-clause-each c = base_reads_each
