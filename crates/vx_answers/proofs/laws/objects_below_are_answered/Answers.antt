use Rattle.vx_answers.proofs.ConeLaw.{cone_answer, cone_is_read, cone_reads_stands, cone_reads_each}
use Rattle.vx_answers.proofs.laws.objects_below_are_answered.Goals as goal

pub returns-clause-answer : goal.returns-clause-answer
returns-clause-answer c = cone_answer

pub returns-clause-reads : goal.returns-clause-reads
returns-clause-reads c = cone_is_read

pub returns-clause-stands : goal.returns-clause-stands
returns-clause-stands c = cone_reads_stands

pub returns-clause-each : goal.returns-clause-each
returns-clause-each c = cone_reads_each
