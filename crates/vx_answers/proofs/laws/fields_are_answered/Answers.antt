use Rattle.vx_answers.proofs.Told.{field_row_is, field_is_read, field_reads_each, field_reads_each_field}
use Rattle.vx_answers.proofs.laws.fields_are_answered.Goals as goal

pub returns-clause-answer : goal.returns-clause-answer
returns-clause-answer c = λ program is class name. (field_row_is program is class name).answer

pub returns-clause-reads : goal.returns-clause-reads
returns-clause-reads c = field_is_read

pub returns-clause-each : goal.returns-clause-each
returns-clause-each c = field_reads_each

pub returns-clause-each_field : goal.returns-clause-each_field
returns-clause-each_field c = field_reads_each_field
