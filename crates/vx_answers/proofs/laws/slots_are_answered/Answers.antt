use Rattle.vx_answers.proofs.SlotsLaw.{slots_row_is, slots_are_read, slots_read_each, slots_read_around}
use Rattle.vx_answers.proofs.laws.slots_are_answered.Goals as goal

pub returns-clause-answer : goal.returns-clause-answer
returns-clause-answer c = λ program is x. (slots_row_is program is x).answer

pub returns-clause-reads : goal.returns-clause-reads
returns-clause-reads c = slots_are_read

pub returns-clause-each : goal.returns-clause-each
returns-clause-each c = slots_read_each

pub returns-clause-around : goal.returns-clause-around
returns-clause-around c = slots_read_around
