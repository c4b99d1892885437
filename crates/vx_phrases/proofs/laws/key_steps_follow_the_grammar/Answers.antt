use Rattle.vx_phrases.proofs.KeySteps as steps
use Rattle.vx_phrases.proofs.KeyBegins as begins
use Rattle.vx_phrases.proofs.laws.key_steps_follow_the_grammar.Goals as goal

pub returns-clause-complete : goal.returns-clause-complete
returns-clause-complete c = steps.complete

pub returns-clause-sound : goal.returns-clause-sound
returns-clause-sound c = steps.sound

pub returns-clause-ends : goal.returns-clause-ends
returns-clause-ends c = steps.ends

pub returns-clause-at_end : goal.returns-clause-at_end
returns-clause-at_end c = steps.at_end

pub returns-clause-begins : goal.returns-clause-begins
returns-clause-begins c = begins.begins

pub returns-clause-finish : goal.returns-clause-finish
returns-clause-finish c = begins.finish

pub returns-clause-number : goal.returns-clause-number
returns-clause-number c = steps.takes_number

pub returns-clause-over : goal.returns-clause-over
returns-clause-over c = steps.over
