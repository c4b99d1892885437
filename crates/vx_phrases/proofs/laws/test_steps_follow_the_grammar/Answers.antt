use Rattle.vx_phrases.proofs.TestComplete as complete
use Rattle.vx_phrases.proofs.TestSound as sound
use Rattle.vx_phrases.proofs.TestFinish as finish
use Rattle.vx_phrases.proofs.laws.test_steps_follow_the_grammar.Goals as goal

pub returns-clause-complete : goal.returns-clause-complete
returns-clause-complete c = complete.complete

pub returns-clause-sound : goal.returns-clause-sound
returns-clause-sound c = sound.sound

pub returns-clause-ends : goal.returns-clause-ends
returns-clause-ends c = finish.ends

pub returns-clause-at_end : goal.returns-clause-at_end
returns-clause-at_end c = finish.at_end

pub returns-clause-begins : goal.returns-clause-begins
returns-clause-begins c = finish.begins

pub returns-clause-finish : goal.returns-clause-finish
returns-clause-finish c = finish.finish

pub returns-clause-number : goal.returns-clause-number
returns-clause-number c = finish.takes_number
