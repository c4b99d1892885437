use Rattle.vx_phrases.proofs.DeclComplete.{complete, BodyBegins}
use Rattle.vx_phrases.proofs.DeclSound.{sound}
use Rattle.vx_phrases.proofs.DeclBegins.{begins}
use Rattle.vx_phrases.proofs.DeclEnds.{ends, at_end, takes_number}
use Rattle.vx_phrases.proofs.laws.decl_steps_follow_the_grammar.Goals as goal

-- where a body begins, a body is wanted
body_begins : goal.After-numbers_are_alike → BodyBegins
body_begins c = λ scope ts us body. (c.bodies_begin.ensures.began scope ts us body, c.bodies_begin.ensures.begins scope ts us body)

pub returns-clause-complete : goal.returns-clause-complete
returns-clause-complete c = complete c.steps_follow_the_grammar.ensures.complete (body_begins c)

pub returns-clause-sound : goal.returns-clause-sound
returns-clause-sound c = sound c.steps_follow_the_grammar.ensures.sound (body_begins c)

pub returns-clause-ends : goal.returns-clause-ends
returns-clause-ends c = ends

pub returns-clause-at_end : goal.returns-clause-at_end
returns-clause-at_end c = at_end c.states_can_be_finished.ensures.wants

pub returns-clause-begins : goal.returns-clause-begins
returns-clause-begins c = begins

pub returns-clause-number : goal.returns-clause-number
returns-clause-number c = takes_number c.numbers_are_alike.ensures
