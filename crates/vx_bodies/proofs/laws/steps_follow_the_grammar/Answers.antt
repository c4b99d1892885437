use Rattle.vx_bodies.proofs.Complete.{complete}
use Rattle.vx_bodies.proofs.Sound.{sound}
use Rattle.vx_bodies.proofs.laws.steps_follow_the_grammar.Goals as goal

pub returns-clause-complete : goal.returns-clause-complete
returns-clause-complete c = λ state token ts us body h. complete h

pub returns-clause-sound : goal.returns-clause-sound
returns-clause-sound c = sound
