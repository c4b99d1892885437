use Rattle.vx_bodies.proofs.Ends as ends
use Rattle.vx_bodies.proofs.Finish as finishes
use Rattle.vx_bodies.proofs.laws.states_can_be_finished.Goals as goal

pub returns-clause-wants : goal.returns-clause-wants
returns-clause-wants c = ends.wants

pub returns-clause-finish : goal.returns-clause-finish
returns-clause-finish c = finishes.finish
