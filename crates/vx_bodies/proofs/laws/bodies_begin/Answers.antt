use Rattle.vx_bodies.proofs.Counts.{begun_length}
use Rattle.vx_bodies.proofs.Ends as ends
use Rattle.vx_bodies.proofs.laws.bodies_begin.Goals as goal

pub returns-clause-begins : goal.returns-clause-begins
returns-clause-begins c = ends.begins

pub returns-clause-began : goal.returns-clause-began
returns-clause-began c = ends.began

pub returns-clause-names : goal.returns-clause-names
returns-clause-names c = begun_length
