use Rattle.vx_program.specs.Program.{here}
use Rattle.vx_model.proofs.Orders.{on, no_two}
use Rattle.vx_model.proofs.laws.above_is_an_order.Goals as goal

pub returns-clause-reflexive : goal.returns-clause-reflexive
returns-clause-reflexive c program x = here

pub returns-clause-transitive : goal.returns-clause-transitive
returns-clause-transitive c program x y z chain rest = on program chain rest

pub returns-clause-antisymmetric : goal.returns-clause-antisymmetric
returns-clause-antisymmetric c program x y is chain back = no_two program is chain back
