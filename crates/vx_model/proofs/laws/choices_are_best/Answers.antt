use Rattle.vx_model.specs.Lookup.{applicable}
use Rattle.vx_model.proofs.Orders.{Chains}
use Rattle.vx_model.proofs.Choices.{one_is, is_one, none_is, is_none, many_is, is_many}
use Rattle.vx_model.proofs.laws.choices_are_best.Goals as goal

chains : goal.After-chains_are_found → Chains
chains c = record { finds = c.chains_are_found.ensures.found; are = c.chains_are_found.ensures.are }

pub returns-clause-one : goal.returns-clause-one
returns-clause-one c program heap selector arguments below m is =
    (one_is program (applicable program heap selector arguments below) m, is_one program is (chains c) (applicable program heap selector arguments below) m)

pub returns-clause-none : goal.returns-clause-none
returns-clause-none c program heap selector arguments below =
    (none_is program (applicable program heap selector arguments below), is_none program (applicable program heap selector arguments below))

pub returns-clause-many : goal.returns-clause-many
returns-clause-many c program heap selector arguments below is = (
  many_is program is (chains c) (applicable program heap selector arguments below),
  λ some. is_many program (applicable program heap selector arguments below) some.0.0 some.0.1 some.1,
)
