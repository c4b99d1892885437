use Rattle.vx_model.proofs.Orders.{Chains}
use Rattle.vx_model.proofs.Holding.{at_once, by_parents}
use Rattle.vx_model.proofs.laws.holding_is_found.Goals as goal

chains : goal.After-chains_are_found → Chains
chains c = record { finds = c.chains_are_found.ensures.found; are = c.chains_are_found.ensures.are }

pub returns : goal.returns
returns c program heap value x is = (by_parents program is (chains c) heap value x, at_once program is (chains c) heap value)
