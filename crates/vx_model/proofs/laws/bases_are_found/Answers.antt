use Rattle.std.proofs.Common.{ap, is_some}
use Rattle.vx_model.proofs.Orders.{Chains}
use Rattle.vx_model.proofs.Bases.{has_base, base_is, is_base}
use Rattle.vx_model.proofs.laws.bases_are_found.Goals as goal

chains : goal.After-chains_are_found → Chains
chains c = record { finds = c.chains_are_found.ensures.found; are = c.chains_are_found.ensures.are }

pub returns-clause-is : goal.returns-clause-is
returns-clause-is c program x y is = (base_is program is (chains c) x y, is_base program is (chains c))

pub returns-clause-there : goal.returns-clause-there
returns-clause-there c program x is there = ap is_some (has_base program is (chains c) x there).1
