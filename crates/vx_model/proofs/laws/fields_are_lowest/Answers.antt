use Rattle.vx_model.specs.Fields.{keys_above}
use Rattle.vx_model.proofs.Orders.{Chains}
use Rattle.vx_model.proofs.Lowest.{found_lowest, lowest_found}
use Rattle.vx_model.proofs.laws.fields_are_lowest.Goals as goal

chains : goal.After-chains_are_found → Chains
chains c = record { finds = c.chains_are_found.ensures.found; are = c.chains_are_found.ensures.are }

pub returns : goal.returns
returns c program class name key is =
    (found_lowest program (chains c) (keys_above program class name program) key, lowest_found program is (chains c) class name key)
