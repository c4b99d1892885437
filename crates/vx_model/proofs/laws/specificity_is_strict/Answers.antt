use Rattle.vx_model.proofs.Orders.{Chains}
use Rattle.vx_model.proofs.Choices.{strict}
use Rattle.vx_model.proofs.laws.specificity_is_strict.Goals as goal

chains : goal.After-chains_are_found → Chains
chains c = record { finds = c.chains_are_found.ensures.found; are = c.chains_are_found.ensures.are }

pub returns : goal.returns
returns c program m n is forth back =
    strict program is (chains c) m n forth back
