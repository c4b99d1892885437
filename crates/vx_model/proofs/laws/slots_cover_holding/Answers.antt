use Rattle.std.proofs.Common.{subst}
use Rattle.vx_lists.specs.Members.{IsIn}
use Rattle.vx_lists.proofs.Finding.{left_is}
use Rattle.vx_model.specs.Fields.{fields, may, slots}
use Rattle.vx_model.proofs.Orders.{Chains}
use Rattle.vx_model.proofs.Within.{holds_may, is_slot, meant_slot}
use Rattle.vx_model.proofs.laws.slots_cover_holding.Goals as goal

chains : goal.After-chains_are_found → Chains
chains c = record { finds = c.chains_are_found.ensures.found; are = c.chains_are_found.ensures.are }

pub returns-clause-may : goal.returns-clause-may
returns-clause-may c = λ program heap value x is h. holds_may program is (chains c) heap value x h

pub returns-clause-slots : goal.returns-clause-slots
returns-clause-slots c = λ program class field.
    (left_is (λ own. may program class own.0.specialiser) (fields program) field, λ h. is_slot program class field h.0 h.1)

pub returns-clause-meant : goal.returns-clause-meant
returns-clause-meant c = λ program class name key e.
    let own = meant_slot program (chains c) class name key e in
    (own.0.1, subst (λ z. IsIn (z, own.0.1) (slots program class)) own.2 own.1)
