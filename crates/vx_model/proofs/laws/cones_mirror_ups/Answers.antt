use Rattle.vx_model.proofs.Orders.{Chains}
use Rattle.vx_model.proofs.Cones.{up_is, is_up, cone_is, is_cone, mirror_up, mirror_down}
use Rattle.vx_model.proofs.laws.cones_mirror_ups.Goals as goal

chains : goal.After-chains_are_found → Chains
chains c = record { finds = c.chains_are_found.ensures.found; are = c.chains_are_found.ensures.are }

pub returns-clause-up : goal.returns-clause-up
returns-clause-up c program x y = (up_is program (chains c) x y, λ r. is_up program (chains c) x y r.0 r.1 r.2)

pub returns-clause-cone : goal.returns-clause-cone
returns-clause-cone c program x y = (cone_is program (chains c) x y, λ r. is_cone program (chains c) x y r.0 r.1)

pub returns-clause-mirror : goal.returns-clause-mirror
returns-clause-mirror c program x y there = (mirror_up program (chains c) x y there, λ r. mirror_down program (chains c) x y r.0 r.1)
