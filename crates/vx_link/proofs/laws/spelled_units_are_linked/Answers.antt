use Rattle.vx_link.proofs.Laid.{spelled_is_linked}
use Rattle.vx_link.proofs.laws.spelled_units_are_linked.Goals as goal

pub returns : goal.returns
returns c = spelled_is_linked
