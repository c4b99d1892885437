use Rattle.vx_bodies.proofs.Counts as counts
use Rattle.vx_bodies.proofs.laws.names_come_singly.Goals as goal

pub returns : goal.returns
returns c = counts.grows
