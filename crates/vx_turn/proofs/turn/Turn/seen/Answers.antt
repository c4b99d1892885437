use Rattle.std.proofs.Common.{rules}
use Rattle.vx_turn.proofs.Turns.{looks_turn}
use Rattle.vx_turn.proofs.turn.Turn.seen.Goals as goal

pub load-requires : goal.load-requires
load-requires g c = (
  search rules,
  search rules,
  looks_turn g.T.Logged.stands g.T.Logged.seat _ _ c.seat.inside.seat.me.0 c.seat.inside.seat.me.1 (search rules),
)
