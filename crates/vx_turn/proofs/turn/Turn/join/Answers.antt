use Rattle.std.proofs.Common.{rules}
use Rattle.vx_turn.proofs.Turns.{joins_turn}
use Rattle.vx_turn.proofs.turn.Turn.join.Goals as goal

pub join_seat-requires : goal.join_seat-requires
join_seat-requires g c = (
  search rules,
  search rules,
  search rules,
  search rules,
  joins_turn g.T.Logged.stands g.T.Logged.seat _ c.into.inside.seat.me.0 _ _ (search rules) (search rules) (search rules) (search rules),
)
