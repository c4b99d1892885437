use Rattle.std.proofs.Common.{rules}
use Rattle.vx_turn.proofs.Turns.{splits_turn}
use Rattle.vx_turn.proofs.turn.Turn.split.Goals as goal

pub split_seat-other-requires : goal.split_seat-other-requires
split_seat-other-requires g c = (
  search rules,
  search rules,
  splits_turn g.T.Logged.stands g.T.Logged.seat _ c.seat.inside.seat.me.0 (search rules) (search rules) (search rules),
)
