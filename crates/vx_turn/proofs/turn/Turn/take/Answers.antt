use Rattle.std.proofs.Common.{refl, le_refl}
use Rattle.vx_turn.proofs.turn.Turn.take.Goals as goal

pub loop-init : goal.loop-init
loop-init g c = (
  refl,
  (
    c.args.seat.now.knows.failed_exchanges,
    c.args.seat.now.knows.holder_found,
    le_refl c.args.seat.now.knows.failed_exchanges,
    refl,
  ),
)
