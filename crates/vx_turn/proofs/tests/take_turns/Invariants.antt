use Rattle.std.proofs.Common.{◌≡◌, false}
use Rattle.vx_turn.proofs.tests.take_turns.Given as goal

abbrev pub invariant-loop : goal.invariant-loop
invariant-loop g l = (l.seat.turn ≡ l.initial.seat.turn) × (l.seat.knows.holds ≡ false) × (l.seat.knows.number ≡ l.initial.seat.knows.number)
