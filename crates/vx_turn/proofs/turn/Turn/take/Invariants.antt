use Rattle.std.proofs.Common.{◌≡◌, ℕ, ◌≤◌}
use Rattle.vx_turn.proofs.turn.Turn.take.Given as goal

abbrev pub invariant-loop : goal.invariant-loop
invariant-loop g l = (l.seat.turn ≡ l.initial.seat.turn)
    × ((failed : ℕ) × (holder : ℕ) × (l.initial.seat.knows.failed_exchanges ≤ failed)
    × (l.seat.knows ≡ record l.initial.seat.knows { failed_exchanges = failed; holder_found = holder }))
