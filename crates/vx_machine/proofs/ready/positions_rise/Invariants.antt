use Rattle.std.proofs.Common.{◌≡◌, drop}
use Rattle.std.specs.List.{list_all}
use Rattle.vx_machine.specs.Opening.{rising}
use Rattle.vx_machine.proofs.ready.positions_rise.Given as goal

abbrev pub invariant-loop-position : goal.invariant-loop-position
invariant-loop-position l =
    list_all (λ position. rising 0 position.classes) (drop l.position-index l.positions) ≡ list_all (λ position. rising 0 position.classes) l.positions
