use Rattle.std.proofs.Common.{◌≡◌, ◌++◌, drop, filter, map}
use Rattle.std.specs.Option.{option_copied}
use Rattle.vx_compilation.specs.Binding.{is_candidate}
use Rattle.vx_bind.specs.Orders.{order_told}
use Rattle.vx_bind.proofs.deciding.candidates.Given as goal

abbrev pub invariant-loop-head : goal.invariant-loop-head
invariant-loop-head l =
    map (λ head. head.now) l.found.items ++ filter (is_candidate (order_told l.order) (option_copied l.below)) (drop l.head-index l.heads) ≡
    filter (is_candidate (order_told l.order) (option_copied l.below)) l.heads
