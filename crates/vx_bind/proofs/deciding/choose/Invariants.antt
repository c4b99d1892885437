use Rattle.std.proofs.Common.{◌≡◌, drop, map}
use Rattle.std.specs.List.{find}
use Rattle.vx_compilation.specs.Binding.{is_bound_to}
use Rattle.vx_bind.specs.Orders.{order_told}
use Rattle.vx_bind.proofs.deciding.choose.Given as goal

abbrev pub invariant-loop-head : goal.invariant-loop-head
invariant-loop-head l =
    find (is_bound_to (order_told l.order) l.infos (map (λ head. head.now) l.heads)) (map (λ head. head.now) l.heads) ≡
    find (is_bound_to (order_told l.order) l.infos (map (λ head. head.now) l.heads)) (map (λ head. head.now) (drop l.head-index l.heads))
