use Rattle.std.proofs.Common.{◌≡◌, ◌||◌, not, drop, map}
use Rattle.std.specs.List.{list_all}
use Rattle.vx_model.specs.Lookup.{same_method}
use Rattle.vx_compilation.specs.Binding.{at_each, goes_before, is_bound_to, is_possible}
use Rattle.vx_bind.specs.Orders.{order_told}
use Rattle.vx_bind.proofs.deciding.is_bound_to.Given as goal

abbrev pub invariant-loop-other : goal.invariant-loop-other
invariant-loop-other l =
    is_bound_to (order_told l.order) l.infos (map (λ head. head.now) l.heads) l.head ≡
    list_all (λ other. not (at_each (is_possible (order_told l.order)) l.infos other.0.specialisers) || same_method l.head.0 other.0
    || goes_before (order_told l.order) l.head.0 other.0) (map (λ head. head.now) (drop l.other-index l.heads))
