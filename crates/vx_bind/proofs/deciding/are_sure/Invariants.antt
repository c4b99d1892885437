use Rattle.std.proofs.Common.{◌≡◌, drop}
use Rattle.vx_compilation.specs.Binding.{at_each, is_sure}
use Rattle.vx_bind.specs.Orders.{order_told}
use Rattle.vx_bind.proofs.deciding.are_sure.Given as goal

abbrev pub invariant-loop-i : goal.invariant-loop-i
invariant-loop-i l =
    at_each (is_sure (order_told l.order)) l.infos l.xs ≡ at_each (is_sure (order_told l.order)) (drop l.i l.infos) (drop l.i l.xs)
