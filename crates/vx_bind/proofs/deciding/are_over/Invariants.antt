use Rattle.std.proofs.Common.{◌≡◌, drop}
use Rattle.vx_compilation.specs.Binding.{are_over}
use Rattle.vx_bind.specs.Orders.{order_told}
use Rattle.vx_bind.proofs.deciding.are_over.Given as goal

abbrev pub invariant-loop-i : goal.invariant-loop-i
invariant-loop-i l = are_over (order_told l.order) l.xs l.ys ≡ are_over (order_told l.order) (drop l.i l.xs) (drop l.i l.ys)
