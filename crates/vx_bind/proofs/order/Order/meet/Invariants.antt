use Rattle.std.proofs.Common.{◌≡◌, drop}
use Rattle.std.specs.List.{list_any}
use Rattle.vx_program.specs.Program.{is_name_of}
use Rattle.vx_bind.specs.Orders.{order_told}
use Rattle.vx_bind.proofs.order.Order.meet.Given as goal

abbrev pub invariant-loop-own : goal.invariant-loop-own
invariant-loop-own l =
    list_any (is_name_of ((order_told l.self).cone l.x)) ((order_told l.self).cone l.y) ≡
    list_any (is_name_of ((order_told l.self).cone l.x)) (drop l.own-index ((order_told l.self).cone l.y))
