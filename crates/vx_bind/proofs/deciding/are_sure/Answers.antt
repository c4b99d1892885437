use Rattle.std.proofs.Common.{sym}
use Rattle.vx_compilation.specs.Binding.{is_sure}
use Rattle.vx_bind.specs.Orders.{order_told}
use Rattle.vx_bind.proofs.Sides.{each_unlike}
use Rattle.vx_bind.proofs.deciding.are_sure.Goals as goal

pub returns-then-infos-xs : goal.returns-then-infos-xs
returns-then-infos-xs c = sym (each_unlike (is_sure (order_told c.args.order.now)) c.args.infos.now c.args.xs.now c.if-infos-xs.true)
