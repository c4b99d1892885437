-- The order of names by what was told of them.
use Rattle.vx_compilation.specs.Binding as binding
use Rattle.vx_answers.specs.SendRows.{order_of}
use Rattle.vx_bind.specs.declared.order.Order.{Order}

abbrev pub order_told : Order → binding.Order
order_told order = order_of order.abouts order.ups order.cones
