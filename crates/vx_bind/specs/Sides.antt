-- Which names are asked for beside a name.
use Rattle.vx_syntax.specs.Expressions.{Bytes}
use Rattle.vx_node.specs.declared.node.Filter.{Filter}
use Rattle.vx_node.specs.declared.node.Filter.TheVariants as filters
use Rattle.vx_bind.specs.declared.telling.Side.{Side}
use Rattle.vx_bind.specs.declared.telling.Side.TheVariants as sides

abbrev pub filter_of : Side → Bytes → Filter
filter_of sides.Above = filters.Up
filter_of sides.Below = filters.Cone
