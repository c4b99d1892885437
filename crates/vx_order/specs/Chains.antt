-- Where a chain of first parents goes on, and what is left of it.
use Rattle.std.specs.Prelude.{ℕ, List, Option, Some, None}
use Rattle.vx_syntax.specs.Expressions.{Bytes}
use Rattle.vx_node.specs.Asking.{Asking, gives}
use Rattle.vx_order.specs.declared.bases.Onward.{Onward}
use Rattle.vx_order.specs.declared.bases.Onward.TheVariants as o
use Rattle.vx_answers.specs.OrderRows as rows

-- where a chain of first parents goes on
abbrev pub chain_of : Onward → rows.Onward
chain_of o.Nowhere = rows.nowhere
chain_of o.Here = rows.here
chain_of (o.First x) = rows.first x

-- what is left of a chain, once the first parent is met
abbrev pub chained : ℕ → List Bytes → Bytes → Onward → Asking (Option Bytes)
chained steps met x o.Nowhere = gives None
chained steps met x o.Here = gives (Some x)
chained steps met x (o.First parent) = rows.chain steps met parent
