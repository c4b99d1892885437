-- Which nodes there are: their order, their ranks, and which of them can be asked.
use Rattle.std.specs.Prelude.{◌≡◌, ℕ, Bool, length, Option, Some, None}
use Rattle.std.specs.Ordering.{is_eq}
use Rattle.std.specs.declared.cmp.Ordering.{Ordering}
use Rattle.vx_names.specs.declared.key.Selector.{Selector}
use Rattle.vx_names.specs.declared.key.MethodKey.{MethodKey}
use Rattle.vx_node.specs.declared.node.NodeId.{NodeId}
use Rattle.vx_node.specs.declared.node.NodeId.TheVariants as n
use Rattle.vx_node.specs.declared.node.Filter.TheVariants as f
use Rattle.vx_node.specs.contracts.node.NodeIdOrd.TheImpl.{cmp-value}

-- by kind, in the order in which the kinds are declared, and then by parts
abbrev pub node_cmp : NodeId → NodeId → Ordering
node_cmp = cmp-value.it

abbrev pub same_node : NodeId → NodeId → Bool
same_node a b = is_eq (node_cmp a b)

-- A node is found out of nodes of lower ranks. Facts are found out of the program alone.
abbrev pub rank : NodeId → ℕ
rank (n.Fact fact) = 0
rank (n.Filter (f.Up x)) = 1
rank (n.Filter (f.Cone x)) = 1
rank (n.Filter (f.Base x)) = 1
rank (n.Filter (f.Slots x)) = 1
rank (n.Filter (f.Field x name)) = 1
rank (n.Filter (f.Inline key)) = 1
rank (n.Filter (f.Bind selector infos below)) = 2
rank (n.Filter (f.Clones key)) = 3
rank (n.Target target) = 4

-- the method below which a message is bound has the message's selector, and a specialiser for each argument
abbrev pub IsBelowWellFormed : Selector → Option MethodKey → Type 0
IsBelowWellFormed selector None = Unit {0}
IsBelowWellFormed selector (Some key) = (key.selector ≡ selector) × (length key.specialisers ≡ selector.arity)

-- a binding has an info for each argument
abbrev pub IsWellFormed : NodeId → Type 0
IsWellFormed (n.Filter (f.Bind selector infos below)) = (length infos ≡ selector.arity) × IsBelowWellFormed selector below
IsWellFormed node = Unit {0}
