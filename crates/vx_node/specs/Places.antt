-- Where a node stands among steps, or would stand.
use Rattle.std.specs.Prelude.{◌≡◌, ◌<◌, ◌≤◌, ℕ, zero, suc, false, List, [], ◌∷◌, length, Some, slice_get}
use Rattle.std.specs.Ordering.{is_lt}
use Rattle.std.specs.declared.cmp.Ordering.TheVariants.{Less}
use Rattle.vx_node.specs.declared.node.NodeId.{NodeId}
use Rattle.vx_node.specs.declared.trace.Step.{Step}
use Rattle.vx_node.specs.Nodes.{node_cmp}

-- the node goes before the first step, if there is one
abbrev pub GoesFirst : NodeId → List Step → Type 0
GoesFirst node [] = Unit {0}
GoesFirst node (step ∷ steps) = node_cmp node step.node ≡ Less

-- so many steps go before the node, and it goes before the others
abbrev pub BelongsAt : NodeId → ℕ → List Step → Type 0
BelongsAt node zero steps = GoesFirst node steps
BelongsAt node (suc place) [] = ⊥
BelongsAt node (suc place) (step ∷ steps) = (node_cmp step.node node ≡ Less) × BelongsAt node place steps

-- So many steps go before the node, and no other does.
pub record GoBefore (node : NodeId) (place : ℕ) (steps : List Step) : Type 0 where
  pub within : place ≤ length steps
  pub front : (at : ℕ) (step : Step) → at < place → slice_get steps at ≡ Some step → node_cmp step.node node ≡ Less
  pub behind : (at : ℕ) (step : Step) → place ≤ at → slice_get steps at ≡ Some step → is_lt (node_cmp step.node node) ≡ false
