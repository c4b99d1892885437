use Rattle.std.proofs.Common.{◌≡◌, ℕ, ◌-◌, ◌<◌, ◌≤◌, length, false, Some}
use Rattle.std.specs.List.{slice_get}
use Rattle.std.specs.Ordering.{is_lt}
use Rattle.std.specs.declared.cmp.Ordering.TheVariants.{Less}
use Rattle.vx_node.specs.declared.trace.Step.{Step}
use Rattle.vx_node.specs.Nodes.{node_cmp}
use Rattle.vx_node.proofs.trace.steps_before.Given as goal

abbrev pub invariant-loop-low : goal.invariant-loop-low
invariant-loop-low l = record {
  within : (l.low ≤ l.high) × (l.high ≤ length l.steps);
  before : (at : ℕ) (step : Step) → at < l.low → slice_get l.steps at ≡ Some step → node_cmp step.node l.node ≡ Less;
  behind : (at : ℕ) (step : Step) → l.high ≤ at → slice_get l.steps at ≡ Some step → is_lt (node_cmp step.node l.node) ≡ false;
}

abbrev pub decreases-loop-low : goal.decreases-loop-low
decreases-loop-low l = l.high - l.low
