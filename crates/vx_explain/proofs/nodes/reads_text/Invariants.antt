use Rattle.std.proofs.Common.{◌≡◌, ◌++◌, drop}
use Rattle.vx_node.specs.Traces.{nodes}
use Rattle.vx_explain.proofs.nodes.reads_text.Given as goal

abbrev pub invariant-loop-step : goal.invariant-loop-step
invariant-loop-step l = l.own ++ nodes (drop l.step-index l.steps) ≡ nodes l.steps
