use Rattle.std.proofs.Common.{◌≡◌, ◌≤◌, drop}
use Rattle.vx_format.specs.Layout.{values_left}
use Rattle.vx_image.proofs.conditions.values_left.Given as goal

abbrev pub invariant-loop-step : goal.invariant-loop-step
invariant-loop-step l = record { left : values_left l.depth (drop l.step-index l.steps) ≡ values_left 0 l.steps; shallow : l.depth ≤ l.step-index }
