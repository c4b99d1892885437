use Rattle.std.proofs.Common.{◌≡◌, ◌+◌, ◌-◌, ◌^◌, ◌≤◌, drop}
use Rattle.std.specs.Prelude.{min}
use Rattle.vx_units.specs.Signs.{size}
use Rattle.vx_codegen.specs.Ungrouped.{ungrouped}
use Rattle.vx_codegen.proofs.unit.stretches_size.Given as goal

abbrev pub invariant-loop-stretch : goal.invariant-loop-stretch
invariant-loop-stretch l =
    (l.total ≤ 2 ^ 64 - 1) × (min (l.total + size (ungrouped (drop l.stretch-index l.stretches))) (2 ^ 64 - 1) ≡ min (size (ungrouped l.stretches))
    (2 ^ 64 - 1))
