use Rattle.std.proofs.Common.{◌≡◌, ◌++◌, drop}
use Rattle.vx_codegen.specs.Ungrouped.{ungrouped}
use Rattle.vx_codegen.proofs.unit.Unit.append_stretches.Given as goal

abbrev pub invariant-loop-stretch : goal.invariant-loop-stretch
invariant-loop-stretch l = l.self ++ ungrouped (drop l.stretch-index l.stretches) ≡ l.initial.self ++ ungrouped l.stretches
