use Rattle.std.proofs.Common.{◌↔◌, drop}
use Rattle.std.specs.List.{AllByRecursion}
use Rattle.vx_program.specs.Apply.{IsChangeWritten}
use Rattle.vx_program.proofs.writability.writable.Given as goal

abbrev pub invariant-loop-change : goal.invariant-loop-change
invariant-loop-change l = AllByRecursion IsChangeWritten l.changes ↔ AllByRecursion IsChangeWritten (drop l.change-index l.changes)
