use Rattle.std.proofs.Common.{◌≡◌, drop}
use Rattle.vx_program.specs.Apply.{unknown_fault}
use Rattle.vx_program.proofs.faults.unknown_fault.Given as goal

abbrev pub invariant-loop-name : goal.invariant-loop-name
invariant-loop-name l = unknown_fault l.decls l.names ≡ unknown_fault l.decls (drop l.name-index l.names)
