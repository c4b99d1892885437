use Rattle.std.proofs.Common.{◌≡◌, drop}
use Rattle.vx_program.specs.Apply.{wrong_kind_fault}
use Rattle.vx_program.proofs.faults.wrong_kind_fault.Given as goal

abbrev pub invariant-loop-name : goal.invariant-loop-name
invariant-loop-name l = wrong_kind_fault l.decls l.decl l.names ≡ wrong_kind_fault l.decls l.decl (drop l.name-index l.names)
