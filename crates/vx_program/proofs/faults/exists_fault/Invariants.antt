use Rattle.std.proofs.Common.{◌≡◌, drop}
use Rattle.vx_program.specs.Apply.{exists_fault}
use Rattle.vx_program.proofs.faults.exists_fault.Given as goal

abbrev pub invariant-loop-key : goal.invariant-loop-key
invariant-loop-key l = exists_fault l.decls l.keys ≡ exists_fault l.decls (drop l.key-index l.keys)
