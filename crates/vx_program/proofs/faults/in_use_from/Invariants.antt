use Rattle.std.proofs.Common.{◌≡◌, drop}
use Rattle.vx_program.specs.Apply.{in_use_from}
use Rattle.vx_program.proofs.faults.in_use_from.Given as goal

abbrev pub invariant-loop-decl : goal.invariant-loop-decl
invariant-loop-decl l = in_use_from l.decls l.x ≡ in_use_from (drop l.decl-index l.decls) l.x
