use Rattle.std.proofs.Common.{◌≡◌, drop}
use Rattle.vx_program.specs.Apply.{holder}
use Rattle.vx_program.proofs.faults.first_holder.Given as goal

abbrev pub invariant-loop-decl : goal.invariant-loop-decl
invariant-loop-decl l = holder l.decls l.key ≡ holder (drop l.decl-index l.decls) l.key
