use Rattle.std.proofs.Common.{◌≡◌, ◌++◌, drop}
use Rattle.vx_program.specs.Methods.{methods}
use Rattle.vx_program.proofs.methods.methods.Given as goal

abbrev pub invariant-loop-decl : goal.invariant-loop-decl
invariant-loop-decl l = l.keys ++ methods (drop l.decl-index l.decls) l.selector ≡ methods l.decls l.selector
