use Rattle.std.proofs.Common.{◌≡◌, drop}
use Rattle.std.specs.List.{find}
use Rattle.vx_program.specs.Program.{occupies}
use Rattle.vx_program.proofs.program.Program.maker.Given as goal

abbrev pub invariant-loop-decl : goal.invariant-loop-decl
invariant-loop-decl l = find (λ decl. occupies decl l.key) l.decl-items ≡ find (λ decl. occupies decl l.key) (drop l.decl-index l.decl-items)
