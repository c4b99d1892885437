use Rattle.std.proofs.Common.{drop}
use Rattle.vx_program.specs.Apply.{apply}
use Rattle.vx_program.proofs.Keeps.{IsUnderWay}
use Rattle.vx_program.proofs.program.Program.edited.Given as goal

abbrev pub invariant-loop-one : goal.invariant-loop-one
invariant-loop-one l = IsUnderWay (apply l.self l.edit.changes) l.decls.items (drop l.one-index l.one-items)
