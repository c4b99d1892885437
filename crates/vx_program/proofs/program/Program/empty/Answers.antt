use Rattle.std.proofs.Common.{sym, subst}
use Rattle.vx_program.specs.Program.{IsProgram}
use Rattle.vx_program.proofs.Starts.{starts}
use Rattle.vx_program.proofs.program.Program.empty.Goals as goal

pub invariant_of-result : goal.invariant_of-result
invariant_of-result c = subst IsProgram (sym c.in_ok-decls.ensures) starts
