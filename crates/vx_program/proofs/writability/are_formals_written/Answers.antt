use Rattle.std.proofs.Common.{arith}
use Rattle.vx_program.proofs.Steps.{decided_no, as_many}
use Rattle.vx_program.proofs.writability.are_formals_written.Goals as goal

pub returns-then-formals-specialisers-clause-decides :
    goal.returns-then-formals-specialisers-clause-decides
returns-then-formals-specialisers-clause-decides c =
    decided_no (λ h. let e = as_many c.args.formals.now c.args.specialisers.now c.args.scope.now h in omega arith)
