use Rattle.std.proofs.Common.{◌≡◌, ◌≤◌, ◌<◌, sym, length, Some, arith}
use Rattle.std.specs.Prelude.{slice_get}
use Rattle.vx_format.specs.declared.image.Instr.TheVariants as instrs
use Rattle.vx_places.specs.ImageMachine.{arity_of}
use Rattle.vx_machine.specs.Sending.{sent_of}
use Rattle.vx_machine.proofs.Sending.{acts_as, arity_there, resend_beyond, resend_is, resend_lacks, resend_missing}
use Rattle.vx_machine.proofs.machine.Machine.resend.Goals as goal

pub returns-in_default-clause-does : goal.returns-in_default-clause-does
returns-in_default-clause-does c = λ all covers.
    resend_missing c.args.ready.now all c.args.t c.args.row c.args.self.now (sym c.in_default.ensures.table)

pub returns-then-operands-table-clause-does : goal.returns-then-operands-table-clause-does
returns-then-operands-table-clause-does c = λ all covers.
    resend_lacks c.args.ready.now all c.args.t c.args.row c.in-Some.table.now c.args.self.now (sym c.in-Some.ensures.table)
    (rw (← c.self.view_is) (omega arith))

pub returns-then-row-len-clause-does : goal.returns-then-row-len-clause-does
returns-then-row-len-clause-does c = λ all covers.
    let enough : c.in-Some.table.now.arity ≤ length c.args.self.now.stacked.running.operands = rw (← c.self.view_is) (omega arith) in
    let away : length c.in-Some.table.now.rows ≤ c.args.row = omega arith in
    resend_beyond c.args.ready.now all c.args.t c.args.row c.in-Some.table.now c.args.self.now (sym c.in-Some.ensures.table) away enough

pub returns-clause-does : goal.returns-clause-does
returns-clause-does c =
    let at : slice_get c.args.ready.now.tables c.args.t ≡ Some c.in-Some.table.now = sym c.in-Some.ensures.table in
    let enough : c.in-Some.table.now.arity ≤ length c.args.self.now.stacked.running.operands = rw (← c.self.view_is) (omega arith) in
    let there : c.args.row < length c.in-Some.table.now.rows = omega arith in
    acts_as c.args.ready.now (instrs.Resend c.args.t c.args.row) (sent_of c.args.ready.now c.in-Some.table.now (Some c.args.row) c.args.self.now)
    c.in-Some.table.now.arity (arity_of c.args.ready.now c.args.t) c.find.result c.args.self.now c.find.new.self
    (arity_there c.args.ready.now c.args.t c.in-Some.table.now at) enough
    (λ all. resend_is c.args.ready.now all c.args.t c.args.row c.in-Some.table.now c.args.self.now at there enough) c.find.ensures.does
