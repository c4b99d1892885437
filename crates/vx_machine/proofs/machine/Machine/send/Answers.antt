use Rattle.std.proofs.Common.{◌≡◌, ◌≤◌, sym, length, None, Some, arith}
use Rattle.std.specs.Prelude.{slice_get}
use Rattle.vx_format.specs.declared.image.Instr.TheVariants as instrs
use Rattle.vx_places.specs.ImageMachine.{arity_of}
use Rattle.vx_machine.specs.Sending.{sent_of}
use Rattle.vx_machine.proofs.Sending.{acts_as, arity_there, send_is, send_lacks, send_missing}
use Rattle.vx_machine.proofs.machine.Machine.send.Goals as goal

pub returns-in_default-clause-does : goal.returns-in_default-clause-does
returns-in_default-clause-does c = λ all covers. send_missing c.args.ready.now all c.args.t c.args.self.now (sym c.in_default.ensures.table)

pub returns-then-operands-table-clause-does : goal.returns-then-operands-table-clause-does
returns-then-operands-table-clause-does c = λ all covers.
    send_lacks c.args.ready.now all c.args.t c.in-Some.table.now c.args.self.now (sym c.in-Some.ensures.table) (rw (← c.self.view_is) (omega arith))

pub returns-clause-does : goal.returns-clause-does
returns-clause-does c =
    let at : slice_get c.args.ready.now.tables c.args.t ≡ Some c.in-Some.table.now = sym c.in-Some.ensures.table in
    let enough : c.in-Some.table.now.arity ≤ length c.args.self.now.stacked.running.operands = rw (← c.self.view_is) (omega arith) in
    acts_as c.args.ready.now (instrs.Send c.args.t) (sent_of c.args.ready.now c.in-Some.table.now None c.args.self.now) c.in-Some.table.now.arity
    (arity_of c.args.ready.now c.args.t) c.find.result c.args.self.now c.find.new.self (arity_there c.args.ready.now c.args.t c.in-Some.table.now at) enough
    (λ all. send_is c.args.ready.now all c.args.t c.in-Some.table.now c.args.self.now at enough) c.find.ensures.does
