use Rattle.std.proofs.Common.{sym, ◌≡◌, Some}
use Rattle.std.specs.Prelude.{slice_get}
use Rattle.vx_machine.proofs.Deeds.{evaluates_top, evaluates_other}
use Rattle.vx_machine.proofs.machine.Machine.evaluate_top.Goals as goal

pub returns-in-Some-closure_of-clause-does : goal.returns-in-Some-closure_of-clause-does
returns-in-Some-closure_of-clause-does c =
    let at : slice_get c.args.self.now.stacked.running.operands c.args.count ≡ Some c.in-Some.word = rw (← c.self.view_is) (sym c.in-Some.ensures) in
    evaluates_top c.args.ready.now c.in-Some-closure_of.closure c.args.count c.evaluate.result c.args.self.now c.evaluate.new.self c.in-Some.word at
    (sym c.in-Some-closure_of.ensures) c.evaluate.ensures.does

pub returns-in-None-clause-does : goal.returns-in-None-clause-does
returns-in-None-clause-does c = λ all covers.
    let at : slice_get c.args.self.now.stacked.running.operands c.args.count ≡ Some c.in-Some.word = rw (← c.self.view_is) (sym c.in-Some.ensures) in
    evaluates_other c.args.ready.now all c.args.count c.args.self.now c.in-Some.word at (sym c.in-None.ensures)
