use Rattle.std.proofs.Common.{sym, ◌≡◌, Some}
use Rattle.std.specs.Prelude.{slice_get}
use Rattle.vx_machine.proofs.Deeds.{repeats_top, repeats_other}
use Rattle.vx_machine.proofs.machine.Machine.repeat_top.Goals as goal

pub returns-in-Some-closure_of-clause-does : goal.returns-in-Some-closure_of-clause-does
returns-in-Some-closure_of-clause-does c =
    let at : slice_get c.args.self.now.stacked.running.operands 0 ≡ Some c.in-Some.word = rw (← c.self.view_is) (sym c.in-Some.ensures) in
    repeats_top c.args.ready.now c.in-Some-closure_of.closure c.repeat.result c.args.self.now c.repeat.new.self c.in-Some.word at
    (sym c.in-Some-closure_of.ensures) c.repeat.ensures.does

pub returns-in-None-clause-does : goal.returns-in-None-clause-does
returns-in-None-clause-does c = λ all covers.
    let at : slice_get c.args.self.now.stacked.running.operands 0 ≡ Some c.in-Some.word = rw (← c.self.view_is) (sym c.in-Some.ensures) in
    repeats_other c.args.ready.now all c.args.self.now c.in-Some.word at (sym c.in-None.ensures)
