use Rattle.std.proofs.Common.{sym}
use Rattle.vx_format.specs.declared.image.Instr.TheVariants as instrs
use Rattle.vx_machine.proofs.Leaving.{follows, left_method, left_evaluation, left_turn}
use Rattle.vx_machine.proofs.Views.{kept_of}
use Rattle.vx_machine.proofs.machine.Machine.leave.Goals as goal

pub returns-in-Turn-clause-does : goal.returns-in-Turn-clause-does
returns-in-Turn-clause-does c = rw (← c.self.view_is)
    (follows c.args.ready.now instrs.Ret c.turn.result (kept_of c.self.inside) c.turn.new.self _
    (λ all. left_turn c.args.ready.now all (kept_of c.self.inside) c.pop.new.self c.in-Some.word c.in-Turn.held c.in-Some.ensures
    (sym c.in-Turn.ensures)) c.turn.ensures.does)

pub returns-in-Turn-clause-later : goal.returns-in-Turn-clause-later
returns-in-Turn-clause-later c = λ all covers. rw (← c.self.view_is) (c.turn.ensures.later all covers)

pub returns-in-Method-clause-does : goal.returns-in-Method-clause-does
returns-in-Method-clause-does c = rw (← c.self.view_is)
    (follows c.args.ready.now instrs.Ret c.deliver.result (kept_of c.self.inside) c.deliver.new.self _
    (λ all. left_method c.args.ready.now all (kept_of c.self.inside) c.pop.new.self c.in-Some.word c.in-Method.field-0 c.in-Some.ensures
    (sym c.in-Method.ensures))
    (c.deliver.ensures.does c.args.ready.now))

pub returns-in-Method-clause-later : goal.returns-in-Method-clause-later
returns-in-Method-clause-later c = λ all covers. rw (← c.self.view_is) (c.deliver.ensures.later all covers)

pub returns-in-Evaluation-clause-does : goal.returns-in-Evaluation-clause-does
returns-in-Evaluation-clause-does c = rw (← c.self.view_is)
    (follows c.args.ready.now instrs.Ret c.deliver-in-Evaluation.result (kept_of c.self.inside) c.deliver-in-Evaluation.new.self _
    (λ all. left_evaluation c.args.ready.now all (kept_of c.self.inside) c.pop.new.self c.in-Some.word c.in-Evaluation.field-0 c.in-Some.ensures
    (sym c.in-Evaluation.ensures))
    (c.deliver-in-Evaluation.ensures.does c.args.ready.now))

pub returns-in-Evaluation-clause-later : goal.returns-in-Evaluation-clause-later
returns-in-Evaluation-clause-later c = λ all covers. rw (← c.self.view_is) (c.deliver-in-Evaluation.ensures.later all covers)
