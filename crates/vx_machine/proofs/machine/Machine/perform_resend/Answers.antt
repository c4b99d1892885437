use Rattle.vx_machine.proofs.machine.Machine.perform_resend.Goals as goal

pub returns-in-Perform-clause-later : goal.returns-in-Perform-clause-later
returns-in-Perform-clause-later c = λ all covers. c.resend.ensures.later all (c.perform_top.ensures.later all covers)
