use Rattle.std.proofs.Common.{[], ◌∷◌}
use Rattle.vx_machine.proofs.Closing.{extends_more}
use Rattle.vx_machine.proofs.machine.Machine.print.Goals as goal

pub returns-in_err-push-in-Some-2-2-clause-later : goal.returns-in_err-push-in-Some-2-2-clause-later
returns-in_err-push-in-Some-2-2-clause-later c = λ all covers. rw (← c.self.view_is) (
  covers.0,
  covers.1,
  extends_more c.self.inside.lines.items c.push.new.self.items all.lines (c.in-Some-2.line ∷ [], c.in_ok-push-in-Some-2.ensures.items) covers.2,
)

pub returns-in_ok-push-in-Some-2-2-clause-later : goal.returns-in_ok-push-in-Some-2-2-clause-later
returns-in_ok-push-in-Some-2-2-clause-later c = λ all covers. rw (← c.self.view_is) (
  covers.0,
  covers.1,
  extends_more c.self.inside.lines.items c.push.new.self.items all.lines (c.in-Some-2.line ∷ [], c.in_ok-push-in-Some-2.ensures.items) covers.2,
)
