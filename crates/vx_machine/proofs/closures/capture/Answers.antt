use Rattle.std.proofs.Common.{sym, ◌∙◌}
use Rattle.vx_machine.proofs.Capturing.{captured_none, captured_on}
use Rattle.vx_machine.proofs.closures.capture.Goals as goal

pub loop-x-preserved : goal.loop-x-preserved
loop-x-preserved c =
    let next = captured_on c.args.xs.now c.args.activations.now.running.locals c.args.captured.now.items c.loop-x.captured.items c.push.new.self.items
    c.loop-x.x-index c.in-Some.held
    (record { added = c.loop-x.invariant.added; left = c.loop-x.invariant.left; sound = c.loop-x.invariant.sound })
    c.loop-x-test.true c.in_ok-push.ensures.items c.in-Some.ensures (sym c.is_unset.ensures ∙ c.if-is_unset.false) in
    record { added = next.added; left = next.left; sound = next.sound }

pub returns-then-is_unset-clause-captures : goal.returns-then-is_unset-clause-captures
returns-then-is_unset-clause-captures c =
    captured_none c.args.xs.now c.args.activations.now.running.locals c.args.captured.now.items c.loop-x.captured.items c.loop-x.x-index c.in-Some.held
    (record { added = c.loop-x.invariant.added; left = c.loop-x.invariant.left; sound = c.loop-x.invariant.sound })
    c.loop-x-test.true c.in-Some.ensures (sym c.is_unset.ensures ∙ c.if-is_unset.true)

pub returns-in_err-push-clause-sound : goal.returns-in_err-push-clause-sound
returns-in_err-push-clause-sound c = λ texts own was. rw c.in_err-push.ensures.items (c.loop-x.invariant.sound texts own was)
