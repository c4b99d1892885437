use Rattle.std.proofs.Common.{◌∙◌}
use Rattle.vx_lists.proofs.Each.{all_pushed}
use Rattle.vx_machine.specs.Sound.{IsWordSound}
use Rattle.vx_machine.proofs.Makes.{opens_one}
use Rattle.vx_machine.proofs.making.opened.Goals as goal

pub loop-slot-preserved : goal.loop-slot-preserved
loop-slot-preserved c = (
  (λ texts.
      rw c.in_ok-push.ensures.ok
      (opens_one c.args.own.now texts c.loop-slot.slots c.loop-slot.slot-index c.args.shape.now c.slot-item.result c.start.result c.loop-slot-test.true
      c.slot-item.is (c.start.ensures.means texts) ∙ c.loop-slot.invariant.0 texts)),
  (λ texts.
      rw c.in_ok-push.ensures.ok
      (all_pushed (λ slot. IsWordSound texts slot.1) c.loop-slot.slots (c.slot-item.result.field, c.start.result) (c.loop-slot.invariant.1 texts)
      (c.start.ensures.sound texts))),
)
