use Rattle.std.proofs.Common.{◌≡◌, ◌∙◌, get_or, map, refl}
use Rattle.vx_lists.proofs.Each.{all_pushed}
use Rattle.vx_places.specs.ImageMachine.{fresh}
use Rattle.vx_machine.specs.Making.{slot_value}
use Rattle.vx_machine.specs.Sound.{IsObjectSound}
use Rattle.vx_machine.proofs.Beginning.{places_one}
use Rattle.vx_machine.proofs.opening.objects.Goals as goal

pub loop-i-preserved : goal.loop-i-preserved
loop-i-preserved c = (
  (λ texts.
      let slots : map (slot_value texts) c.in_ok-slots.slots ≡ fresh c.args.own.now (get_or c.args.shapes.now c.loop-i.i c.index-shapes-i.result) =
      rw (c.as_slice.ensures, c.index-shapes-i.is) at (c.in_ok-slots.ensures.means texts) in
      rw c.in_ok-push.ensures.items
      (places_one c.args.own.now texts c.loop-i.objects.items c.loop-i.i c.args.shapes.now (record { class = c.loop-i.i; slots = c.in_ok-slots.slots })
      c.index-shapes-i.result c.loop-i-test.true refl slots ∙ c.loop-i.invariant.0 texts)),
  (λ texts.
      rw c.in_ok-push.ensures.items
      (all_pushed (IsObjectSound texts) c.loop-i.objects.items (record { class = c.loop-i.i; slots = c.in_ok-slots.slots }) (c.loop-i.invariant.1 texts)
      (c.in_ok-slots.ensures.sound texts))),
)
