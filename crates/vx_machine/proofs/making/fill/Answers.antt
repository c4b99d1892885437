use Rattle.std.proofs.Common.{◌≡◌, ◌∙◌, get_or, Some, None, sym}
use Rattle.vx_machine.specs.Slots.{place_from}
use Rattle.vx_machine.proofs.Makes.{Turn, has_not, turn_filled, turn_has, turn_sound, turn_within}
use Rattle.vx_machine.proofs.making.fill.Goals as goal

pub returns-in-None-clause-has : goal.returns-in-None-clause-has
returns-in-None-clause-has c =
    let none : place_from (get_or c.args.fields.now c.loop-i.i 0) 0 c.loop-i.slots ≡ None = rw c.as_slice.ensures at (sym c.in-None.ensures) in
    sym (sym c.loop-i.invariant.0 ∙ has_not c.args.fields.now c.loop-i.slots c.loop-i.i c.loop-i-test.true none)

pub set-requires : goal.set-requires
set-requires c =
    let at : place_from (get_or c.args.fields.now c.loop-i.i 0) 0 c.loop-i.slots ≡ Some c.in-Some.found = rw c.as_slice.ensures at (sym c.in-Some.ensures) in
    turn_within c.args.fields.now c.args.words.now c.loop-i.slots c.loop-i.i c.in-Some.found
    (record { within = c.loop-i-test.true; as_many = c.requires; place = at })

pub loop-i-preserved : goal.loop-i-preserved
loop-i-preserved c =
    let at : place_from (get_or c.args.fields.now c.loop-i.i 0) 0 c.loop-i.slots ≡ Some c.in-Some.found = rw c.as_slice.ensures at (sym c.in-Some.ensures) in
    let turn : Turn c.args.fields.now c.args.words.now c.loop-i.slots c.loop-i.i c.in-Some.found =
    record { within = c.loop-i-test.true; as_many = c.requires; place = at } in
    rw c.set.ensures (
      turn_has c.args.fields.now c.args.words.now c.loop-i.slots c.loop-i.i c.in-Some.found turn ∙ c.loop-i.invariant.0,
      turn_filled c.args.fields.now c.args.words.now c.loop-i.slots c.loop-i.i c.in-Some.found turn ∙ c.loop-i.invariant.1,
      λ texts words old. turn_sound texts c.args.fields.now c.args.words.now c.loop-i.slots c.loop-i.i c.in-Some.found turn words
          (c.loop-i.invariant.2 texts words old),
    )
