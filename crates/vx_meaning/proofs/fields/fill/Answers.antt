-- Each key has got its value, as far as there are both.
use Rattle.std.proofs.Common.{◌∙◌, sym, arith}
use Rattle.vx_meaning.proofs.Slots.{fill_past}
use Rattle.vx_meaning.proofs.fields.fill.Goals as goal

pub returns : goal.returns
returns c =
    sym (fill_past c.args.keys.now c.args.values.now c.loop-i.i c.loop-i.slots (omega (arith, c.min-count.ensures, c.loop-i-test.false))) ∙ c.loop-i.invariant
