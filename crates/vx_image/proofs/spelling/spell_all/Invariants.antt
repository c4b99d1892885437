use Rattle.std.proofs.Common.{◌≡◌, ◌++◌, drop}
use Rattle.vx_format.specs.Numbers.{each}
use Rattle.vx_image.proofs.spelling.spell_all.Given as goal

abbrev pub invariant-loop-item : goal.invariant-loop-item
invariant-loop-item g l = l.out.items ++ each (g.T.Spell.spelling l.version) (drop l.item-index l.items) ≡ l.fn.out.items ++ each
    (g.T.Spell.spelling l.version) l.items
