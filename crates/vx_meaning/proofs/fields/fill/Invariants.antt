use Rattle.std.proofs.Common.{◌≡◌, drop}
use Rattle.vx_model.specs.Meaning.{filled}
use Rattle.vx_meaning.proofs.fields.fill.Given as goal

abbrev pub invariant-loop-i : goal.invariant-loop-i
invariant-loop-i l = filled (drop l.i l.keys) (drop l.i l.values) l.slots ≡ filled l.keys l.values l.fn.slots
