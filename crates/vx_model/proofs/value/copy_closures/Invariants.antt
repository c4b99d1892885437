use Rattle.std.proofs.Common.{◌≡◌, take}
use Rattle.vx_model.proofs.value.copy_closures.Given as goal

abbrev pub invariant-loop-held : goal.invariant-loop-held
invariant-loop-held l = l.copies ≡ take l.held-index l.closures
