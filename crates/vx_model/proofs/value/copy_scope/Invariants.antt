use Rattle.std.proofs.Common.{◌≡◌, take}
use Rattle.vx_model.proofs.value.copy_scope.Given as goal

abbrev pub invariant-loop-bound : goal.invariant-loop-bound
invariant-loop-bound l = l.copies ≡ take l.bound-index l.scope
