use Rattle.std.proofs.Common.{◌≡◌, take}
use Rattle.vx_model.proofs.value.copy_things.Given as goal

abbrev pub invariant-loop-thing : goal.invariant-loop-thing
invariant-loop-thing l = l.copies ≡ take l.thing-index l.things
