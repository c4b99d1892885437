use Rattle.std.proofs.Common.{◌≡◌, drop, Some}
use Rattle.vx_places.specs.Dispatch.{clone_for}
use Rattle.vx_machine.proofs.sends.clone_for.Given as goal

abbrev pub invariant-loop-pair : goal.invariant-loop-pair
invariant-loop-pair l = clone_for l.code (Some l.own) (drop l.pair-index l.pairs) ≡ clone_for l.code (Some l.own) l.pairs
