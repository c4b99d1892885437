use Rattle.std.proofs.Common.{◌≡◌, drop}
use Rattle.vx_answers.specs.SendRows.{base_of}
use Rattle.vx_bind.proofs.order.base_of.Given as goal

abbrev pub invariant-loop-one : goal.invariant-loop-one
invariant-loop-one l = base_of l.x l.abouts ≡ base_of l.x (drop l.one-index l.abouts)
