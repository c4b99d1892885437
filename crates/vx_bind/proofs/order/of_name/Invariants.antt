use Rattle.std.proofs.Common.{◌≡◌, drop}
use Rattle.vx_answers.specs.SendRows.{of_name}
use Rattle.vx_bind.proofs.order.of_name.Given as goal

abbrev pub invariant-loop-one : goal.invariant-loop-one
invariant-loop-one l = of_name l.x l.beside ≡ of_name l.x (drop l.one-index l.beside)
