use Rattle.std.proofs.Common.{◌≡◌, ◌++◌, drop}
use Rattle.vx_answers.specs.SendRows.{of_name, ups_of}
use Rattle.vx_bind.proofs.order.Order.up.Given as goal

abbrev pub invariant-loop-one : goal.invariant-loop-one
invariant-loop-one l = of_name l.x (ups_of l.self.abouts ++ l.self.ups) ≡ of_name l.x (ups_of (drop l.one-index l.self.abouts) ++ l.self.ups)
