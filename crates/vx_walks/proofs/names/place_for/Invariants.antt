use Rattle.std.proofs.Common.{◌≡◌, ◌++◌, take, drop}
use Rattle.vx_answers.specs.OrderRows.{with_name}
use Rattle.vx_walks.proofs.names.place_for.Given as goal

abbrev pub invariant-loop-place : goal.invariant-loop-place
invariant-loop-place l = with_name l.x l.names ≡ take l.place l.names ++ with_name l.x (drop l.place l.names)
