use Rattle.std.proofs.Common.{◌≡◌, ◌++◌, drop}
use Rattle.vx_answers.specs.OrderRows.{fresh}
use Rattle.vx_walks.proofs.names.meet.Given as goal

abbrev pub invariant-loop-name : goal.invariant-loop-name
invariant-loop-name l = l.met ++ fresh l.met (drop l.name-index l.names) ≡ l.initial.met ++ fresh l.initial.met l.names
