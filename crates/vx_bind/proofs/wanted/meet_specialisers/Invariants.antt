use Rattle.std.proofs.Common.{◌≡◌, ◌++◌, drop, filter}
use Rattle.vx_answers.specs.OrderRows.{fresh}
use Rattle.vx_bind.proofs.Rows.{is_asked}
use Rattle.vx_bind.proofs.wanted.meet_specialisers.Given as goal

abbrev pub invariant-loop-x : goal.invariant-loop-x
invariant-loop-x l = l.met ++ fresh l.met (filter is_asked (drop l.x-index l.xs)) ≡ l.initial.met ++ fresh l.initial.met (filter is_asked l.xs)
