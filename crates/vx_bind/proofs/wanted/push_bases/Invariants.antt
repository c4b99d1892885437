use Rattle.std.proofs.Common.{◌≡◌, ◌++◌, drop}
use Rattle.std.specs.Option.{option_copied}
use Rattle.vx_answers.specs.SendRows.{bases_at, specialisers_of}
use Rattle.vx_bind.proofs.wanted.push_bases.Given as goal

abbrev pub invariant-loop-head : goal.invariant-loop-head
invariant-loop-head l =
    l.names ++ bases_at l.abouts l.place (specialisers_of (drop l.head-index l.heads) (option_copied l.below)) ≡
    l.fn.names ++ bases_at l.abouts l.place (specialisers_of l.heads (option_copied l.below))
