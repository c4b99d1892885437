use Rattle.std.proofs.Common.{◌≡◌, ◌++◌, drop}
use Rattle.std.specs.Option.{option_copied}
use Rattle.vx_answers.specs.SendRows.{specialisers_asked, specialisers_of}
use Rattle.vx_bind.proofs.Rows.{still_asked}
use Rattle.vx_bind.proofs.wanted.specialisers_asked.Given as goal

abbrev pub invariant-loop-head : goal.invariant-loop-head
invariant-loop-head l =
    l.met ++ still_asked l.met (specialisers_of (drop l.head-index l.heads) (option_copied l.below)) ≡
    specialisers_asked (specialisers_of l.heads (option_copied l.below))
