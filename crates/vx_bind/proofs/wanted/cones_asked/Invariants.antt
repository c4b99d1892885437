use Rattle.std.proofs.Common.{◌≡◌, ◌++◌, drop}
use Rattle.std.specs.Option.{option_copied}
use Rattle.vx_answers.specs.SendRows.{cones_asked, specialisers_of}
use Rattle.vx_bind.proofs.wanted.cones_asked.Given as goal

abbrev pub invariant-loop-place : goal.invariant-loop-place
invariant-loop-place l =
    l.names ++ cones_asked l.abouts (specialisers_of l.heads (option_copied l.below)) l.place (drop l.place l.infos) ≡
    cones_asked l.abouts (specialisers_of l.heads (option_copied l.below)) 0 l.infos
