use Rattle.std.proofs.Common.{◌≡◌, List, drop}
use Rattle.vx_node.specs.declared.answer.Bound.{Bound}
use Rattle.vx_node.specs.Asking.{Asking, each}
use Rattle.vx_node.specs.Askers.{Goes}
use Rattle.vx_answers.specs.SendRows.{About, about}
use Rattle.vx_walks.proofs.Looping.{left_of}
use Rattle.vx_bind.proofs.telling.abouts.Given as goal

-- The questioning has come to what is left of the names, behind what was told.
abbrev pub invariant-loop-x : goal.invariant-loop-x
invariant-loop-x g l =
    (l.t.asker.ghost_name ≡ l.fn.t.asker.ghost_name)
    × g.A.Asker.ready l.t.asker.now
    × ((go : List About → Asking Bound) → Goes g.A.Asker.manner (each about l.names go) (left_of about go (drop l.x-index l.names) l.abouts)
    l.fn.t.asker.now l.fn.t.trace l.t.asker.now l.t.trace)
