use Rattle.std.proofs.Common.{◌≡◌, ◌≤◌, ◌-◌, length, drop}
use Rattle.vx_node.specs.Askers.{Goes}
use Rattle.vx_answers.specs.OrderRows.{walk, walk_from, most_names}
use Rattle.vx_walks.specs.Ways.{way_of}
use Rattle.vx_walks.proofs.going.walk.Given as goal

-- The walk has come to what is left of it: the names from the place on, and as many steps as may still be taken.
abbrev pub invariant-loop-place : goal.invariant-loop-place
invariant-loop-place g l =
    (l.t.asker.ghost_name ≡ l.fn.t.asker.ghost_name)
    × g.A.Asker.ready l.t.asker.now
    × Goes g.A.Asker.manner (walk_from (way_of l.way) l.x) (walk (way_of l.way) (most_names - l.place) l.met (drop l.place l.met) l.found.items)
    l.fn.t.asker.now l.fn.t.trace l.t.asker.now l.t.trace
    × (length l.met ≤ most_names)
    × (l.place ≤ length l.met)

abbrev pub decreases-loop-place : goal.decreases-loop-place
decreases-loop-place g l = most_names - l.place
