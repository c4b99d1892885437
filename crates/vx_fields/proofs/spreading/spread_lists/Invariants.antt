use Rattle.std.proofs.Common.{◌≡◌, ◌≤◌, ◌-◌, [], drop, length}
use Rattle.vx_node.specs.Askers.{Goes}
use Rattle.vx_answers.specs.OrderRows.{most_names}
use Rattle.vx_answers.specs.FieldRows.{spread}
use Rattle.vx_fields.specs.Questions.{gathered}
use Rattle.vx_fields.proofs.spreading.spread_lists.Given as goal

-- It has come to what is left: the names from the place on, and as many steps as may still be taken.
abbrev pub invariant-loop-place : goal.invariant-loop-place
invariant-loop-place g l =
    (l.t.asker.ghost_name ≡ l.fn.t.asker.ghost_name)
    × g.A.Asker.ready l.t.asker.now
    × Goes g.A.Asker.manner (spread most_names l.fn.names l.fn.names []) (spread (most_names - l.place) l.met (drop l.place l.met) (gathered l.lists))
    l.fn.t.asker.now l.fn.t.trace l.t.asker.now l.t.trace
    × (l.place ≤ most_names)
    × (l.place ≤ length l.met)

abbrev pub decreases-loop-place : goal.decreases-loop-place
decreases-loop-place g l = most_names - l.place
