use Rattle.std.proofs.Common.{◌≡◌, ◌≤◌, List, drop, length}
use Rattle.vx_syntax.specs.Expressions.{Bytes}
use Rattle.vx_node.specs.Asking.{Asking}
use Rattle.vx_node.specs.Askers.{Goes}
use Rattle.vx_answers.specs.FieldRows.{Slot, joining}
use Rattle.vx_fields.proofs.joining.join.Given as goal

abbrev pub invariant-loop-x : goal.invariant-loop-x
invariant-loop-x g l =
    (l.t.asker.ghost_name ≡ l.fn.t.asker.ghost_name)
    × g.A.Asker.ready l.t.asker.now
    × (length l.fn.met ≤ length l.met)
    × ((go : List Bytes → List Bytes → Asking (List Slot)) → Goes g.A.Asker.manner (joining l.fn.met (drop l.place l.fn.met) l.predicates go)
    (joining l.met (drop l.place l.met) (drop l.x-index l.predicates) go) l.fn.t.asker.now l.fn.t.trace l.t.asker.now l.t.trace)
