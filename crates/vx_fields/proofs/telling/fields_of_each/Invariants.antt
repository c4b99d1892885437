use Rattle.std.proofs.Common.{◌≡◌, List, Option, drop}
use Rattle.vx_names.specs.declared.key.FieldKey.{FieldKey}
use Rattle.vx_syntax.specs.Expressions.{Bytes}
use Rattle.vx_node.specs.Asking.{Asking, each}
use Rattle.vx_node.specs.Askers.{Goes}
use Rattle.vx_answers.specs.FieldRows.{Slot}
use Rattle.vx_fields.specs.Questions.{fields_of}
use Rattle.vx_walks.proofs.Looping.{left_of}
use Rattle.vx_fields.proofs.telling.fields_of_each.Given as goal

-- The questioning has come to what is left, behind what was told.
abbrev pub invariant-loop-x : goal.invariant-loop-x
invariant-loop-x g l =
    (l.t.asker.ghost_name ≡ l.fn.t.asker.ghost_name)
    × g.A.Asker.ready l.t.asker.now
    × ((go : List (List Slot) → Asking (List Slot)) → Goes g.A.Asker.manner (each fields_of l.names go) (left_of fields_of go (drop l.x-index l.names) l.all)
    l.fn.t.asker.now l.fn.t.trace l.t.asker.now l.t.trace)
