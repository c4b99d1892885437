use Rattle.std.proofs.Common.{◌≡◌, List, Option, drop}
use Rattle.vx_names.specs.declared.key.FieldKey.{FieldKey}
use Rattle.vx_syntax.specs.Expressions.{Bytes}
use Rattle.vx_node.specs.Asking.{Asking, each}
use Rattle.vx_node.specs.Askers.{Goes}
use Rattle.vx_answers.specs.FieldRows.{Slot}
use Rattle.vx_fields.specs.Questions.{with_above}
use Rattle.vx_walks.proofs.Looping.{left_of}
use Rattle.vx_fields.proofs.telling.above_each.Given as goal

-- The questioning has come to what is left, behind what was told.
abbrev pub invariant-loop-key : goal.invariant-loop-key
invariant-loop-key g l =
    (l.t.asker.ghost_name ≡ l.fn.t.asker.ghost_name)
    × g.A.Asker.ready l.t.asker.now
    × ((go : List (FieldKey × List Bytes) → Asking (Option FieldKey)) → Goes g.A.Asker.manner (each with_above l.keys go)
    (left_of with_above go (drop l.key-index l.keys) l.all)
    l.fn.t.asker.now l.fn.t.trace l.t.asker.now l.t.trace)
