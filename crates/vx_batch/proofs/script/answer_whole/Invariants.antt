use Rattle.std.proofs.Common.{◌+◌, ◌≤◌, List, length}
use Rattle.vx_program.specs.declared.edit.Edit.{Edit}
use Rattle.vx_batch.specs.Steps.{IsAfter, HasReplied}
use Rattle.vx_batch.proofs.script.answer_whole.Given as goal

abbrev pub invariant-loop-block : goal.invariant-loop-block
invariant-loop-block g l =
    ((edits : List Edit) → IsAfter l.initial.session.program l.initial.session.accepted edits → (last : List Edit) × IsAfter l.session.program l.session.accepted last × HasReplied edits last l.initial.blocks l.blocks (g.K.Sink.taken l.initial.sink) (g.K.Sink.taken l.sink))
    × (l.session.accepted + length l.blocks ≤ l.initial.session.accepted + length l.initial.blocks)
    × (g.K.Sink.faults l.initial.sink ≤ g.K.Sink.faults l.sink)

abbrev pub decreases-loop-block : goal.decreases-loop-block
decreases-loop-block g l = length l.blocks
