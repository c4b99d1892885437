use Rattle.std.proofs.Common.{◌≤◌, ◌-◌}
use Rattle.vx_batch.specs.declared.pieces.TheConstants.{INPUT_BYTES}
use Rattle.vx_batch.proofs.Reading.{Halfway}
use Rattle.vx_batch.proofs.pieces.answer_pieces.Given as goal

abbrev pub invariant-loop-count : goal.invariant-loop-count
invariant-loop-count g l =
    Halfway (g.S.Source.left l.initial.source) (g.S.Source.left l.source) l.taken l.session.program l.session.accepted l.blocks (g.K.Sink.taken l.initial.sink) (g.K.Sink.taken l.sink)
    × (g.S.Source.faults l.initial.source ≤ g.S.Source.faults l.source)
    × (g.K.Sink.faults l.initial.sink ≤ g.K.Sink.faults l.sink)

abbrev pub decreases-loop-count : goal.decreases-loop-count
decreases-loop-count g l = INPUT_BYTES - l.taken
