use Rattle.std.proofs.Common.{◌≤◌, length}
use Rattle.vx_io.proofs.Sent.{HasSent}
use Rattle.vx_io.proofs.sink.write_all.Given as goal

abbrev pub invariant-loop-rest : goal.invariant-loop-rest
invariant-loop-rest g l = record {
  sent : HasSent (g.K.Sink.taken l.initial.sink) (g.K.Sink.taken l.sink) l.fn.bytes l.rest;
  counted : g.K.Sink.faults l.initial.sink ≤ g.K.Sink.faults l.sink;
}

abbrev pub decreases-loop-rest : goal.decreases-loop-rest
decreases-loop-rest g l = length l.rest
