use Rattle.std.proofs.Common.{arith}
use Rattle.vx_io.proofs.Sent.{sent_more}
use Rattle.vx_io.proofs.sink.write_all.Goals as goal

pub loop-rest-preserved : goal.loop-rest-preserved
loop-rest-preserved g c = record {
  sent = sent_more _ _ _ _ _ _ c.loop-rest.invariant.sent c.in-Took.ensures.took.2;
  counted = omega (arith, c.loop-rest.invariant.counted, c.in-Took.ensures.counted);
}
