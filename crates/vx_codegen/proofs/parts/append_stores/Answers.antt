use Rattle.std.proofs.Common.{arith}
use Rattle.vx_codegen.proofs.Emitting.{stored}
use Rattle.vx_codegen.proofs.parts.append_stores.Goals as goal

pub loop-left-preserved : goal.loop-left-preserved
loop-left-preserved c =
    let some = c.loop-left-test.true in
    let within = c.loop-left.invariant.0 in (
      omega arith,
      stored c.args.locals.now c.loop-left.left c.args.unit.now c.loop-left.unit c.append_local.new.unit some within c.loop-left.invariant.1
          c.in_ok-append_local.ensures,
    )
