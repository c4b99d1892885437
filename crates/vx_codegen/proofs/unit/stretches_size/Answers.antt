use Rattle.std.proofs.Common.{arith}
use Rattle.vx_codegen.proofs.Grouping.{size_left, none_left}
use Rattle.vx_codegen.proofs.unit.stretches_size.Goals as goal

pub loop-stretch-preserved : goal.loop-stretch-preserved
loop-stretch-preserved c =
    let all = c.loop-stretch.invariant.1 in
    let one = size_left c.args.stretches.now c.loop-stretch.stretch-index c.stretch-item.result c.loop-stretch-test.true c.stretch-item.is in
    let first = c.saturating_add.ensures in
    let long = c.len.ensures in
    let second = c.saturating_add-total.ensures in
    (omega arith, omega arith)

pub returns : goal.returns
returns c =
    let small = c.loop-stretch.invariant.0 in
    let all = c.loop-stretch.invariant.1 in
    let none = none_left c.args.stretches.now c.loop-stretch.stretch-index c.loop-stretch-test.false in
    omega arith
