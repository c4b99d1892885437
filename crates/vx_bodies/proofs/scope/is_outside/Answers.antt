use Rattle.std.proofs.Common.{arith}
use Rattle.vx_bodies.proofs.Scopes.{outer_at}
use Rattle.vx_bodies.proofs.scope.is_outside.Goals as goal

pub returns-then-has : goal.returns-then-has
returns-then-has c =
    let e = outer_at c.args.variable c.loop-i.i c.args.levels.now c.args.x.now c.at.result.now c.at.ensures in
    let f = c.loop-i.invariant in
    grind arith

pub loop-i-preserved : goal.loop-i-preserved
loop-i-preserved c =
    let e = outer_at c.args.variable c.loop-i.i c.args.levels.now c.args.x.now c.at.result.now c.at.ensures in
    let f = c.loop-i.invariant in
    grind arith
