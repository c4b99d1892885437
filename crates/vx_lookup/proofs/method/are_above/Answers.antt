use Rattle.std.proofs.Common.{sym}
use Rattle.vx_lookup.proofs.Pairs.{above_unlike}
use Rattle.vx_lookup.proofs.method.are_above.Goals as goal

pub returns-then-xs-ys : goal.returns-then-xs-ys
returns-then-xs-ys c = sym (above_unlike c.args.program.now c.args.xs.now c.args.ys.now c.if-xs-ys.true)
