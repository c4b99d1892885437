use Rattle.std.proofs.Common.{sym}
use Rattle.vx_lookup.proofs.Pairs.{held_unlike}
use Rattle.vx_lookup.proofs.method.are_held.Goals as goal

pub returns-then-arguments-specialisers : goal.returns-then-arguments-specialisers
returns-then-arguments-specialisers c =
    sym (held_unlike c.args.program.now c.args.heap.now c.args.arguments.now c.args.specialisers.now c.if-arguments-specialisers.true)
