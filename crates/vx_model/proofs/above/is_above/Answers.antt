use Rattle.std.proofs.Common.{sym, ◌∙◌}
use Rattle.vx_model.proofs.Orders.{itself}
use Rattle.vx_model.proofs.above.is_above.Goals as goal

pub returns-then-eq : goal.returns-then-eq
returns-then-eq c =
    sym (itself c.args.program.now (record { finds = c.chains_are_found.ensures.found; are = c.chains_are_found.ensures.are }) c.args.x.now c.args.y.now
    (sym c.eq.ensures ∙ c.if-eq.true))
