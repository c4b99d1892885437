use Rattle.std.proofs.Common.{rules}
use Rattle.vx_compute.proofs.Coming.{finds}
use Rattle.vx_compute.proofs.plain.over.Goals as goal

pub returns-clause-finds : goal.returns-clause-finds
returns-clause-finds g c = finds _ _ c.answer-answered.result _ _ _ _ _ _ c.new-t.ensures.now c.new-t.ensures.trace (search rules)
    c.answer-answered.ensures.follows
