use Rattle.std.proofs.Common.{◌≡◌, ◌-◌}
use Rattle.vx_node.specs.Askers.{Goes}
use Rattle.vx_answers.specs.OrderRows.{chain, base_row, most_names}
use Rattle.vx_order.proofs.bases.base.Given as goal

-- The chain has come to the current name, with as many steps left as may still be taken.
abbrev pub invariant-loop : goal.invariant-loop
invariant-loop g l =
    (l.t.asker.ghost_name ≡ l.fn.t.asker.ghost_name)
    × g.A.Asker.ready l.t.asker.now
    × Goes g.A.Asker.manner (base_row l.x) (chain (most_names - l.counter) l.met l.current)
    l.fn.t.asker.now l.fn.t.trace l.t.asker.now l.t.trace
