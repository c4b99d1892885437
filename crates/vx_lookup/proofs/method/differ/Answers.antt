use Rattle.std.proofs.Common.{◌≤◌, length, min, sym, subst, ◌∙◌}
use Rattle.vx_lookup.proofs.Pairs.{nothing_left}
use Rattle.vx_lookup.proofs.method.differ.Goals as goal

pub returns : goal.returns
returns c =
    let end : min (length c.args.xs.now) (length c.args.ys.now) ≤ c.loop-i.i = subst (λ n. n ≤ c.loop-i.i) c.min-count.ensures c.loop-i-test.false in
    sym (c.loop-i.invariant ∙ nothing_left c.args.xs.now c.args.ys.now c.loop-i.i end)
