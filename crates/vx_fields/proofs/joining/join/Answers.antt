use Rattle.std.proofs.Common.{◌≡◌, ◌≤◌, ◌∙◌, ◌+◌, length, drop, refl, arith}
use Rattle.vx_node.proofs.Leaving.{idle, goes_on, stops}
use Rattle.vx_fields.proofs.Onward.{at_predicate, none_joins}
use Rattle.vx_fields.proofs.joining.join.Goals as goal

pub loop-x-init : goal.loop-x-init
loop-x-init g c = (refl, c.requires.ready, omega arith, λ go. idle _ _ _ _)

pub returns-in-Err-clause-leaves : goal.returns-in-Err-clause-leaves
returns-in-Err-clause-leaves g c go =
    stops (at_predicate c.loop-x.met _ c.args.predicates.now c.loop-x.x-index c.x-item.result go c.loop-x-test.true c.x-item.is (c.loop-x.invariant.3 go))
    (c.in-Err.ensures.leaves (drop (c.loop-x.x-index + 1) c.args.predicates.now) go)

pub loop-x-preserved : goal.loop-x-preserved
loop-x-preserved g c =
    let before : length c.args.met.now ≤ length c.loop-x.met = c.loop-x.invariant.2 in
    let longer : length c.loop-x.met ≤ length c.join_one.new.met = c.in-Ok.ensures.longer in (
      c.join_one.ensures.same ∙ c.loop-x.invariant.0,
      c.join_one.ensures.ready,
      omega arith,
      λ go.
          goes_on (at_predicate c.loop-x.met _ c.args.predicates.now c.loop-x.x-index c.x-item.result go c.loop-x-test.true c.x-item.is
          (c.loop-x.invariant.3 go)) (c.in-Ok.ensures.leaves (drop (c.loop-x.x-index + 1) c.args.predicates.now) go),
    )

pub returns-clause-leaves : goal.returns-clause-leaves
returns-clause-leaves g c go = none_joins c.loop-x.met _ c.args.predicates.now c.loop-x.x-index go c.loop-x-test.false (c.loop-x.invariant.3 go)
