use Rattle.std.proofs.Common.{◌≡◌, ◌∙◌, ◌≤◌, ◌+◌, ◌-◌, ◌++◌, ◌∷◌, [], ap, refl, subst, arith}
use Rattle.vx_node.specs.Askers.{Goes}
use Rattle.vx_node.proofs.Leaving.{goes_on, stops}
use Rattle.vx_answers.specs.declared.limits.TheConstants.{MOST_NAMES}
use Rattle.vx_answers.specs.OrderRows.{chain, base_row, most_names}
use Rattle.vx_order.specs.Chains.{chained}
use Rattle.vx_order.proofs.Chaining.{chain_begins, step_fewer, chain_ends}
use Rattle.vx_order.proofs.bases.base.Goals as goal

pub loop-init : goal.loop-init
loop-init g c =
    let own : c.in_ok-copy.field-0 ≡ c.args.x.now = c.in_ok-copy.ensures in
    let single : c.push.new.self ≡ c.args.x.now ∷ [] = c.in_ok-push.ensures.ok ∙ ap (λ xs. xs ++ c.in_ok-copy.field-0 ∷ []) c.new-met.ensures ∙
    ap (λ y. y ∷ []) own in
    (refl, c.requires.ready, chain_begins _ _ _ c.args.x.now c.in_ok-current.current c.push.new.self single c.in_ok-current.ensures)

pub returns-in-Err-clause-follows : goal.returns-in-Err-clause-follows
returns-in-Err-clause-follows g c =
    let came = c.loop.invariant in
    let fewer = step_fewer c.loop.counter c.loop-test.true in
    stops (subst (λ k. Goes g.A.Asker.manner (base_row c.args.x.now) (chain k c.loop.met c.loop.current)
    c.args.t.now.asker.now c.args.t.now.trace c.loop.t.asker.now c.loop.t.trace) fewer came.2)
    (c.in-Err.ensures.leaves (most_names - (c.loop.counter + 1)))

pub returns-in-Nowhere-clause-follows : goal.returns-in-Nowhere-clause-follows
returns-in-Nowhere-clause-follows g c =
    let came = c.loop.invariant in
    let fewer = step_fewer c.loop.counter c.loop-test.true in
    let goes = goes_on (subst (λ k. Goes g.A.Asker.manner (base_row c.args.x.now) (chain k c.loop.met c.loop.current)
    c.args.t.now.asker.now c.args.t.now.trace c.loop.t.asker.now c.loop.t.trace) fewer came.2)
    (c.in-Ok.ensures.leaves (most_names - (c.loop.counter + 1))) in
    let gone = subst (λ o. Goes g.A.Asker.manner (base_row c.args.x.now)
    (chained (most_names - (c.loop.counter + 1)) c.step.new.met c.loop.current o)
    c.args.t.now.asker.now c.args.t.now.trace c.step.new.t.asker.now c.step.new.t.trace) c.in-Nowhere.is goes in
    gone

pub returns-in-Here-clause-follows : goal.returns-in-Here-clause-follows
returns-in-Here-clause-follows g c =
    let came = c.loop.invariant in
    let fewer = step_fewer c.loop.counter c.loop-test.true in
    let goes = goes_on (subst (λ k. Goes g.A.Asker.manner (base_row c.args.x.now) (chain k c.loop.met c.loop.current)
    c.args.t.now.asker.now c.args.t.now.trace c.loop.t.asker.now c.loop.t.trace) fewer came.2)
    (c.in-Ok.ensures.leaves (most_names - (c.loop.counter + 1))) in
    let gone = subst (λ o. Goes g.A.Asker.manner (base_row c.args.x.now)
    (chained (most_names - (c.loop.counter + 1)) c.step.new.met c.loop.current o)
    c.args.t.now.asker.now c.args.t.now.trace c.step.new.t.asker.now c.step.new.t.trace) c.in-Here.is goes in
    gone

pub loop-preserved : goal.loop-preserved
loop-preserved g c =
    let came = c.loop.invariant in
    let fewer = step_fewer c.loop.counter c.loop-test.true in
    let goes = goes_on (subst (λ k. Goes g.A.Asker.manner (base_row c.args.x.now) (chain k c.loop.met c.loop.current)
    c.args.t.now.asker.now c.args.t.now.trace c.loop.t.asker.now c.loop.t.trace) fewer came.2)
    (c.in-Ok.ensures.leaves (most_names - (c.loop.counter + 1))) in
    let gone = subst (λ o. Goes g.A.Asker.manner (base_row c.args.x.now)
    (chained (most_names - (c.loop.counter + 1)) c.step.new.met c.loop.current o)
    c.args.t.now.asker.now c.args.t.now.trace c.step.new.t.asker.now c.step.new.t.trace) c.in-First.is goes in
    (c.in-Ok.ensures.same ∙ came.0, c.in-Ok.ensures.ready, gone)

pub returns-clause-follows : goal.returns-clause-follows
returns-clause-follows g c =
    let came = c.loop.invariant in
    let past : MOST_NAMES ≤ c.loop.counter = omega (arith, c.loop-test.false) in
    chain_ends c.args.x.now c.loop.current c.loop.counter c.loop.met c.in_ok-decl_node.field-0 past c.in_ok-decl_node.ensures came.2
