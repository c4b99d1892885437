use Rattle.std.proofs.Common.{◌≡◌, ◌≤◌, ◌<◌, ◌+◌, ◌-◌, ◌∙◌, drop, length, ap, refl, subst, arith, [], ◌∷◌, ◌++◌}
use Rattle.vx_node.specs.Askers.{Goes}
use Rattle.vx_node.proofs.Leaving.{goes_on, stops}
use Rattle.vx_answers.specs.OrderRows.{walk, walk_from, most_names}
use Rattle.vx_answers.proofs.Most.{most_is}
use Rattle.vx_walks.specs.Ways.{way_of}
use Rattle.vx_walks.proofs.Stepping.{walk_begins, one_fewer}
use Rattle.vx_walks.proofs.going.walk.Goals as goal

pub loop-place-init : goal.loop-place-init
loop-place-init g c =
    let own : c.in_ok-copy.field-0 ≡ c.args.x.now = c.in_ok-copy.ensures in
    let single : c.push.new.self ≡ c.args.x.now ∷ [] = c.in_ok-push.ensures.ok ∙ ap (λ xs. xs ++ c.in_ok-copy.field-0 ∷ []) c.new-met.ensures ∙
    ap (λ y. y ∷ []) own in
    let size : length c.push.new.self ≡ 1 = ap length single in
    let few : length c.push.new.self ≤ most_names = omega (arith, size, most_is) in
    (refl, c.requires.ready, walk_begins _ _ _ _ _ c.push.new.self c.new-found.result.items single c.new-found.ensures.items, few, omega arith)

pub returns-in-Err-clause-follows : goal.returns-in-Err-clause-follows
returns-in-Err-clause-follows g c =
    let came = c.loop-place.invariant in
    let size : c.len.result ≡ length c.loop-place.met = c.len.ensures in
    let within : c.loop-place.place < length c.loop-place.met = omega (arith, size, c.loop-place-test.true) in
    let fewer = one_fewer c.loop-place.place (length c.loop-place.met) within came.3 in
    stops (subst (λ n. Goes g.A.Asker.manner (walk_from (way_of c.args.way) c.args.x.now)
    (walk (way_of c.args.way) n c.loop-place.met (drop c.loop-place.place c.loop-place.met) c.loop-place.found.items)
    c.args.t.now.asker.now c.args.t.now.trace c.loop-place.t.asker.now c.loop-place.t.trace) fewer came.2)
    (c.in-Err.ensures.leaves (most_names - (c.loop-place.place + 1)))

pub loop-place-preserved : goal.loop-place-preserved
loop-place-preserved g c =
    let came = c.loop-place.invariant in
    let size : c.len.result ≡ length c.loop-place.met = c.len.ensures in
    let within : c.loop-place.place < length c.loop-place.met = omega (arith, size, c.loop-place-test.true) in
    let fewer = one_fewer c.loop-place.place (length c.loop-place.met) within came.3 in
    let longer : length c.loop-place.met ≤ length c.step.new.met = c.in-Ok.ensures.longer in (
      c.step.ensures.same ∙ came.0,
      c.step.ensures.ready,
      goes_on (subst (λ n. Goes g.A.Asker.manner (walk_from (way_of c.args.way) c.args.x.now)
          (walk (way_of c.args.way) n c.loop-place.met (drop c.loop-place.place c.loop-place.met) c.loop-place.found.items)
          c.args.t.now.asker.now c.args.t.now.trace c.loop-place.t.asker.now c.loop-place.t.trace) fewer came.2)
          (c.in-Ok.ensures.leaves (most_names - (c.loop-place.place + 1))),
      c.in-Ok.ensures.count came.3,
      omega arith,
    )
