use Rattle.std.proofs.Common.{◌≡◌, ◌≤◌, ◌<◌, ◌+◌, ◌-◌, ◌∙◌, length, get_or, refl, subst, sym, arith, []}
use Rattle.vx_node.specs.Askers.{Goes}
use Rattle.vx_node.proofs.Leaving.{idle, goes_on, stops}
use Rattle.vx_answers.specs.declared.limits.TheConstants.{MOST_NAMES}
use Rattle.vx_answers.specs.OrderRows.{most_names}
use Rattle.vx_answers.specs.FieldRows.{spread}
use Rattle.vx_answers.proofs.Most.{most_is}
use Rattle.vx_fields.specs.Questions.{gathered}
use Rattle.vx_fields.proofs.Onward.{at_step, no_step, all_spread}
use Rattle.vx_fields.proofs.spreading.spread_lists.Goals as goal

pub loop-place-init : goal.loop-place-init
loop-place-init g c =
    let all : most_names ≡ most_names - 0 = omega arith in (
      refl,
      c.requires.ready,
      subst (λ lists. Goes g.A.Asker.manner (spread most_names c.args.names c.args.names [])
          (spread (most_names - 0) c.args.names c.args.names (gathered lists))
          c.args.t.now.asker.now c.args.t.now.trace c.args.t.now.asker.now c.args.t.now.trace) (sym c.requires.none)
          (subst (λ n. Goes g.A.Asker.manner (spread most_names c.args.names c.args.names []) (spread n c.args.names c.args.names [])
          c.args.t.now.asker.now c.args.t.now.trace c.args.t.now.asker.now c.args.t.now.trace) all (idle _ _ _ _)),
      omega arith,
      omega arith,
    )

pub returns-then-place-ge-MOST_NAMES-clause-leaves : goal.returns-then-place-ge-MOST_NAMES-clause-leaves
returns-then-place-ge-MOST_NAMES-clause-leaves g c =
    let size : c.len.result ≡ length c.loop-place.met = c.len.ensures in
    let within : c.loop-place.place < length c.loop-place.met = omega (arith, size, c.loop-place-test.true) in
    let now : c.as_slice.result.now ≡ c.loop-place.met = c.as_slice.ensures in
    let at : c.index-as_slice-place.result ≡ get_or c.as_slice.result.now c.loop-place.place c.index-as_slice-place.result = c.index-as_slice-place.is in
    let is : c.index-as_slice-place.result ≡ get_or c.loop-place.met c.loop-place.place c.index-as_slice-place.result = cc in
    no_step c.loop-place.met c.loop-place.place c.index-as_slice-place.result (gathered c.loop-place.lists) c.in_ok-children_node.field-0 within is
    c.if-place-ge-MOST_NAMES.true c.loop-place.invariant.3 c.in_ok-children_node.ensures c.loop-place.invariant.2

pub returns-in-Err-clause-leaves : goal.returns-in-Err-clause-leaves
returns-in-Err-clause-leaves g c =
    stops (at_step c.loop-place.met c.loop-place.place (gathered c.loop-place.lists) c.if-place-ge-MOST_NAMES.false c.loop-place.invariant.2)
    (c.in-Err.ensures.leaves (most_names - (c.loop-place.place + 1)))

pub loop-place-preserved : goal.loop-place-preserved
loop-place-preserved g c =
    let few : c.loop-place.place < MOST_NAMES = c.if-place-ge-MOST_NAMES.false in
    let size : c.len.result ≡ length c.loop-place.met = c.len.ensures in
    let within : c.loop-place.place < length c.loop-place.met = omega (arith, size, c.loop-place-test.true) in
    let longer : length c.loop-place.met ≤ length c.step.new.met = c.in-Ok.ensures.longer in (
      c.step.ensures.same ∙ c.loop-place.invariant.0,
      c.step.ensures.ready,
      goes_on (at_step c.loop-place.met c.loop-place.place (gathered c.loop-place.lists) few c.loop-place.invariant.2)
          (c.in-Ok.ensures.leaves (most_names - (c.loop-place.place + 1))),
      omega (arith, most_is, few),
      omega arith,
    )

pub loop-place-smaller : goal.loop-place-smaller
loop-place-smaller g c =
    let few : c.loop-place.place < MOST_NAMES = c.if-place-ge-MOST_NAMES.false in
    omega (arith, most_is, few)

pub returns-clause-leaves : goal.returns-clause-leaves
returns-clause-leaves g c =
    let size : c.len.result ≡ length c.loop-place.met = c.len.ensures in
    let past : length c.loop-place.met ≤ c.loop-place.place = omega (arith, size, c.loop-place-test.false) in
    all_spread (most_names - c.loop-place.place) c.loop-place.met c.loop-place.place (gathered c.loop-place.lists) past c.loop-place.invariant.2
