use Rattle.std.proofs.Common.{◌≡◌, ◌<◌, ◌||◌, not, Bool, true, length, get_or, sym, ◌∙◌, subst}
use Rattle.vx_lists.proofs.Rests.{fails_here, goes_on}
use Rattle.vx_syntax.specs.declared.decl.Decl.{Decl}
use Rattle.vx_model.specs.Order.{is_above}
use Rattle.vx_model.specs.Holds.{lets_hold}
use Rattle.vx_model.proofs.Places.{marked, stands}
use Rattle.vx_lookup.proofs.Held.{in_the_way, not_above, lets_it}
use Rattle.vx_lookup.proofs.hold.holds_all.Goals as goal
use Rattle.vx_lookup.proofs.hold.holds_all.Goals.{else-has-via-then-has+else-not-lets_hold, else-has-via-else-has}

pub returns-then-not-lets_hold : goal.returns-then-not-lets_hold
returns-then-not-lets_hold c =
    let lets : (Decl → Bool) = lets_hold c.args.program.now c.args.heap.now c.args.value.now in
    let own = c.decl-item.result in
    let above : c.has.result ≡ is_above c.args.program.now c.args.object.now own =
    marked c.args.program.now c.args.object.now c.bytes.result.now c.new-above.result c.has.result c.loop-place.place own c.new-above.ensures c.bytes.ensures.bytes
    (stands c.args.program.now c.declarations-decl-items.result.now c.loop-place.place own c.declarations-decl-items.ensures.all c.loop-place-test.true c.decl-item.is)
    c.has.ensures in
    sym (c.loop-place.invariant ∙
    fails_here (λ decl. not (is_above c.args.program.now c.args.object.now decl) || lets decl) c.args.program.now c.loop-place.place own
    (subst (λ ds. c.loop-place.place < length ds) c.declarations-decl-items.ensures.all c.loop-place-test.true)
    (subst (λ ds. own ≡ get_or ds c.loop-place.place own) c.declarations-decl-items.ensures.all c.decl-item.is)
    (in_the_way (is_above c.args.program.now c.args.object.now own) (lets own) (sym above ∙ c.if-has.true) (sym c.lets_hold.ensures ∙ c.if-not-lets_hold.true)))

pub loop-place-preserved : goal.loop-place-preserved
loop-place-preserved c =
    let lets : (Decl → Bool) = lets_hold c.args.program.now c.args.heap.now c.args.value.now in
    let own = c.decl-item.result in
    let above : c.has.result ≡ is_above c.args.program.now c.args.object.now own =
    marked c.args.program.now c.args.object.now c.bytes.result.now c.new-above.result c.has.result c.loop-place.place own c.new-above.ensures c.bytes.ensures.bytes
    (stands c.args.program.now c.declarations-decl-items.result.now c.loop-place.place own c.declarations-decl-items.ensures.all c.loop-place-test.true c.decl-item.is)
    c.has.ensures in
    let passes : (not (is_above c.args.program.now c.args.object.now own) || lets own) ≡ true =
    elim c.else-has.branch [
      | else-has-via-then-has+else-not-lets_hold w ↦ lets_it (is_above c.args.program.now c.args.object.now own) (lets own) (sym w.lets_hold.ensures ∙ w.if-not-lets_hold.false)
      | else-has-via-else-has w ↦ not_above (is_above c.args.program.now c.args.object.now own) (lets own) (sym above ∙ w.if-has.false)
    ] in
    c.loop-place.invariant ∙
    goes_on (λ decl. not (is_above c.args.program.now c.args.object.now decl) || lets decl) c.args.program.now c.loop-place.place own
    (subst (λ ds. c.loop-place.place < length ds) c.declarations-decl-items.ensures.all c.loop-place-test.true)
    (subst (λ ds. own ≡ get_or ds c.loop-place.place own) c.declarations-decl-items.ensures.all c.decl-item.is) passes
