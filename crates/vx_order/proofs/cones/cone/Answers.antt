use Rattle.std.proofs.Common.{◌≡◌, ◌∙◌, ap, sym, true, false}
use Rattle.std.proofs.lemmas.Option.{slice_get_within}
use Rattle.vx_answers.specs.OrderRows.{is_plain}
use Rattle.vx_walks.proofs.Stepping.{is_there_plain, is_not_plain, cone_stops, then_follows}
use Rattle.vx_order.proofs.cones.cone.Goals as goal

pub returns-in-Err-clause-follows : goal.returns-in-Err-clause-follows
returns-in-Err-clause-follows g c = cone_stops c.args.x.now c.in-Err.ensures.learns

pub answer-requires : goal.answer-requires
answer-requires g c = slice_get_within _ _ c.in-Ok.ensures.learns.0 c.in-Ok.ensures.learns.1

pub returns-then-is_plain-clause-follows : goal.returns-then-is_plain-clause-follows
returns-then-is_plain-clause-follows g c =
    let learned = c.in-Ok.ensures.learns in
    let e : c.answer.result.now ≡ learned.0.value = c.answer.ensures learned.0 learned.1 in
    let plain : is_plain learned.0.value ≡ true = ap is_plain (sym e) ∙ sym c.is_plain.ensures ∙ c.if-is_plain.true in
    then_follows _ _ c.walk.result (is_there_plain c.args.x.now learned.0.value learned.2 plain) c.walk.ensures.follows

pub returns-else-is_plain-clause-follows : goal.returns-else-is_plain-clause-follows
returns-else-is_plain-clause-follows g c =
    let learned = c.in-Ok.ensures.learns in
    let e : c.answer.result.now ≡ learned.0.value = c.answer.ensures learned.0 learned.1 in
    let plain : is_plain learned.0.value ≡ false = ap is_plain (sym e) ∙ sym c.is_plain.ensures ∙ c.if-is_plain.false in
    is_not_plain c.args.x.now learned.0.value c.new.result learned.2 plain c.new.ensures
