use Rattle.std.proofs.Common.{◌≡◌, ◌≤◌, ◌<◌, ◌+◌, ◌++◌, ◌∙◌, drop, length, Some, None, get_or, ap, sym, subst, arith}
use Rattle.std.proofs.lemmas.Option.{slice_get_within}
use Rattle.vx_answers.specs.declared.limits.TheConstants.{MOST_NAMES}
use Rattle.vx_answers.specs.OrderRows.{fresh}
use Rattle.vx_answers.proofs.Most.{most_is}
use Rattle.vx_walks.specs.Ways.{way_of}
use Rattle.vx_walks.proofs.Stepping.{goes_at, stops_at, to_nothing, meets, meets_too_many}
use Rattle.vx_walks.proofs.going.step.Goals as goal

pub returns-in-Err-clause-leaves : goal.returns-in-Err-clause-leaves
returns-in-Err-clause-leaves g c steps =
    let copied : c.in_ok-x.x ≡ c.index-as_slice-place.result = c.in_ok-x.ensures in
    let now : c.as_slice.result.now ≡ c.args.met.now = c.as_slice.ensures in
    let at : c.index-as_slice-place.result ≡ get_or c.as_slice.result.now c.args.place c.index-as_slice-place.result = c.index-as_slice-place.is in
    let is : c.in_ok-x.x ≡ get_or c.args.met.now c.args.place c.in_ok-x.x = cc in
    stops_at _ steps _ c.args.place c.in_ok-x.x _ c.requires.within is c.in-Err.ensures.learns

pub answer-requires : goal.answer-requires
answer-requires g c = slice_get_within _ _ c.in-Ok.ensures.learns.0 c.in-Ok.ensures.learns.1

pub returns-then-len-gt-MOST_NAMES-clause-leaves : goal.returns-then-len-gt-MOST_NAMES-clause-leaves
returns-then-len-gt-MOST_NAMES-clause-leaves g c steps =
    let copied : c.in_ok-x.x ≡ c.index-as_slice-place.result = c.in_ok-x.ensures in
    let now : c.as_slice.result.now ≡ c.args.met.now = c.as_slice.ensures in
    let at : c.index-as_slice-place.result ≡ get_or c.as_slice.result.now c.args.place c.index-as_slice-place.result = c.index-as_slice-place.is in
    let is : c.in_ok-x.x ≡ get_or c.args.met.now c.args.place c.in_ok-x.x = cc in
    let learned = c.in-Ok.ensures.learns in
    let e : c.answer.result.now ≡ learned.0.value = c.answer.ensures learned.0 learned.1 in
    let onward : c.in_ok-names.field-0 ≡ (way_of c.args.way).onward c.answer.result.now = c.in_ok-names.ensures in
    let some : (way_of c.args.way).onward learned.0.value ≡ Some c.in-Some.names = ap (way_of c.args.way).onward (sym e) ∙ sym onward ∙ c.in-Some.is in
    let met : c.meet.new.met ≡ c.args.met.now ++ fresh c.args.met.now c.in-Some.names =
    c.in_ok-meet-in-Some.ensures ∙ ap (λ ns. c.args.met.now ++ fresh c.args.met.now ns) c.as_slice-in-Some.ensures in
    let size : c.len.result ≡ length c.meet.new.met = c.len.ensures in
    let many : MOST_NAMES < length c.meet.new.met = omega arith in
    meets_too_many _ steps _ c.args.place c.in_ok-x.x _ learned.0.value c.in-Some.names _ _ c.requires.within is learned.2 some met many
    c.in_ok-node_of-in-Some.ensures.node

pub returns-in_ok-put_name-in-Some-clause-leaves : goal.returns-in_ok-put_name-in-Some-clause-leaves
returns-in_ok-put_name-in-Some-clause-leaves g c steps =
    let copied : c.in_ok-x.x ≡ c.index-as_slice-place.result = c.in_ok-x.ensures in
    let now : c.as_slice.result.now ≡ c.args.met.now = c.as_slice.ensures in
    let at : c.index-as_slice-place.result ≡ get_or c.as_slice.result.now c.args.place c.index-as_slice-place.result = c.index-as_slice-place.is in
    let is : c.in_ok-x.x ≡ get_or c.args.met.now c.args.place c.in_ok-x.x = cc in
    let learned = c.in-Ok.ensures.learns in
    let e : c.answer.result.now ≡ learned.0.value = c.answer.ensures learned.0 learned.1 in
    let onward : c.in_ok-names.field-0 ≡ (way_of c.args.way).onward c.answer.result.now = c.in_ok-names.ensures in
    let some : (way_of c.args.way).onward learned.0.value ≡ Some c.in-Some.names = ap (way_of c.args.way).onward (sym e) ∙ sym onward ∙ c.in-Some.is in
    let met : c.meet.new.met ≡ c.args.met.now ++ fresh c.args.met.now c.in-Some.names =
    c.in_ok-meet-in-Some.ensures ∙ ap (λ ns. c.args.met.now ++ fresh c.args.met.now ns) c.as_slice-in-Some.ensures in
    let size : c.len.result ≡ length c.meet.new.met = c.len.ensures in
    let few : length c.meet.new.met ≤ MOST_NAMES = omega arith in
    meets _ steps _ c.args.place c.in_ok-x.x _ learned.0.value c.in-Some.names _ _ c.requires.within is learned.2 some met few
    c.in_ok-put_name-in-Some.ensures

pub returns-in_ok-put_name-in-Some-clause-count : goal.returns-in_ok-put_name-in-Some-clause-count
returns-in_ok-put_name-in-Some-clause-count g c within =
    let size : c.len.result ≡ length c.meet.new.met = c.len.ensures in
    subst (λ m. length c.meet.new.met ≤ m) (sym most_is) (omega arith)

pub returns-in-None-clause-leaves : goal.returns-in-None-clause-leaves
returns-in-None-clause-leaves g c steps =
    let copied : c.in_ok-x.x ≡ c.index-as_slice-place.result = c.in_ok-x.ensures in
    let now : c.as_slice.result.now ≡ c.args.met.now = c.as_slice.ensures in
    let at : c.index-as_slice-place.result ≡ get_or c.as_slice.result.now c.args.place c.index-as_slice-place.result = c.index-as_slice-place.is in
    let is : c.in_ok-x.x ≡ get_or c.args.met.now c.args.place c.in_ok-x.x = cc in
    let learned = c.in-Ok.ensures.learns in
    let e : c.answer.result.now ≡ learned.0.value = c.answer.ensures learned.0 learned.1 in
    let onward : c.in_ok-names.field-0 ≡ (way_of c.args.way).onward c.answer.result.now = c.in_ok-names.ensures in
    let none : (way_of c.args.way).onward learned.0.value ≡ None = ap (way_of c.args.way).onward (sym e) ∙ sym onward ∙ c.in-None.is in
    goes_at _ steps _ c.args.place c.in_ok-x.x _ learned.0.value _ c.requires.within is learned.2
    (to_nothing (way_of c.args.way) steps c.args.met.now c.in_ok-x.x (drop (c.args.place + 1) c.args.met.now) c.args.found.now.items learned.0.value none)
