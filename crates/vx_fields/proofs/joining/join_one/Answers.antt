use Rattle.std.proofs.Common.{◌≡◌, ◌≤◌, ◌<◌, ◌∙◌, ◌++◌, ◌∷◌, [], Bool, true, false, ap, sym, length, arith}
use Rattle.std.specs.Prelude.{not, ◌&&◌}
use Rattle.std.proofs.lemmas.Option.{slice_get_within}
use Rattle.vx_program.specs.Program.{is_name_of}
use Rattle.vx_answers.specs.declared.limits.TheConstants.{MOST_NAMES}
use Rattle.vx_answers.specs.FieldRows.{may_hold}
use Rattle.vx_fields.proofs.Onward.{not_told, stays_out, is_met, is_too_many}
use Rattle.vx_fields.proofs.joining.join_one.Goals as goal

pub returns-in-Err-clause-leaves : goal.returns-in-Err-clause-leaves
returns-in-Err-clause-leaves g c xs go = not_told c.args.met.now _ c.args.x.now xs go c.in-Err.ensures.learns

pub answer-requires : goal.answer-requires
answer-requires g c = slice_get_within _ _ c.in-Ok.ensures.learns.0 c.in-Ok.ensures.learns.1

pub returns-then-not-joins-clause-leaves : goal.returns-then-not-joins-clause-leaves
returns-then-not-joins-clause-leaves g c xs go =
    let learned = c.in-Ok.ensures.learns in
    let e : c.answer.result.now ≡ learned.0.value = c.answer.ensures learned.0 learned.1 in
    let met : c.as_slice.result.now ≡ c.args.met.now = c.as_slice.ensures in
    let tested : c.joins.result ≡ (may_hold c.as_slice.result.now c.answer.result.now && not (is_name_of c.as_slice.result.now c.args.x.now)) =
    c.joins.ensures in
    let no : c.joins.result ≡ false = c.if-not-joins.true in
    let out : (may_hold c.args.met.now learned.0.value && not (is_name_of c.args.met.now c.args.x.now)) ≡ false = cc in
    stays_out c.args.met.now _ c.args.x.now xs go learned.0.value learned.2 out

pub returns-then-len-gt-MOST_NAMES-clause-leaves : goal.returns-then-len-gt-MOST_NAMES-clause-leaves
returns-then-len-gt-MOST_NAMES-clause-leaves g c xs go =
    let learned = c.in-Ok.ensures.learns in
    let e : c.answer.result.now ≡ learned.0.value = c.answer.ensures learned.0 learned.1 in
    let met : c.as_slice.result.now ≡ c.args.met.now = c.as_slice.ensures in
    let tested : c.joins.result ≡ (may_hold c.as_slice.result.now c.answer.result.now && not (is_name_of c.as_slice.result.now c.args.x.now)) =
    c.joins.ensures in
    let holds : c.joins.result ≡ true = c.if-not-joins.false in
    let so : (may_hold c.args.met.now learned.0.value && not (is_name_of c.args.met.now c.args.x.now)) ≡ true = cc in
    let grown : c.push.new.self ≡ c.args.met.now ++ c.args.x.now ∷ [] =
    c.in_ok-push.ensures.ok ∙ ap (λ y. c.args.met.now ++ y ∷ []) c.in_ok-copy.ensures in
    let size : c.len.result ≡ length c.push.new.self = c.len.ensures in
    let many : MOST_NAMES < length c.push.new.self = omega arith in
    is_too_many c.args.met.now _ c.args.x.now xs go learned.0.value c.push.new.self c.in_ok-decl_node.field-0 learned.2 so grown many
    c.in_ok-decl_node.ensures

pub returns-clause-leaves : goal.returns-clause-leaves
returns-clause-leaves g c xs go =
    let learned = c.in-Ok.ensures.learns in
    let e : c.answer.result.now ≡ learned.0.value = c.answer.ensures learned.0 learned.1 in
    let met : c.as_slice.result.now ≡ c.args.met.now = c.as_slice.ensures in
    let tested : c.joins.result ≡ (may_hold c.as_slice.result.now c.answer.result.now && not (is_name_of c.as_slice.result.now c.args.x.now)) =
    c.joins.ensures in
    let holds : c.joins.result ≡ true = c.if-not-joins.false in
    let so : (may_hold c.args.met.now learned.0.value && not (is_name_of c.args.met.now c.args.x.now)) ≡ true = cc in
    let grown : c.push.new.self ≡ c.args.met.now ++ c.args.x.now ∷ [] =
    c.in_ok-push.ensures.ok ∙ ap (λ y. c.args.met.now ++ y ∷ []) c.in_ok-copy.ensures in
    let size : c.len.result ≡ length c.push.new.self = c.len.ensures in
    let few : length c.push.new.self ≤ MOST_NAMES = omega arith in
    is_met c.args.met.now c.args.place c.args.x.now xs go learned.0.value c.push.new.self learned.2 so grown few c.requires.within
