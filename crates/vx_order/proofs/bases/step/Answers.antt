use Rattle.std.proofs.Common.{◌≡◌, ◌∙◌, ◌≤◌, ◌<◌, ◌++◌, ◌∷◌, [], ap, sym, true, false, length, arith, Some, None}
use Rattle.std.proofs.lemmas.Option.{slice_get_within}
use Rattle.vx_program.specs.Program.{is_name_of}
use Rattle.vx_node.specs.Asking.{gives}
use Rattle.vx_answers.specs.declared.limits.TheConstants.{MOST_NAMES}
use Rattle.vx_answers.specs.OrderRows.{chain}
use Rattle.vx_order.specs.Chains.{chain_of}
use Rattle.vx_order.proofs.Chaining.{goes_to, chain_stops, chain_goes, chain_mixed, to_parent, to_met, to_many}
use Rattle.vx_order.proofs.bases.step.Goals as goal

pub returns-in-Err-clause-leaves : goal.returns-in-Err-clause-leaves
returns-in-Err-clause-leaves g c steps = chain_stops steps c.args.met.now c.args.x.now c.in-Err.ensures.learns

pub answer-requires : goal.answer-requires
answer-requires g c = slice_get_within _ _ c.in-Ok.ensures.learns.0 c.in-Ok.ensures.learns.1

pub returns-then-is_one-clause-leaves : goal.returns-then-is_one-clause-leaves
returns-then-is_one-clause-leaves g c steps =
    let learned = c.in-Ok.ensures.learns in
    let e : c.answer.result.now ≡ learned.0.value = c.answer.ensures learned.0 learned.1 in
    let known : is_name_of c.args.met.now c.in-First.parent ≡ true =
    ap (λ ms. is_name_of ms c.in-First.parent) (sym c.as_slice.ensures) ∙ ap (is_name_of c.as_slice.result.now) (sym c.bytes.ensures.bytes)
    ∙ sym c.is_one.ensures ∙ c.if-is_one.true in
    chain_mixed steps c.args.met.now c.args.x.now learned.0.value c.answer.result.now (chain_of c.in_ok-onward.onward) c.in-First.parent
    c.in_ok-decl_node-in-First.field-0
    learned.2 e c.in_ok-onward.ensures (ap chain_of c.in-First.is) (to_met steps c.args.met.now c.args.x.now c.in-First.parent known)
    c.in_ok-decl_node-in-First.ensures

pub returns-then-len-ge-MOST_NAMES-clause-leaves : goal.returns-then-len-ge-MOST_NAMES-clause-leaves
returns-then-len-ge-MOST_NAMES-clause-leaves g c steps =
    let learned = c.in-Ok.ensures.learns in
    let e : c.answer.result.now ≡ learned.0.value = c.answer.ensures learned.0 learned.1 in
    let size : c.len.result ≡ length c.args.met.now = c.len.ensures in
    let many : MOST_NAMES ≤ length c.args.met.now = omega arith in
    chain_mixed steps c.args.met.now c.args.x.now learned.0.value c.answer.result.now (chain_of c.in_ok-onward.onward) c.in-First.parent
    c.in_ok-decl_node-in-First-2.field-0
    learned.2 e c.in_ok-onward.ensures (ap chain_of c.in-First.is) (to_many steps c.args.met.now c.args.x.now c.in-First.parent many)
    c.in_ok-decl_node-in-First-2.ensures

pub returns-in-Nowhere-clause-leaves : goal.returns-in-Nowhere-clause-leaves
returns-in-Nowhere-clause-leaves g c steps =
    let learned = c.in-Ok.ensures.learns in
    let e : c.answer.result.now ≡ learned.0.value = c.answer.ensures learned.0 learned.1 in
    chain_goes steps c.args.met.now c.args.x.now learned.0.value c.answer.result.now (chain_of c.in_ok-onward.onward) (gives None) learned.2 e
    c.in_ok-onward.ensures
    (ap (λ o. goes_to steps c.args.met.now c.args.x.now (chain_of o)) c.in-Nowhere.is)

pub returns-in-Here-clause-leaves : goal.returns-in-Here-clause-leaves
returns-in-Here-clause-leaves g c steps =
    let learned = c.in-Ok.ensures.learns in
    let e : c.answer.result.now ≡ learned.0.value = c.answer.ensures learned.0 learned.1 in
    chain_goes steps c.args.met.now c.args.x.now learned.0.value c.answer.result.now (chain_of c.in_ok-onward.onward) (gives (Some c.args.x.now))
    learned.2 e c.in_ok-onward.ensures
    (ap (λ o. goes_to steps c.args.met.now c.args.x.now (chain_of o)) c.in-Here.is)

pub returns-in_ok-push-in-First-clause-leaves : goal.returns-in_ok-push-in-First-clause-leaves
returns-in_ok-push-in-First-clause-leaves g c steps =
    let learned = c.in-Ok.ensures.learns in
    let e : c.answer.result.now ≡ learned.0.value = c.answer.ensures learned.0 learned.1 in
    let new : is_name_of c.args.met.now c.in-First.parent ≡ false =
    ap (λ ms. is_name_of ms c.in-First.parent) (sym c.as_slice.ensures) ∙ ap (is_name_of c.as_slice.result.now) (sym c.bytes.ensures.bytes)
    ∙ sym c.is_one.ensures ∙ c.if-is_one.false in
    let size : c.len.result ≡ length c.args.met.now = c.len.ensures in
    let few : length c.args.met.now < MOST_NAMES = omega arith in
    let grown : c.push.new.self ≡ c.args.met.now ++ c.in-First.parent ∷ [] =
    c.in_ok-push-in-First.ensures.ok ∙ ap (λ p. c.args.met.now ++ p ∷ []) c.in_ok-copy-in-First.ensures in
    chain_goes steps c.args.met.now c.args.x.now learned.0.value c.answer.result.now (chain_of c.in_ok-onward.onward) (chain steps c.push.new.self
    c.in-First.parent)
    learned.2 e c.in_ok-onward.ensures
    (ap (λ o. goes_to steps c.args.met.now c.args.x.now (chain_of o)) c.in-First.is
    ∙ to_parent steps c.args.met.now c.args.x.now c.in-First.parent c.push.new.self new few grown)
