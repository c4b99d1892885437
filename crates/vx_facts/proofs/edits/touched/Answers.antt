use Rattle.std.proofs.Common.{subst, ◌∙◌}
use Rattle.std.proofs.lemmas.List.{take_all}
use Rattle.vx_facts.proofs.Heard.{Heard, heard_next, are_touched, still_touched}
use Rattle.vx_facts.proofs.edits.touched.Goals as goal

pub loop-change-preserved : goal.loop-change-preserved
loop-change-preserved c =
    heard_next c.args.before.now c.args.after.now c.as_slice-change-items.result.now c.loop-change.change-index c.change-item.result
    c.loop-change.facts.items c.push_changed.new.facts.items c.loop-change-test.true c.change-item.is c.loop-change.invariant
    c.in_ok-push_changed.ensures

pub returns-clause-touched : goal.returns-clause-touched
returns-clause-touched c =
    let heard = subst (λ z. Heard c.args.before.now c.args.after.now z c.loop-change.facts.items)
    (take_all c.loop-change.change-index c.as_slice-change-items.result.now c.loop-change-test.false ∙ c.as_slice-change-items.ensures)
    c.loop-change.invariant in
    still_touched c.args.before.now c.args.after.now c.loop-change.facts.items c.put_in_order.new.facts.items c.put_in_order.ensures.same
    (are_touched c.args.before.now c.args.after.now c.is_program.ensures c.is_program-2.ensures c.args.edit.now.changes c.loop-change.facts.items
    c.requires heard)
