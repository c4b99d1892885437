use Rattle.std.proofs.Common.{rules, ◌∙◌, ap, sym, subst}
use Rattle.vx_node.specs.declared.asker.Halt.TheVariants as halts
use Rattle.vx_node.specs.Asking.{gives}
use Rattle.vx_node.specs.Askers.{Goes}
use Rattle.vx_node.proofs.Leaving.{goes_within, stops_within, wants_memory, handed_on}
use Rattle.vx_model.specs.Fields.{keys_named}
use Rattle.vx_answers.specs.FieldRows.{field_row, lowest}
use Rattle.vx_walks.proofs.Looping.{goes_as, stops_as}
use Rattle.vx_fields.specs.Questions.{with_above, lowest_of, of_slots}
use Rattle.vx_fields.proofs.meaning.field_at.Goals as goal

pub returns-in-Err-clause-follows : goal.returns-in-Err-clause-follows
returns-in-Err-clause-follows g c = stops_within (of_slots c.args.name.now) c.in-Err.ensures.follows

pub returns-in_err-keys-clause-follows : goal.returns-in_err-keys-clause-follows
returns-in_err-keys-clause-follows g c =
    let first = goes_within (of_slots c.args.name.now) c.in-Ok.ensures.follows in
    handed_on _ _ gives c.from_residual.result halts.OutOfMemory _ _ _ _ (search rules) (wants_memory first.adds)

pub returns-in-Err-above_each-clause-follows : goal.returns-in-Err-above_each-clause-follows
returns-in-Err-above_each-clause-follows g c =
    stops_as with_above (lowest_of c.args.name.now c.in-Ok.slots) c.as_slice-2.result.now (keys_named c.args.name.now c.in-Ok.slots)
    (c.as_slice-2.ensures ∙ c.in_ok-keys.ensures ∙ ap (keys_named c.args.name.now) c.as_slice.ensures)
    (goes_within (of_slots c.args.name.now) c.in-Ok.ensures.follows)
    (c.in-Err-above_each.ensures.leaves (lowest_of c.args.name.now c.in-Ok.slots))

pub returns-in_err-key-clause-follows : goal.returns-in_err-key-clause-follows
returns-in_err-key-clause-follows g c =
    let first = goes_as with_above (lowest_of c.args.name.now c.in-Ok.slots) c.as_slice-2.result.now (keys_named c.args.name.now c.in-Ok.slots)
    c.in-Ok-above_each.above (c.as_slice-2.ensures ∙ c.in_ok-keys.ensures ∙ ap (keys_named c.args.name.now) c.as_slice.ensures)
    (goes_within (of_slots c.args.name.now) c.in-Ok.ensures.follows)
    (c.in-Ok-above_each.ensures.leaves (lowest_of c.args.name.now c.in-Ok.slots)) in
    handed_on _ _ gives c.from_residual-in_err-key.result halts.OutOfMemory _ _ _ _ (search rules) (wants_memory first.adds)

pub returns-clause-follows : goal.returns-clause-follows
returns-clause-follows g c =
    let keys = c.in_ok-keys.ensures ∙ ap (keys_named c.args.name.now) c.as_slice.ensures in
    let first = goes_as with_above (lowest_of c.args.name.now c.in-Ok.slots) c.as_slice-2.result.now (keys_named c.args.name.now c.in-Ok.slots)
    c.in-Ok-above_each.above (c.as_slice-2.ensures ∙ keys) (goes_within (of_slots c.args.name.now) c.in-Ok.ensures.follows)
    (c.in-Ok-above_each.ensures.leaves (lowest_of c.args.name.now c.in-Ok.slots)) in
    subst (λ key. Goes g.A.Asker.manner (field_row c.args.class.now c.args.name.now) (gives key) c.args.t.now.asker.now c.args.t.now.trace
    c.above_each.new.t.asker.now c.above_each.new.t.trace)
    (sym (c.in_ok-key.ensures ∙ ap (λ all. lowest all c.as_slice-4.result.now) (c.as_slice-3.ensures ∙ keys)
    ∙ ap (lowest (keys_named c.args.name.now c.in-Ok.slots)) c.as_slice-4.ensures)) first
