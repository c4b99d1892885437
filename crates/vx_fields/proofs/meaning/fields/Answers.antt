use Rattle.std.proofs.Common.{rules, ◌∙◌, ap, sym, subst}
use Rattle.vx_node.specs.declared.asker.Halt.TheVariants as halts
use Rattle.vx_node.specs.Asking.{gives}
use Rattle.vx_node.specs.Askers.{Goes}
use Rattle.vx_node.proofs.Leaving.{goes_within, stops_within, wants_memory, handed_on}
use Rattle.vx_answers.specs.FieldRows.{fields_row, in_key_order, joined}
use Rattle.vx_walks.proofs.Looping.{goes_as, stops_as}
use Rattle.vx_fields.specs.Questions.{fields_of, in_order, of_names}
use Rattle.vx_fields.proofs.meaning.fields.Goals as goal

pub returns-in-Err-clause-follows : goal.returns-in-Err-clause-follows
returns-in-Err-clause-follows g c = stops_within of_names c.in-Err.ensures.follows

pub returns-in-Err-fields_of_each-clause-follows : goal.returns-in-Err-fields_of_each-clause-follows
returns-in-Err-fields_of_each-clause-follows g c =
    stops_as fields_of in_order c.as_slice.result.now c.in-Ok.names c.as_slice.ensures (goes_within of_names c.in-Ok.ensures.follows)
    (c.in-Err-fields_of_each.ensures.leaves in_order)

pub returns-in_err-slots-clause-follows : goal.returns-in_err-slots-clause-follows
returns-in_err-slots-clause-follows g c =
    let first = goes_as fields_of in_order c.as_slice.result.now c.in-Ok.names c.in-Ok-fields_of_each.lists c.as_slice.ensures
    (goes_within of_names c.in-Ok.ensures.follows) (c.in-Ok-fields_of_each.ensures.leaves in_order) in
    handed_on _ _ gives c.from_residual.result halts.OutOfMemory _ _ _ _ (search rules) (wants_memory first.adds)

pub returns-clause-follows : goal.returns-clause-follows
returns-clause-follows g c =
    let first = goes_as fields_of in_order c.as_slice.result.now c.in-Ok.names c.in-Ok-fields_of_each.lists c.as_slice.ensures
    (goes_within of_names c.in-Ok.ensures.follows) (c.in-Ok-fields_of_each.ensures.leaves in_order) in
    subst (λ slots. Goes g.A.Asker.manner (fields_row c.args.class.now) (gives slots) c.args.t.now.asker.now c.args.t.now.trace
    c.fields_of_each.new.t.asker.now c.fields_of_each.new.t.trace)
    (sym (c.in_ok-slots.ensures ∙ ap (λ lists. in_key_order (joined lists)) c.as_slice-2.ensures)) first
