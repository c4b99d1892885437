use Rattle.std.proofs.Common.{rules, ◌∙◌, ap, sym, subst}
use Rattle.vx_node.specs.declared.asker.Halt.TheVariants as halts
use Rattle.vx_node.specs.Asking.{gives}
use Rattle.vx_node.specs.Askers.{Goes}
use Rattle.vx_node.proofs.Leaving.{goes_on, stops, goes_within, stops_within, wants_memory, handed_on}
use Rattle.vx_answers.specs.FieldRows.{slots_row, in_key_order}
use Rattle.vx_fields.specs.Questions.{ordered, of_above}
use Rattle.vx_fields.proofs.spreading.slots.Goals as goal

pub returns-in-Err-clause-follows : goal.returns-in-Err-clause-follows
returns-in-Err-clause-follows g c = stops_within of_above c.in-Err.ensures.follows

pub returns-in-Err-spread-clause-follows : goal.returns-in-Err-spread-clause-follows
returns-in-Err-spread-clause-follows g c =
    stops (goes_within of_above c.in-Ok.ensures.follows) (stops_within ordered c.in-Err-spread.ensures.follows)

pub returns-in_err-slots-clause-follows : goal.returns-in_err-slots-clause-follows
returns-in_err-slots-clause-follows g c =
    let found = goes_on (goes_within of_above c.in-Ok.ensures.follows) (goes_within ordered c.in-Ok-spread.ensures.follows) in
    handed_on _ _ gives c.from_residual.result halts.OutOfMemory _ _ _ _ (search rules) (wants_memory found.adds)

pub returns-clause-follows : goal.returns-clause-follows
returns-clause-follows g c =
    let found = goes_on (goes_within of_above c.in-Ok.ensures.follows) (goes_within ordered c.in-Ok-spread.ensures.follows) in
    subst (λ slots. Goes g.A.Asker.manner (slots_row c.args.x.now) (gives slots) c.args.t.now.asker.now c.args.t.now.trace
    c.spread.new.t.asker.now c.spread.new.t.trace) (sym (c.in_ok-slots.ensures ∙ ap in_key_order c.as_slice.ensures)) found
