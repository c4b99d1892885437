use Rattle.std.proofs.Common.{ap, refl}
use Rattle.vx_node.specs.declared.answer.Answer.TheVariants as answers
use Rattle.vx_answers.specs.Answers.{filter_row}
use Rattle.vx_node.proofs.Leaving.{no_memory}
use Rattle.vx_compute.proofs.Wrapping.{wrapped, wrapped_stops}
use Rattle.vx_compute.proofs.rows.filter_answer.Goals as goal

pub returns-in-Ok-clause-follows : goal.returns-in-Ok-clause-follows
returns-in-Ok-clause-follows g c = wrapped (filter_row c.args.filter.now) answers.Up (ap filter_row c.in-Up.is) c.in-Ok.ensures.follows

pub returns-in-Err-clause-follows : goal.returns-in-Err-clause-follows
returns-in-Err-clause-follows g c = wrapped_stops (filter_row c.args.filter.now) answers.Up (ap filter_row c.in-Up.is) c.in-Err.ensures.follows

pub returns-in-Ok-cone-clause-follows : goal.returns-in-Ok-cone-clause-follows
returns-in-Ok-cone-clause-follows g c = wrapped (filter_row c.args.filter.now) answers.Cone (ap filter_row c.in-Cone.is) c.in-Ok-cone.ensures.follows

pub returns-in-Err-cone-clause-follows : goal.returns-in-Err-cone-clause-follows
returns-in-Err-cone-clause-follows g c = wrapped_stops (filter_row c.args.filter.now) answers.Cone (ap filter_row c.in-Cone.is)
    c.in-Err-cone.ensures.follows

pub returns-in-Ok-base-clause-follows : goal.returns-in-Ok-base-clause-follows
returns-in-Ok-base-clause-follows g c = wrapped (filter_row c.args.filter.now) answers.Base (ap filter_row c.in-Base.is) c.in-Ok-base.ensures.follows

pub returns-in-Err-base-clause-follows : goal.returns-in-Err-base-clause-follows
returns-in-Err-base-clause-follows g c = wrapped_stops (filter_row c.args.filter.now) answers.Base (ap filter_row c.in-Base.is)
    c.in-Err-base.ensures.follows

pub returns-in-Ok-slots-clause-follows : goal.returns-in-Ok-slots-clause-follows
returns-in-Ok-slots-clause-follows g c = wrapped (filter_row c.args.filter.now) answers.Slots (ap filter_row c.in-Slots.is)
    c.in-Ok-slots.ensures.follows

pub returns-in-Err-slots-clause-follows : goal.returns-in-Err-slots-clause-follows
returns-in-Err-slots-clause-follows g c = wrapped_stops (filter_row c.args.filter.now) answers.Slots (ap filter_row c.in-Slots.is)
    c.in-Err-slots.ensures.follows

pub returns-in-Ok-field_at-clause-follows : goal.returns-in-Ok-field_at-clause-follows
returns-in-Ok-field_at-clause-follows g c = wrapped (filter_row c.args.filter.now) answers.Field (ap filter_row c.in-Field.is)
    c.in-Ok-field_at.ensures.follows

pub returns-in-Err-field_at-clause-follows : goal.returns-in-Err-field_at-clause-follows
returns-in-Err-field_at-clause-follows g c = wrapped_stops (filter_row c.args.filter.now) answers.Field (ap filter_row c.in-Field.is)
    c.in-Err-field_at.ensures.follows

pub returns-in-Ok-inlinable-clause-follows : goal.returns-in-Ok-inlinable-clause-follows
returns-in-Ok-inlinable-clause-follows g c = wrapped (filter_row c.args.filter.now) answers.Inline (ap filter_row c.in-Inline.is)
    c.in-Ok-inlinable.ensures.follows

pub returns-in-Err-inlinable-clause-follows : goal.returns-in-Err-inlinable-clause-follows
returns-in-Err-inlinable-clause-follows g c = wrapped_stops (filter_row c.args.filter.now) answers.Inline (ap filter_row c.in-Inline.is)
    c.in-Err-inlinable.ensures.follows

pub returns-in-Ok-bound-clause-follows : goal.returns-in-Ok-bound-clause-follows
returns-in-Ok-bound-clause-follows g c = wrapped (filter_row c.args.filter.now) answers.Bind (ap filter_row c.in-Bind.is) c.in-Ok-bound.ensures.follows

pub returns-in-Err-bound-clause-follows : goal.returns-in-Err-bound-clause-follows
returns-in-Err-bound-clause-follows g c = wrapped_stops (filter_row c.args.filter.now) answers.Bind (ap filter_row c.in-Bind.is)
    c.in-Err-bound.ensures.follows

pub returns-in_default : goal.returns-in_default
returns-in_default g c = record { ready = c.requires.ready; same = refl; built = λ e. absurd (cc); follows = no_memory }
