use Rattle.std.proofs.Common.{ap}
use Rattle.std.proofs.lemmas.Option.{slice_get_within}
use Rattle.vx_node.specs.declared.node.NodeId.TheVariants as node
use Rattle.vx_node.specs.declared.node.Filter.TheVariants as filters
use Rattle.vx_units.specs.ShapeUnit.{shape_unit}
use Rattle.vx_answers.specs.FieldRows.{slots_answered}
use Rattle.vx_walks.proofs.Reading.{is_read, is_not_read}
use Rattle.vx_fields.proofs.shapes.shape.Goals as goal

pub returns-in-Err-clause-follows : goal.returns-in-Err-clause-follows
returns-in-Err-clause-follows g c =
    is_not_read (node.Filter (filters.Slots c.args.x.now)) _ (λ answer. shape_unit (slots_answered answer))
    (ap (λ x. node.Filter (filters.Slots x)) c.in_ok-copy.ensures) c.in-Err.ensures.learns

pub answer-requires : goal.answer-requires
answer-requires g c = slice_get_within _ _ c.in-Ok.ensures.learns.0 c.in-Ok.ensures.learns.1

pub returns-clause-follows : goal.returns-clause-follows
returns-clause-follows g c =
    let learned = c.in-Ok.ensures.learns in
    is_read (node.Filter (filters.Slots c.args.x.now)) _ (λ answer. shape_unit (slots_answered answer)) learned.0.value c.answer.result.now
    c.in_ok-unit.unit (ap (λ x. node.Filter (filters.Slots x)) c.in_ok-copy.ensures) learned.2 (c.answer.ensures learned.0 learned.1) c.in_ok-unit.ensures
