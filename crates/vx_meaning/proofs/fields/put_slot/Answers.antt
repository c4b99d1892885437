-- The first slot of the key is sought from the front.
use Rattle.std.proofs.Common.{◌∙◌, length, get_or, ap, sym, arith}
use Rattle.vx_names.specs.declared.key.FieldKey.{FieldKey}
use Rattle.vx_model.specs.declared.value.Value.{Value}
use Rattle.vx_model.specs.Holds.{same_field}
use Rattle.vx_meaning.proofs.Slots.{put_here, put_on, put_past}
use Rattle.vx_meaning.proofs.fields.put_slot.Goals as goal

pub returns-then-is_same_field : goal.returns-then-is_same_field
returns-then-is_same_field c =
    let own = c.index-as_slice-i.result in
    let here = put_here c.args.key.now c.args.value c.loop-i.slots c.loop-i.i own (omega (arith, ap length c.loop-i.invariant.0))
    (c.index-as_slice-i.is ∙ ap (λ l. get_or l c.loop-i.i own) c.as_slice.ensures)
    (sym c.if-is_same_field.true ∙ c.is_same_field.ensures ∙ ap (λ (slot : FieldKey × Value). same_field slot.0 c.args.key.now) (sym c.index-as_slice-i.is)) in
    cc (c.in_ok-copy.ensures, here)

pub loop-i-preserved : goal.loop-i-preserved
loop-i-preserved c =
    let own = c.index-as_slice-i.result in
    let on = put_on c.args.key.now c.args.value c.loop-i.slots c.loop-i.i own (omega (arith, ap length c.loop-i.invariant.0))
    (c.index-as_slice-i.is ∙ ap (λ l. get_or l c.loop-i.i own) c.as_slice.ensures)
    (c.if-is_same_field.ensures ∙ ap (λ (slot : FieldKey × Value). same_field slot.0 c.args.key.now) (sym c.index-as_slice-i.is)) in
    (c.loop-i.invariant.0, c.loop-i.invariant.1, sym on ∙ c.loop-i.invariant.2)

pub returns : goal.returns
returns c =
    let past = put_past c.args.key.now c.args.value c.loop-i.slots c.loop-i.i (omega (arith, ap length c.loop-i.invariant.0)) in
    sym past ∙ c.loop-i.invariant.2
