use Rattle.std.proofs.lemmas.Result.{err_from_is_err_and}
use Rattle.vx_format.specs.Format.{a_symbol}
use Rattle.vx_image.proofs.Lists.{goes_on, ends}
use Rattle.vx_image.proofs.instructions.fields_at.Goals as goal

pub returns-in_err-field : goal.returns-in_err-field
returns-in_err-field c =
    let p = err_from_is_err_and c.from_residual.result c.from_residual.ensures.1 in
    rw (p.1, p.2) (ends c.in_err-field.field-0.0
    (λ i. a_symbol c.args.bound) c.loop-i.fields c.args.count c.loop-i.i c.loop-i.at _ c.loop-i-test.true c.in_err-field.ensures c.loop-i.invariant)

pub loop-i-preserved : goal.loop-i-preserved
loop-i-preserved c = rw c.in_ok-push.ensures.ok
    (goes_on (λ i. a_symbol c.args.bound) c.loop-i.fields c.args.count c.loop-i.i c.loop-i.at c.in_ok-field.after
    c.in_ok-field.field _ c.loop-i-test.true c.in_ok-field.ensures c.loop-i.invariant)
