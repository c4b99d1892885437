use Rattle.std.proofs.lemmas.Result.{err_from_is_err_and}
use Rattle.vx_image.proofs.Lists.{goes_on, ends}
use Rattle.vx_image.proofs.part.list_at.Goals as goal

pub returns-in_err-part : goal.returns-in_err-part
returns-in_err-part g c =
    let p = err_from_is_err_and c.from_residual.result c.from_residual.ensures.1 in
    rw (p.1, p.2) (ends c.in_err-part.field-0.0
    (g.P.Part.read c.args.context.now) c.loop-i.parts c.args.count c.loop-i.i c.loop-i.at _ c.loop-i-test.true
    c.in_err-part.ensures c.loop-i.invariant)

pub loop-i-preserved : goal.loop-i-preserved
loop-i-preserved g c =
    rw c.in_ok-push.ensures.ok (goes_on (g.P.Part.read c.args.context.now) c.loop-i.parts c.args.count c.loop-i.i c.loop-i.at c.in_ok-part.after
    c.in_ok-part.part _ c.loop-i-test.true c.in_ok-part.ensures c.loop-i.invariant)
