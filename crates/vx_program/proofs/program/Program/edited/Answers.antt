use Rattle.vx_program.proofs.Keeps.{made_one}
use Rattle.vx_program.proofs.program.Program.edited.Goals as goal

pub loop-one-preserved : goal.loop-one-preserved
loop-one-preserved c =
    made_one c.loop-one.decls.items c.as_slice-one-items.result.now c.loop-one.one-index c.one-item.result c.change.new.decls.items c.loop-one.invariant
    (c.loop-one-test.true, c.one-item.is, c.in-Ok.ensures.ok)
