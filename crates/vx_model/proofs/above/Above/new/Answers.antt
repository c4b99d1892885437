use Rattle.vx_model.proofs.Walking.{ended}
use Rattle.vx_model.proofs.above.Above.new.Goals as goal

pub invariant_of-result : goal.invariant_of-result
invariant_of-result c = (
  c.marked-marks.ensures.program,
  ended c.args.program.now c.args.x.now c.marked-marks.result c.marked-marks.ensures.program
      (record { finds = c.chains_are_found.ensures.found; are = c.chains_are_found.ensures.are }) c.marked-marks.ensures.walked,
)
