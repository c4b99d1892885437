use Rattle.vx_reader.proofs.Texts.{begins}
use Rattle.vx_reader.proofs.text.quoted.Goals as goal

pub loop-place-init : goal.loop-place-init
loop-place-init c = rw c.new-value.ensures (begins _)
