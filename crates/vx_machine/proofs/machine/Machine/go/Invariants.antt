use Rattle.vx_machine.proofs.Running.{Gone}
use Rattle.vx_machine.proofs.machine.Machine.go.Given as goal

abbrev pub invariant-loop-done : goal.invariant-loop-done
invariant-loop-done l = Gone l.ready l.n l.done l.fn.self l.self
