use Rattle.std.proofs.Common.{◌≡◌, drop}
use Rattle.vx_machine.specs.Opening.{rising}
use Rattle.vx_machine.proofs.ready.rises.Given as goal

abbrev pub invariant-loop-entry : goal.invariant-loop-entry
invariant-loop-entry l = rising l.least (drop l.entry-index l.entries) ≡ rising 0 l.entries
