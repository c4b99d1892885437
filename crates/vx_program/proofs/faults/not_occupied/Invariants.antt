use Rattle.std.proofs.Common.{◌≡◌, take, filter, not}
use Rattle.vx_program.specs.Program.{occupies}
use Rattle.vx_program.proofs.faults.not_occupied.Given as goal

abbrev pub invariant-loop-key : goal.invariant-loop-key
invariant-loop-key l = l.keys ≡ filter (λ key. not (occupies l.old key)) (take l.key-index l.key-items)
