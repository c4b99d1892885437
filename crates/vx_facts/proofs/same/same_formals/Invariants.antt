use Rattle.std.proofs.Common.{◌≡◌, take, length}
use Rattle.vx_facts.proofs.same.same_formals.Given as goal

abbrev pub invariant-loop-place : goal.invariant-loop-place
invariant-loop-place l = (length l.a ≡ length l.b) × (take l.place l.a ≡ take l.place l.b)
