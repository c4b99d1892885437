use Rattle.std.proofs.Common.{◌≡◌, ◌++◌, take, drop}
use Rattle.vx_compilation.specs.Compiled.{inserted}
use Rattle.vx_facts.proofs.methods.place_for.Given as goal

abbrev pub invariant-loop-place : goal.invariant-loop-place
invariant-loop-place l = inserted l.key l.keys ≡ take l.place l.keys ++ inserted l.key (drop l.place l.keys)
