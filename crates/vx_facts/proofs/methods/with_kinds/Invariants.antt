use Rattle.std.proofs.Common.{◌≡◌, ◌++◌, drop, map}
use Rattle.vx_compilation.specs.Compiled.{with_kind}
use Rattle.vx_facts.proofs.methods.with_kinds.Given as goal

abbrev pub invariant-loop-key : goal.invariant-loop-key
invariant-loop-key l = l.heads ++ map (with_kind l.program) (drop l.key-index l.keys) ≡ map (with_kind l.program) l.keys
