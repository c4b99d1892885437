use Rattle.std.proofs.Common.{◌≡◌, ◌++◌, ◌∷◌, drop}
use Rattle.vx_program.specs.Apply.{methods_fault}
use Rattle.vx_program.proofs.counts.methods_fault.Given as goal

abbrev pub invariant-loop-key : goal.invariant-loop-key
invariant-loop-key l =
    methods_fault (l.front ++ l.decl ∷ l.behind) l.keys ≡ methods_fault (l.front ++ l.decl ∷ l.behind) (drop l.key-index l.keys)
