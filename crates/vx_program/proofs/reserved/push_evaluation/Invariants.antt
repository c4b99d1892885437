use Rattle.std.proofs.Common.{◌≡◌, ◌∷◌, replicate, codes}
use Rattle.vx_syntax.specs.Declarations.{any}
use Rattle.vx_program.proofs.reserved.push_evaluation.Given as goal

abbrev pub invariant-loop-i : goal.invariant-loop-i
invariant-loop-i l = l.specialisers ≡ codes "closure" ∷ replicate l.i any
