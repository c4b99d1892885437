use Rattle.std.proofs.Common.{◌≡◌, ◌++◌, drop, map}
use Rattle.vx_model.specs.Order.{plain_names}
use Rattle.vx_model.specs.Values.{fresh}
use Rattle.vx_model.proofs.objects.opening.Given as goal

abbrev pub invariant-loop-decl : goal.invariant-loop-decl
invariant-loop-decl l = l.objects ++ map (fresh l.program) (plain_names (drop l.decl-index l.program)) ≡ map (fresh l.program) (plain_names l.program)
