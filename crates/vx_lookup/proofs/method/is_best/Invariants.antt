use Rattle.std.proofs.Common.{◌≡◌, drop, map}
use Rattle.vx_model.specs.Lookup.{is_best}
use Rattle.vx_lookup.proofs.method.is_best.Given as goal

abbrev pub invariant-loop-other : goal.invariant-loop-other
invariant-loop-other l =
    is_best l.program (map (λ m. m.now) l.keys) l.key ≡ is_best l.program (map (λ m. m.now) (drop l.other-index l.keys)) l.key
