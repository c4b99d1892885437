use Rattle.std.proofs.Common.{◌≡◌, drop, map}
use Rattle.std.specs.List.{find}
use Rattle.vx_model.specs.Lookup.{is_best}
use Rattle.vx_lookup.proofs.method.choice.Given as goal

abbrev pub invariant-loop-key : goal.invariant-loop-key
invariant-loop-key l =
    find (is_best l.program (map (λ m. m.now) l.keys)) (map (λ m. m.now) l.keys) ≡
    find (is_best l.program (map (λ m. m.now) l.keys)) (map (λ m. m.now) (drop l.key-index l.keys))
