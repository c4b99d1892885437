use Rattle.std.proofs.Common.{◌≡◌, ◌++◌, ◌&&◌, drop, filter, map}
use Rattle.std.specs.Option.{option_copied}
use Rattle.vx_model.specs.Lookup.{is_below, are_held}
use Rattle.vx_lookup.proofs.method.applicable.Given as goal

abbrev pub invariant-loop-key : goal.invariant-loop-key
invariant-loop-key l =
    map (λ m. m.now) l.keys.items ++
    filter (λ m. is_below l.program (option_copied l.below) m && are_held l.program l.heap l.arguments m.specialisers) (drop l.key-index l.methods) ≡
    filter (λ m. is_below l.program (option_copied l.below) m && are_held l.program l.heap l.arguments m.specialisers) l.methods
