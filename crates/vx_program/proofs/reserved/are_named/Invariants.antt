use Rattle.std.proofs.Common.{◌≡◌, drop}
use Rattle.std.specs.List.{list_any}
use Rattle.vx_program.specs.Lookups.{names}
use Rattle.vx_program.proofs.reserved.are_named.Given as goal

abbrev pub invariant-loop-key : goal.invariant-loop-key
invariant-loop-key l = list_any (names l.x) l.keys ≡ list_any (names l.x) (drop l.key-index l.keys)
