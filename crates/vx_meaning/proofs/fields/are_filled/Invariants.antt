use Rattle.std.proofs.Common.{◌≡◌, is_some, drop}
use Rattle.std.specs.List.{list_all}
use Rattle.vx_model.specs.Holds.{slot}
use Rattle.vx_meaning.proofs.fields.are_filled.Given as goal

abbrev pub invariant-loop-key : goal.invariant-loop-key
invariant-loop-key l = list_all (λ key. is_some (slot key l.slots)) l.keys ≡ list_all (λ key. is_some (slot key l.slots)) (drop l.key-index l.keys)
