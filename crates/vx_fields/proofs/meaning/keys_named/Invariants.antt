use Rattle.std.proofs.Common.{◌≡◌, ◌++◌, drop}
use Rattle.vx_model.specs.Fields.{keys_named}
use Rattle.vx_fields.proofs.meaning.keys_named.Given as goal

abbrev pub invariant-loop-slot : goal.invariant-loop-slot
invariant-loop-slot l = l.keys ++ keys_named l.name (drop l.slot-index l.slots) ≡ keys_named l.name l.slots
