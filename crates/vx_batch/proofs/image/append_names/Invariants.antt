use Rattle.std.proofs.Common.{◌≡◌, ◌++◌, take}
use Rattle.std.specs.List.{flat_map}
use Rattle.vx_batch.specs.Image.{name_bytes}
use Rattle.vx_batch.proofs.image.append_names.Given as goal

abbrev pub invariant-loop-name : goal.invariant-loop-name
invariant-loop-name l = l.image.items ≡ l.initial.image.items ++ flat_map name_bytes (take l.name-index l.names)
