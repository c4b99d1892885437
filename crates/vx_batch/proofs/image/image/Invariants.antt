use Rattle.std.proofs.Common.{◌≡◌, ◌++◌, take, filter}
use Rattle.std.specs.List.{flat_map}
use Rattle.vx_batch.specs.Image.{object_bytes, is_own}
use Rattle.vx_batch.proofs.image.image.Given as goal

abbrev pub invariant-loop-decl : goal.invariant-loop-decl
invariant-loop-decl l = l.image.items ≡ l.initial.image.items ++ flat_map object_bytes (filter is_own (take l.decl-index l.decls))
