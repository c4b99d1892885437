use Rattle.std.proofs.Common.{◌≡◌, ◌+◌, ◌≤◌, drop, length, filter}
use Rattle.vx_batch.specs.Image.{is_own}
use Rattle.vx_batch.proofs.image.own_count.Given as goal

abbrev pub invariant-loop-decl : goal.invariant-loop-decl
invariant-loop-decl l =
    (l.count ≤ l.decl-index) × (l.count + length (filter is_own (drop l.decl-index l.decls)) ≡ length (filter is_own l.decls))
