use Rattle.std.proofs.Common.{◌≡◌, ◌+◌, ◌≤◌, drop, length, filter}
use Rattle.vx_batch.specs.Listing.{is_listed}
use Rattle.vx_batch.proofs.listing.listed_count.Given as goal

abbrev pub invariant-loop-decl : goal.invariant-loop-decl
invariant-loop-decl l =
    (l.count ≤ l.decl-index) × (l.count + length (filter is_listed (drop l.decl-index l.decls)) ≡ length (filter is_listed l.decls))
