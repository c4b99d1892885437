use Rattle.std.proofs.Common.{◌≡◌, ◌++◌, take, filter}
use Rattle.std.specs.List.{flat_map}
use Rattle.vx_batch.specs.Listing.{is_listed, listed_line}
use Rattle.vx_batch.proofs.listing.append_listed.Given as goal

abbrev pub invariant-loop-decl : goal.invariant-loop-decl
invariant-loop-decl l = l.text.items ≡ l.initial.text.items ++ flat_map listed_line (filter is_listed (take l.decl-index l.decls))
