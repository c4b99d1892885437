-- The bytes of units, one after another.
use Rattle.std.proofs.Common.{◌≡◌, ◌∙◌, ◌++◌, ◌+◌, ℕ, List, ap, sym, drop, append_assoc}
use Rattle.vx_format.specs.Numbers.{Bytes, each}
use Rattle.vx_lists.proofs.Places.{left_at}
use Rattle.vx_node.specs.declared.unit.Piece.{Piece}
use Rattle.vx_link.specs.declared.roster.Roster.{Roster}
use Rattle.vx_link.specs.Link.{UnitOf, targets, piece_bytes, unit_bytes}
use Rattle.vx_link.specs.Walks.{IsUnitAt}

-- with a unit more, what is left is a unit less
pub one_more : {r : Roster} {unit_of : UnitOf} {place : ℕ} {unit : List Piece} (one : IsUnitAt r unit_of place unit) (old new all : Bytes) →
    new ≡ old ++ each (piece_bytes r) unit → old ++ each (unit_bytes r unit_of) (drop place (targets r)) ≡ all →
    new ++ each (unit_bytes r unit_of) (drop (place + 1) (targets r)) ≡ all
one_more {r} {unit_of} {place} one old new all wrote so_far =
    let later = each (unit_bytes r unit_of) (drop (place + 1) (targets r)) in
    ap (λ bytes. bytes ++ later) (wrote ∙ ap (λ u. old ++ each (piece_bytes r) u) one.is) ∙ append_assoc old (unit_bytes r unit_of one.node) later
    ∙ ap (λ nodes. old ++ each (unit_bytes r unit_of) nodes) (sym (left_at (targets r) place one.node one.at)) ∙ so_far
