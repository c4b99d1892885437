-- What the loops over units keep to.
use Rattle.std.specs.Prelude.{◌≡◌, ℕ, ◌+◌, ◌<◌, ◌≤◌, List, [], ◌∷◌, length, Some, None, slice_get, Result, Ok, Err}
use Rattle.vx_node.specs.declared.node.NodeId.{NodeId}
use Rattle.vx_node.specs.declared.unit.Piece.{Piece}
use Rattle.vx_node.specs.declared.unit.Piece.TheVariants as pieces
use Rattle.vx_link.specs.declared.fault.LinkFault.{LinkFault}
use Rattle.vx_link.specs.declared.fault.LinkFault.TheVariants as faults
use Rattle.vx_link.specs.declared.roster.Roster.{Roster}
use Rattle.vx_link.specs.Link.{UnitOf, targets, pieces_of, limit, linked, first_too_long}

-- The pieces are those of the unit at the place, in the order of the image.
pub record IsUnitAt (r : Roster) (unit_of : UnitOf) (place : ℕ) (unit : List Piece) : Type 0 where
  pub node : NodeId
  pub at : slice_get (targets r) place ≡ Some node
  pub is : unit ≡ pieces_of (unit_of node)

-- a symbol has four bytes
abbrev pub piece_size : Piece → ℕ
piece_size (pieces.Bytes bytes) = length bytes
piece_size (pieces.Symbol symbol) = 4

abbrev pub unit_size : List Piece → ℕ
unit_size [] = 0
unit_size (piece ∷ rest) = piece_size piece + unit_size rest

-- What measuring answers. Of want of memory nothing is said.
abbrev pub MeasuresAs : Result ℕ LinkFault → Roster → UnitOf → Type 0
MeasuresAs (Ok size) r unit_of = (size ≡ length (linked r unit_of)) × (size < limit) × (first_too_long r unit_of ≡ None)
MeasuresAs (Err (faults.TooLong unit)) r unit_of = (limit ≤ length (linked r unit_of)) × (first_too_long r unit_of ≡ Some unit)
MeasuresAs (Err faults.OutOfMemory) r unit_of = Unit {0}
