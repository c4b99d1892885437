-- Bytes, each stretch with the name behind it, as the signs that they stand for.
use Rattle.std.specs.Prelude.{List, [], ◌∷◌, ◌++◌}
use Rattle.vx_format.specs.Numbers.{Bytes}
use Rattle.vx_node.specs.declared.unit.Piece.{Piece}
use Rattle.vx_node.specs.declared.unit.Piece.TheVariants as pieces
use Rattle.vx_node.specs.declared.unit.Symbol.{Symbol}
use Rattle.vx_units.specs.Signs.{Signs, Named, bytes}

abbrev pub ungrouped : List (Bytes × Symbol) → Signs
ungrouped [] = []
ungrouped (stretch ∷ rest) = bytes stretch.0 ++ (Named stretch.1 ∷ ungrouped rest)

-- the bytes as a piece, where there are any
abbrev pub stretch_piece : Bytes → List Piece
stretch_piece [] = []
stretch_piece (byte ∷ own) = pieces.Bytes (byte ∷ own) ∷ []

-- stretches as pieces
abbrev pub stretches_pieces : List (Bytes × Symbol) → List Piece
stretches_pieces [] = []
stretches_pieces (stretch ∷ rest) = stretch_piece stretch.0 ++ (pieces.Symbol stretch.1 ∷ stretches_pieces rest)
