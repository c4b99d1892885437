-- The unit of an object: its slots, each with what it holds at first.
use Rattle.std.specs.Prelude.{List, ◌++◌, length}
use Rattle.vx_format.specs.Numbers.{number, integer}
use Rattle.vx_names.specs.declared.key.FieldKey.{FieldKey}
use Rattle.vx_syntax.specs.declared.decl.Start.{Start}
use Rattle.vx_syntax.specs.declared.decl.Start.TheVariants as s
use Rattle.vx_node.specs.declared.unit.Piece.{Piece}
use Rattle.vx_node.specs.declared.unit.Symbol.TheVariants as symbols
use Rattle.vx_units.specs.Signs.{Signs, bytes, named, fitted, each, grouped}

-- a byte for the kind of the value, and what that kind needs
abbrev pub start_signs : Start → Signs
start_signs s.Nil = bytes (number 1 0)
start_signs s.False = bytes (number 1 1)
start_signs s.True = bytes (number 1 2)
start_signs (s.Int n) = bytes (number 1 3) ++ bytes (integer n)
start_signs (s.Text text) = bytes (number 1 4) ++ (bytes (fitted 4 (length text)) ++ bytes text)

abbrev pub slot_signs : FieldKey × Start → Signs
slot_signs slot = named (symbols.Field slot.0) ++ start_signs slot.1

abbrev pub shape_signs : List (FieldKey × Start) → Signs
shape_signs slots = bytes (fitted 4 (length slots)) ++ each slot_signs slots

-- How many slots there are, and each slot.
abbrev pub shape_unit : List (FieldKey × Start) → List Piece
shape_unit slots = grouped (shape_signs slots)
