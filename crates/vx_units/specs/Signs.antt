-- What units are spelled with. A unit stands in an image as it is, but for the names in it, for which a linker puts places.
use Rattle.std.specs.Prelude.{ℕ, suc, ◌-◌, ◌^◌, List, [], ◌∷◌, ◌++◌, map, if◌then◌else◌}
use Rattle.vx_format.specs.Numbers.{Bytes, number, is_number}
use Rattle.vx_node.specs.declared.unit.Piece.{Piece}
use Rattle.vx_node.specs.declared.unit.Piece.TheVariants as pieces
use Rattle.vx_node.specs.declared.unit.Symbol.{Symbol}

-- a byte, or something that is named
pub data Sign : Type 0 where
  Byte : (byte : ℕ) → Sign
  Named : (symbol : Symbol) → Sign

abbrev pub Signs : Type 0
Signs = List Sign

abbrev pub bytes : Bytes → Signs
bytes own = map Byte own

abbrev pub named : Symbol → Signs
named symbol = Named symbol ∷ []

-- a number in so many bytes; where it does not fit, each of them is 255
abbrev pub fitted : ℕ → ℕ → Bytes
fitted width n = number width (if is_number width n then n else 256 ^ width - 1)

-- the signs of each, one after another
abbrev pub each : {A : Type 0} → (A → Signs) → List A → Signs
each spell [] = []
each spell (x ∷ xs) = spell x ++ each spell xs

-- how many bytes signs have in an image, where a place has four
abbrev pub size : Signs → ℕ
size [] = 0
size (Byte byte ∷ rest) = suc (size rest)
size (Named symbol ∷ rest) = suc (suc (suc (suc (size rest))))

-- a byte before pieces
abbrev pub with_byte : ℕ → List Piece → List Piece
with_byte byte [] = pieces.Bytes (byte ∷ []) ∷ []
with_byte byte (pieces.Bytes own ∷ rest) = pieces.Bytes (byte ∷ own) ∷ rest
with_byte byte (pieces.Symbol symbol ∷ rest) = pieces.Bytes (byte ∷ []) ∷ pieces.Symbol symbol ∷ rest

-- The pieces of a unit: bytes between two names are one piece.
abbrev pub grouped : Signs → List Piece
grouped [] = []
grouped (Byte byte ∷ rest) = with_byte byte (grouped rest)
grouped (Named symbol ∷ rest) = pieces.Symbol symbol ∷ grouped rest
