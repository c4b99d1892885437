-- How input is cut into lines, and lines into blocks.
use Rattle.std.specs.Prelude.{ℕ, Bool, ◌==◌, ◌||◌, List, [], ◌∷◌, ◌++◌, if◌then◌else◌}
use Rattle.std.specs.Str.{bytes_eq}
use Rattle.std.specs.List.{onto_first, list_any}

-- The lines, each with its byte 10. The last may lack it, and no empty line comes last.
abbrev pub lines : List ℕ → List (List ℕ)
lines [] = []
lines (b ∷ bs) = if b == 10 then (b ∷ []) ∷ lines bs else onto_first b (lines bs)

-- `.`, or `.` and byte 13, each with byte 10 behind it or without one
abbrev pub is_end_line : List ℕ → Bool
is_end_line line = bytes_eq line (46 ∷ []) || bytes_eq line (46 ∷ 10 ∷ []) || bytes_eq line (46 ∷ 13 ∷ []) || bytes_eq line (46 ∷ 13 ∷ 10 ∷ [])

-- the line on the front of the first block, or a block by itself where there is none
abbrev pub onto_first_block : List ℕ → List (List ℕ) → List (List ℕ)
onto_first_block line [] = line ∷ []
onto_first_block line (block ∷ blocks) = (line ++ block) ∷ blocks

-- An end line ends a block, and is no part of one. Another line begins the first block of what follows.
abbrev pub blocks_of : List (List ℕ) → List (List ℕ)
blocks_of [] = []
blocks_of (line ∷ lines) = if is_end_line line then [] ∷ blocks_of lines else onto_first_block line (blocks_of lines)

-- the blocks of the input
abbrev pub blocks : List ℕ → List (List ℕ)
blocks bytes = blocks_of (lines bytes)

-- `.`, or `.` and byte 13, with byte 10 behind it
abbrev pub is_whole_end_line : List ℕ → Bool
is_whole_end_line line = bytes_eq line (46 ∷ 10 ∷ []) || bytes_eq line (46 ∷ 13 ∷ 10 ∷ [])

-- whether some line ends a block, whatever comes behind the bytes
abbrev pub has_end_line : List ℕ → Bool
has_end_line bytes = list_any is_whole_end_line (lines bytes)
