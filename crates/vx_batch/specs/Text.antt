-- The texts of replies, in lines that end with byte 10.
use Rattle.std.specs.Prelude.{ℕ, zero, suc, ◌+◌, ◌/◌, List, [], ◌∷◌, ◌++◌, length, take, drop, codes}
use Rattle.std.specs.Fmt.{decimal}
use Rattle.std.specs.List.{flat_map}
use Rattle.hex.specs.Hex.{encode_lower}
use Rattle.vx_program.specs.declared.edit.Counted.{Counted}
use Rattle.vx_program.specs.declared.edit.Counted.TheVariants.{Declarations, Methods, Locals, Depth}

abbrev pub line : List ℕ → List ℕ
line text = text ++ 10 ∷ []

-- after so many edits were accepted
abbrev pub accepted_text : ℕ → List ℕ
accepted_text count = line (codes "accepted " ++ decimal count)

-- an edit names the key of this text, which no edit may name
abbrev pub reserved_text : List ℕ → List ℕ
reserved_text key = line (codes "refused reserved " ++ key)

-- an edit would take the key of this text, which is taken
abbrev pub exists_text : List ℕ → List ℕ
exists_text key = line (codes "refused exists " ++ key)

-- an edit names the key of this text, which no declaration has
abbrev pub missing_text : List ℕ → List ℕ
missing_text key = line (codes "refused missing " ++ key)

-- an edit names this object, which is not there
abbrev pub unknown_text : List ℕ → List ℕ
unknown_text name = line (codes "refused unknown " ++ name)

-- an edit names this object where none of its kind may stand
abbrev pub wrong_kind_text : List ℕ → List ℕ
wrong_kind_text name = line (codes "refused wrong kind " ++ name)

-- this object would inherit from itself
abbrev pub cycle_text : List ℕ → List ℕ
cycle_text name = line (codes "refused cycle " ++ name)

-- this object is named by the declaration with the key of the second text
abbrev pub in_use_text : List ℕ → List ℕ → List ℕ
in_use_text name by = line (codes "refused in use " ++ (name ++ (codes " by " ++ by)))

-- the word for what there may not be too much of
abbrev pub counted_word : Counted → List ℕ
counted_word Declarations = codes "declarations"
counted_word Methods = codes "methods"
counted_word Locals = codes "locals"
counted_word Depth = codes "depth"

-- there would be so many, which is too many
abbrev pub limit_text : Counted → ℕ → List ℕ
limit_text which count = line (codes "refused limit " ++ (counted_word which ++ (codes " " ++ decimal count)))

-- no command begins with the tokens up to this place
abbrev pub syntax_text : ℕ → List ℕ
syntax_text place = line (codes "refused syntax at " ++ decimal place)

-- the token at this place lies too deep
abbrev pub too_deep_text : ℕ → List ℕ
too_deep_text place = line (codes "refused too deep at " ++ decimal place)

-- the number at this place is too large
abbrev pub number_too_large_text : ℕ → List ℕ
number_too_large_text place = line (codes "refused number too large at " ++ decimal place)

abbrev pub not_yet_built_text : List ℕ
not_yet_built_text = line (codes "refused not yet built")

-- a block has so many bytes, more than are read
abbrev pub too_long_text : ℕ → List ℕ
too_long_text len = line (codes "refused block too long " ++ decimal len)

-- the first so many pieces of the bytes, each of 32 or of what is left
abbrev pub pieces : ℕ → List ℕ → List (List ℕ)
pieces zero bytes = []
pieces (suc count) bytes = take 32 bytes ∷ pieces count (drop 32 bytes)

-- how many pieces there are of so many bytes, the last of which may be short
abbrev pub piece_count : ℕ → ℕ
piece_count len = (len + 31) / 32

-- the bytes in hexadecimal, in lines
abbrev pub hex_lines : List ℕ → List ℕ
hex_lines bytes = flat_map (λ piece. line (codes ": " ++ encode_lower piece)) (pieces (piece_count (length bytes)) bytes)

-- an image after so many accepted edits, with the number of its bytes
abbrev pub image_text : ℕ → List ℕ → List ℕ
image_text count image = line (codes "image " ++ decimal count ++ codes " " ++ decimal (length image)) ++ hex_lines image
