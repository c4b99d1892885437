-- The tokens of a block.
use Rattle.std.specs.Prelude.{ℕ, Bool, zero, suc, ◌+◌, ◌-◌, nat_le, min, if◌then◌else◌, ◌==◌, ◌^◌, List, [], ◌∷◌, ◌++◌, length, map, take, drop, take_while, codes, Option, Some, None}
use Rattle.std.specs.Option.{option_map}
use Rattle.std.specs.Str.{bytes_eq}
use Rattle.std.specs.Str.Parse.{digits_value}
use Rattle.std.specs.Char.{is_ascii_digit}
use Rattle.vx_names.specs.Bytes.{is_letter, is_word_byte}
use Rattle.vx_names.specs.Operator.{operator_of}
use Rattle.vx_names.specs.declared.name.TheConstants.{NAME_BYTES}
use Rattle.vx_syntax.specs.declared.token.Keyword.{Keyword}
use Rattle.vx_syntax.specs.Words.{keyword, mark}
use Rattle.vx_syntax.specs.declared.token.Token.{Token}
use Rattle.vx_syntax.specs.declared.token.Token.TheVariants as k
use Rattle.vx_reader.specs.declared.token.Placed.{Placed}
use Rattle.vx_reader.specs.declared.token.Front.{Front}
use Rattle.vx_reader.specs.declared.token.Quoted.{Quoted}
use Rattle.vx_reader.specs.Bytes.{is_white, is_in_line, quote}
use Rattle.vx_reader.specs.Strings.{quoted}

-- the token that an identifier is, by the reserved word that it spells: a name has at most 64 bytes
abbrev pub spelled : Option Keyword → List ℕ → Token
spelled (Some reserved) bytes = k.Keyword reserved
spelled None bytes = if nat_le (length bytes) NAME_BYTES then k.Word bytes else k.Bad

-- the token that an identifier is
abbrev pub word : List ℕ → Token
word bytes = spelled (keyword bytes) bytes

-- the number that digits write, or 2 ^ 127 where it is greater
abbrev pub number : List ℕ → ℕ
number digits = min (digits_value 10 digits) (2 ^ 127)

-- the token that the bytes are, if it is an operator or a mark
abbrev pub sign : List ℕ → Option Token
sign bytes = elim (operator_of bytes) [ Some operator ↦ Some (k.Operator operator) | None ↦ option_map k.Mark (mark bytes) ]

-- no token, but this many bytes that are passed over
abbrev pub passes : ℕ → Front
passes len = record { token = None; more = len - 1 }

-- a token of this many bytes
abbrev pub begins : Token → ℕ → Front
begins token len = record { token = Some token; more = len - 1 }

-- an identifier: all the letters and digits at the front
abbrev pub word_front : List ℕ → Front
word_front bytes = begins (word (take_while is_word_byte bytes)) (length (take_while is_word_byte bytes))

-- a number: all the digits at the front
abbrev pub number_front : List ℕ → Front
number_front bytes = begins (k.Number (number (take_while is_ascii_digit bytes))) (length (take_while is_ascii_digit bytes))

-- a quote and the string behind it, or a bad byte where no string begins behind it
abbrev pub text_front : Option Quoted → Front
text_front (Some string) = begins (k.Text string.value) (string.len + 1)
text_front None = begins k.Bad 1

-- two minus signs begin a comment
abbrev pub begins_comment : List ℕ → Bool
begins_comment bytes = bytes_eq (take 2 bytes) (codes "--")

-- a comment goes on to the end of its line
abbrev pub comment_front : List ℕ → Front
comment_front bytes = passes (length (take_while is_in_line bytes))

-- the operator or mark that the first n bytes are, if there are as many
abbrev pub sign_of : ℕ → List ℕ → Option Token
sign_of n bytes = if nat_le n (length bytes) then sign (take n bytes) else None

-- an operator or a mark of so many bytes, or else a shorter front
abbrev pub longer : Option Token → ℕ → Front → Front
longer (Some token) len shorter = begins token len
longer None len shorter = shorter

-- the longest operator or mark that the bytes begin with, and else a bad byte: none has more than three bytes
unfoldable pub sign_front : List ℕ → Front
sign_front bytes = longer (sign_of 3 bytes) 3 (longer (sign_of 2 bytes) 2 (longer (sign_of 1 bytes) 1 (begins k.Bad 1)))

-- what begins with the byte b, the first of these: the longest token, or none where it is white space or begins a comment
abbrev pub begun : ℕ → List ℕ → Front
begun b bytes =
    if is_white b then passes 1 else
    if is_letter b then word_front bytes else
    if is_ascii_digit b then number_front bytes else
    if b == quote then text_front (quoted (drop 1 bytes)) else
    if begins_comment bytes then comment_front bytes else
    sign_front bytes

-- what the bytes begin with
unfoldable pub front : List ℕ → Front
front [] = passes 1
front (b ∷ bs) = begun b (b ∷ bs)

-- the token, if there is one, at this place
abbrev pub at : ℕ → Option Token → List Placed
at n None = []
at n (Some token) = record { token = token; place = n } ∷ []

-- the tokens that begin after the first bytes, which are passed over; n is the place of the byte in front
abbrev pub tokens_after : ℕ → ℕ → List ℕ → List Placed
tokens_after n passed [] = []
tokens_after n (suc passed) (b ∷ bs) = tokens_after (suc n) passed bs
tokens_after n zero (b ∷ bs) = at n (front (b ∷ bs)).token ++ tokens_after (suc n) (front (b ∷ bs)).more bs

-- all the tokens of a block, each with the place of its first byte
unfoldable pub placed_tokens : List ℕ → List Placed
placed_tokens bytes = tokens_after 0 0 bytes

-- the tokens alone
abbrev pub without_places : List Placed → List Token
without_places placed = map (λ p. p.token) placed

-- all the tokens of a block
abbrev pub tokens : List ℕ → List Token
tokens bytes = without_places (placed_tokens bytes)
