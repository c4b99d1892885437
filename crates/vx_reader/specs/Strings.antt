-- Strings: what they hold, and where they end.
use Rattle.std.specs.Prelude.{ℕ, ◌==◌, ◌||◌, Bool, true, false, suc, nat_le, if◌then◌else◌, List, [], ◌∷◌, length, Option, Some, None}
use Rattle.std.specs.Option.{option_map}
use Rattle.vx_reader.specs.declared.token.Quoted.{Quoted}
use Rattle.vx_syntax.specs.declared.token.TheConstants.{TEXT_BYTES}
use Rattle.vx_syntax.specs.Words.{is_printable}
use Rattle.vx_reader.specs.declared.text.StringByte.{StringByte}
use Rattle.vx_reader.specs.declared.text.StringByte.TheVariants.{Closing, Backslash, Held, Wrong}
use Rattle.vx_reader.specs.Bytes.{quote, backslash}

-- what a byte of a string is: behind a backslash only a quote or a backslash may stand, which the string then holds
abbrev pub string_byte : Bool → ℕ → StringByte
string_byte true b = if b == quote || b == backslash then Held else Wrong
string_byte false b =
    if b == quote then Closing else
    if b == backslash then Backslash else
    if is_printable b then Held else Wrong

-- a string that has a backslash more, in front
abbrev pub behind_backslash : Option Quoted → Option Quoted
behind_backslash string = option_map (λ q. record { value = q.value; len = suc q.len }) string

-- a string that holds one more byte, in front
abbrev pub holding : ℕ → Option Quoted → Option Quoted
holding b string = option_map (λ q. record { value = b ∷ q.value; len = suc q.len }) string

-- what a string of any length holds, and how many bytes it has up to its closing quote, if it is closed and none of
-- them is wrong; the flag says that a backslash stands before the bytes
abbrev pub quoted_behind : Bool → List ℕ → Option Quoted
quoted_behind escaped [] = None
quoted_behind escaped (b ∷ bs) = elim (string_byte escaped b) [
  | Closing ↦ Some (record { value = []; len = 1 })
  | Backslash ↦ behind_backslash (quoted_behind true bs)
  | Held ↦ holding b (quoted_behind false bs)
  | Wrong ↦ None
]

-- the string, unless it holds too many bytes
abbrev pub short : Option Quoted → Option Quoted
short None = None
short (Some string) = if nat_le (length string.value) TEXT_BYTES then Some string else None

-- the string that begins behind its opening quote
unfoldable pub quoted : List ℕ → Option Quoted
quoted bytes = short (quoted_behind false bytes)
