-- The tokens of a block are such as bytes spell, but for bad ones and numbers that are too large.
use Rattle.std.proofs.Common.{◌≡◌, ℕ, zero, suc, ◌==◌, ◌||◌, Bool, true, false, if◌then◌else◌, List, [], ◌∷◌, ◌++◌, length, take, drop, take_while, Option, Some, None, nat_le, refl, sym, subst, arith}
use Rattle.std.proofs.lemmas.Bool.{leb-true}
use Rattle.std.proofs.lemmas.Bool.Decides.{nat_tests}
use Rattle.std.specs.Char.{is_ascii_digit}
use Rattle.std.specs.List.{AllByRecursion}
use Rattle.std.specs.Option.{option_map}
use Rattle.vx_names.specs.Bytes.{is_letter, is_word_byte}
use Rattle.vx_names.specs.Name.{IsIdentifier}
use Rattle.vx_names.specs.Operator.{operator_of}
use Rattle.vx_names.specs.declared.operator.Operator.{Operator}
use Rattle.vx_names.specs.declared.name.TheConstants.{NAME_BYTES}
use Rattle.vx_syntax.specs.declared.token.TheConstants.{TEXT_BYTES}
use Rattle.vx_syntax.specs.declared.token.Keyword.{Keyword}
use Rattle.vx_syntax.specs.declared.token.Mark.{Mark}
use Rattle.vx_syntax.specs.declared.token.Token.{Token}
use Rattle.vx_syntax.specs.declared.token.Token.TheVariants as k
use Rattle.vx_syntax.specs.Words.{keyword, mark, is_printable, IsToken}
use Rattle.vx_reader.specs.declared.text.StringByte.{StringByte}
use Rattle.vx_reader.specs.declared.text.StringByte.TheVariants.{Closing, Backslash, Held, Wrong}
use Rattle.vx_reader.specs.declared.token.Placed.{Placed}
use Rattle.vx_reader.specs.declared.token.Front.{Front}
use Rattle.vx_reader.specs.declared.token.Quoted.{Quoted}
use Rattle.vx_reader.specs.Bytes.{is_white, quote, backslash}
use Rattle.vx_reader.specs.Strings.{string_byte, quoted_behind, short, quoted}
use Rattle.vx_reader.specs.Tokens.{spelled, word, sign, sign_of, longer, begins, passes, word_front, number_front, text_front, begins_comment, comment_front, sign_front, front, at, tokens_after, placed_tokens, without_places, tokens}
use Rattle.vx_reader.proofs.Runs.{letter_and_run}
use Rattle.vx_reader.proofs.Texts.{by_byte_is}

-- bytes spell the token, or it is bad, or a number of any size
abbrev pub IsSpelled : Token → Type 0
IsSpelled (k.Number n) = Unit {0}
IsSpelled k.Bad = Unit {0}
IsSpelled token = IsToken token

abbrev pub AreSpelled : List Token → Type 0
AreSpelled ts = AllByRecursion IsSpelled ts

-- if there is a token, it is spelled
abbrev IfSpelled : Option Token → Type 0
IfSpelled None = Unit {0}
IfSpelled (Some token) = IsSpelled token

-- words
free_spelled : (x : List ℕ) → IsIdentifier x → keyword x ≡ None → (b : Bool) → nat_le (length x) NAME_BYTES ≡ b → IsSpelled (if b then k.Word x else k.Bad)
free_spelled x h free true short = record { identifier = h; short = leb-true (length x) NAME_BYTES short; free = free }
free_spelled x h free false long = tt

word_spelled : (x : List ℕ) → IsIdentifier x → IsSpelled (word x)
word_spelled x h = by (keyword x) refl
  where
    by : (o : Option Keyword) → keyword x ≡ o → IsSpelled (spelled o x)
    by (Some reserved) is = tt
    by None is = free_spelled x h is (nat_le (length x) NAME_BYTES) refl

-- strings
abbrev ArePrintable : List ℕ → Type 0
ArePrintable bytes = AllByRecursion (λ b. is_printable b ≡ true) bytes

abbrev IfPrintable : Option Quoted → Type 0
IfPrintable None = Unit {0}
IfPrintable (Some string) = ArePrintable string.value

special_printable : (b : ℕ) → (b == quote || b == backslash) ≡ true → is_printable b ≡ true
special_printable b is = grind (arith, nat_tests)

held_printable : (escaped : Bool) (b : ℕ) → string_byte escaped b ≡ Held → is_printable b ≡ true
held_printable true b is = special (b == quote || b == backslash) refl is
  where
    special : (x : Bool) → (b == quote || b == backslash) ≡ x → (if x then Held else Wrong) ≡ Held → is_printable b ≡ true
    special true e is = special_printable b e
    special false e is = absurd (cc is)
held_printable false b is = closing (b == quote) (b == backslash) (is_printable b) refl is
  where
    closing : (x y z : Bool) → is_printable b ≡ z → (if x then Closing else if y then Backslash else if z then Held else Wrong) ≡ Held → is_printable b ≡ true
    closing true y z e is = absurd (cc is)
    closing false true z e is = absurd (cc is)
    closing false false true e is = e
    closing false false false e is = absurd (cc is)

longer_printable : (o : Option Quoted) (f : Quoted → Quoted) → ((q : Quoted) → ArePrintable q.value → ArePrintable (f q).value) → IfPrintable o → IfPrintable (option_map f o)
longer_printable None f keeps h = tt
longer_printable (Some q) f keeps h = keeps q h

string_printable : (escaped : Bool) (bs : List ℕ) → IfPrintable (quoted_behind escaped bs)
string_printable escaped [] = tt
string_printable escaped (b ∷ bs) = by (string_byte escaped b) refl (string_printable true bs) (string_printable false bs)
  where
    by : (is : StringByte) → string_byte escaped b ≡ is → IfPrintable (quoted_behind true bs) → IfPrintable (quoted_behind false bs) → IfPrintable (quoted_behind escaped (b ∷ bs))
    by Closing is next after = subst IfPrintable (sym (by_byte_is escaped b bs Closing is)) tt
    by Backslash is next after = subst IfPrintable (sym (by_byte_is escaped b bs Backslash is)) (longer_printable (quoted_behind true bs) _ (λ q h. h) next)
    by Held is next after =
        subst IfPrintable (sym (by_byte_is escaped b bs Held is)) (longer_printable (quoted_behind false bs) _ (λ q h. (held_printable escaped b is, h)) after)
    by Wrong is next after = subst IfPrintable (sym (by_byte_is escaped b bs Wrong is)) tt

short_spelled : (o : Option Quoted) → IfPrintable o → IfSpelled (text_front (short o)).token
short_spelled None h = tt
short_spelled (Some string) h = by (nat_le (length string.value) TEXT_BYTES) refl
  where
    by : (b : Bool) → nat_le (length string.value) TEXT_BYTES ≡ b → IfSpelled (text_front (if b then Some string else None)).token
    by true is = record { short = leb-true (length string.value) TEXT_BYTES is; printable = h }
    by false is = tt

text_spelled : (bytes : List ℕ) → IfSpelled (text_front (quoted bytes)).token
unfolding quoted
text_spelled bytes = short_spelled (quoted_behind false bytes) (string_printable false bytes)

-- operators and marks
mark_spelled : (o : Option Mark) → IfSpelled (option_map k.Mark o)
mark_spelled None = tt
mark_spelled (Some m) = tt

sign_spelled : (bytes : List ℕ) → IfSpelled (sign bytes)
sign_spelled bytes = by (operator_of bytes)
  where
    by : (o : Option Operator) → IfSpelled (elim o [ Some operator ↦ Some (k.Operator operator) | None ↦ option_map k.Mark (mark bytes) ])
    by (Some operator) = tt
    by None = mark_spelled (mark bytes)

one_sign : (n : ℕ) (bytes : List ℕ) → IfSpelled (sign_of n bytes)
one_sign n bytes = by (nat_le n (length bytes))
  where
    by : (b : Bool) → IfSpelled (if b then sign (take n bytes) else None)
    by true = sign_spelled (take n bytes)
    by false = tt

longer_spelled : (o : Option Token) (n : ℕ) (shorter : Front) → IfSpelled o → IfSpelled shorter.token → IfSpelled (longer o n shorter).token
longer_spelled None n shorter h less = less
longer_spelled (Some token) n shorter h less = h

signs_spelled : (bytes : List ℕ) → IfSpelled (sign_front bytes).token
unfolding sign_front
signs_spelled bytes =
    longer_spelled (sign_of 3 bytes) 3 _ (one_sign 3 bytes) (longer_spelled (sign_of 2 bytes) 2 _ (one_sign 2 bytes)
    (longer_spelled (sign_of 1 bytes) 1 (begins k.Bad 1) (one_sign 1 bytes) tt))

-- what bytes begin with
either_front : (b : Bool) (x y : Front) → IfSpelled x.token → IfSpelled y.token → IfSpelled (if b then x else y).token
either_front true x y h g = h
either_front false x y h g = g

front_spelled : (b : ℕ) (bs : List ℕ) → IfSpelled (front (b ∷ bs)).token
unfolding front
front_spelled b bs =
    either_front (is_white b) (passes 1) _ tt (letter (is_letter b) refl _
    (either_front (is_ascii_digit b) (number_front (b ∷ bs)) _ tt
    (either_front (b == quote) (text_front (quoted (drop 1 (b ∷ bs)))) _ (text_spelled (drop 1 (b ∷ bs)))
    (either_front (begins_comment (b ∷ bs)) (comment_front (b ∷ bs)) (sign_front (b ∷ bs)) tt (signs_spelled (b ∷ bs))))))
  where
    letter : (x : Bool) → is_letter b ≡ x → (other : Front) → IfSpelled other.token → IfSpelled (if x then word_front (b ∷ bs) else other).token
    letter true is other h = word_spelled (take_while is_word_byte (b ∷ bs)) (letter_and_run (b ∷ bs) (omega arith) is)
    letter false is other h = h

at_spelled : (n : ℕ) (o : Option Token) (more : List Placed) → IfSpelled o → AreSpelled (without_places more) → AreSpelled (without_places (at n o ++ more))
at_spelled n None more h rest = rest
at_spelled n (Some token) more h rest = (h, rest)

after_spelled : (n passed : ℕ) (bytes : List ℕ) → AreSpelled (without_places (tokens_after n passed bytes))
after_spelled n passed [] = tt
after_spelled n (suc passed) (b ∷ bs) = after_spelled (suc n) passed bs
after_spelled n zero (b ∷ bs) =
    at_spelled n (front (b ∷ bs)).token (tokens_after (suc n) (front (b ∷ bs)).more bs) (front_spelled b bs) (after_spelled (suc n) (front (b ∷ bs)).more bs)

pub tokens_spelled : (bytes : List ℕ) → AreSpelled (tokens bytes)
unfolding placed_tokens
tokens_spelled bytes = after_spelled 0 0 bytes
