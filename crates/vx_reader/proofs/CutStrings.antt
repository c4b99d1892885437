-- Canonical strings are cut into their tokens.
use Rattle.std.proofs.Common.{◌≡◌, ℕ, suc, ◌==◌, ◌||◌, ◌+◌, Bool, true, false, if◌then◌else◌, List, [], ◌∷◌, ◌++◌, length, Option, Some, refl, sym, ap, ◌∙◌, arith, append_assoc, length-append}
use Rattle.std.proofs.lemmas.Bool.{cond-true, le-leb, or_parts}
use Rattle.std.specs.List.{AllByRecursion, flat_map}
use Rattle.vx_syntax.specs.declared.token.Token.TheVariants as k
use Rattle.vx_syntax.specs.declared.token.TheConstants.{TEXT_BYTES}
use Rattle.vx_syntax.specs.Print.{escaped, string_text}
use Rattle.vx_syntax.specs.Words.{is_printable, IsText}
use Rattle.vx_reader.specs.declared.token.Quoted.{Quoted}
use Rattle.vx_reader.specs.declared.text.StringByte.TheVariants.{Closing, Backslash, Held}
use Rattle.vx_reader.specs.Bytes.{quote, backslash}
use Rattle.vx_reader.specs.Strings.{string_byte, behind_backslash, holding, quoted_behind, short, quoted}
use Rattle.vx_reader.specs.Tokens.{begins, text_front, front}
use Rattle.vx_reader.proofs.Texts.{by_byte_is}
use Rattle.vx_reader.proofs.Cuts.{Any, Cuts, front_cut}

-- the string of these bytes, whose text is this long
abbrev holds : List ℕ → ℕ → Option Quoted
holds value len = Some (record { value = value; len = len })

-- one byte of a string, in front of what is read behind it
byte_read : (b : ℕ) (more value : List ℕ) (len : ℕ) (special : Bool) → (b == quote || b == backslash) ≡ special → is_printable b ≡ true → quoted_behind false more ≡ holds value len →
    quoted_behind false ((if special then backslash ∷ b ∷ [] else b ∷ []) ++ more) ≡ holds (b ∷ value) (length (if special then backslash ∷ b ∷ [] else b ∷ []) + len)
byte_read b more value len true special printable read =
    let held : string_byte true b ≡ Held = rw special refl in
    let long : suc (suc len) ≡ 2 + len = omega arith in
    by_byte_is false backslash (b ∷ more) Backslash refl ∙ ap behind_backslash (by_byte_is true b more Held held ∙ ap (holding b) read) ∙ ap (holds (b ∷ value)) long
byte_read b more value len false special printable read =
    let other = or_parts (b == quote) (b == backslash) special in
    let held : string_byte false b ≡ Held = rw (other.0, other.1, printable) refl in
    let long : suc len ≡ 1 + len = omega arith in
    by_byte_is false b more Held held ∙ ap (holding b) read ∙ ap (holds (b ∷ value)) long

string_read : (bytes rest : List ℕ) → AllByRecursion (λ b. is_printable b ≡ true) bytes →
    quoted_behind false (flat_map escaped bytes ++ quote ∷ rest) ≡ holds bytes (length (flat_map escaped bytes ++ quote ∷ []))
string_read [] rest all = by_byte_is false quote rest Closing refl
string_read (b ∷ bs) rest all =
    let long : length (escaped b) + length (flat_map escaped bs ++ quote ∷ []) ≡ length (flat_map escaped (b ∷ bs) ++ quote ∷ []) =
    sym (ap (λ l. length l) (append_assoc (escaped b) (flat_map escaped bs) (quote ∷ [])) ∙ length-append (escaped b) (flat_map escaped bs ++ quote ∷ [])) in
    ap (quoted_behind false) (append_assoc (escaped b) (flat_map escaped bs) (quote ∷ rest))
    ∙ byte_read b (flat_map escaped bs ++ quote ∷ rest) bs _ (b == quote || b == backslash) refl all.0 (string_read bs rest all.1)
    ∙ ap (holds (b ∷ bs)) long

string_front : (bytes rest : List ℕ) → IsText bytes → front (string_text bytes ++ rest) ≡ begins (k.Text bytes) (length (string_text bytes))
unfolding front quoted
string_front bytes rest h =
    let long : length (flat_map escaped bytes ++ quote ∷ []) + 1 ≡ length (string_text bytes) = omega arith in
    let read = ap (quoted_behind false) (append_assoc (flat_map escaped bytes) (quote ∷ []) rest) ∙ string_read bytes rest h.printable in
    ap (λ string. text_front (short string)) read ∙ ap text_front (cond-true _ _ _ (le-leb (length bytes) TEXT_BYTES h.short))
    ∙ ap (begins (k.Text bytes)) long

pub string_cut : (bytes : List ℕ) → IsText bytes → Cuts Any (string_text bytes) (λ us. k.Text bytes ∷ us)
string_cut bytes h = record { same = λ rest any. front_cut quote (flat_map escaped bytes ++ quote ∷ []) rest (k.Text bytes) (string_front bytes rest h) }
