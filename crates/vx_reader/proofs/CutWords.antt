-- Words, numbers and strings are cut into their tokens.
use Rattle.std.proofs.Common.{◌≡◌, ℕ, ℤ, zero, suc, pos, negsuc, ◌==◌, ◌+◌, ◌<◌, ◌≤◌, ◌^◌, min, true, false, List, [], ◌∷◌, ◌++◌, length, refl, sym, ap, ◌∙◌, arith}
use Rattle.std.proofs.lemmas.Bool.{cond-true, le-leb, leb-false, ne_eqb, or_parts}
use Rattle.std.proofs.lemmas.Bool.Decides.{nat_tests}
use Rattle.std.proofs.lemmas.Fmt.{decimal_by_steps_wide, decimal_is_IsNumeral_wide}
use Rattle.std.specs.Char.{is_ascii_digit}
use Rattle.std.specs.Fmt.{decimal, signed_decimal}
use Rattle.std.specs.List.{AllByRecursion}
use Rattle.std.specs.Str.Parse.{digits_value}
use Rattle.vx_names.specs.Bytes.{is_letter, is_word_byte}
use Rattle.vx_names.specs.Name.{IsIdentifier}
use Rattle.vx_names.specs.declared.operator.Operator.TheVariants as o
use Rattle.vx_names.specs.declared.name.TheConstants.{NAME_BYTES}
use Rattle.vx_syntax.specs.declared.token.Token.{Token}
use Rattle.vx_syntax.specs.declared.token.Token.TheVariants as k
use Rattle.vx_syntax.specs.Words.{IsWord}
use Rattle.vx_syntax.specs.PrintedTokens.{printed_number}
use Rattle.vx_syntax.specs.Written.{IsLiteral}
use Rattle.vx_reader.specs.Bytes.{is_white}
use Rattle.vx_reader.specs.Tokens.{spelled, word, number, begins, front}
use Rattle.vx_reader.proofs.Runs.{Stops, run_is}
use Rattle.vx_reader.proofs.Fronts.{word_begins, number_begins}
use Rattle.vx_reader.proofs.Numbers.{in_range}
use Rattle.vx_reader.proofs.Cuts.{cut, Ends, Cuts, behind, front_cut}
use Rattle.vx_reader.proofs.CutSigns.{EndsOperator, operator_cut}

-- words
letter_high : (b : ℕ) → is_letter b ≡ true → 65 ≤ b
letter_high b letter = grind (arith, nat_tests)

not_white : (b : ℕ) → 48 ≤ b → is_white b ≡ false
not_white b high =
    let tab : (b == 9) ≡ false = ne_eqb b 9 (λ e. omega arith) in
    let feed : (b == 10) ≡ false = ne_eqb b 10 (λ e. omega arith) in
    let return : (b == 13) ≡ false = ne_eqb b 13 (λ e. omega arith) in
    let space : (b == 32) ≡ false = ne_eqb b 32 (λ e. omega arith) in
    rw (tab, feed, return, space) refl

identifier_front : (b : ℕ) (bs rest : List ℕ) → IsIdentifier (b ∷ bs) → Ends rest → front ((b ∷ bs) ++ rest) ≡ begins (word (b ∷ bs)) (length (b ∷ bs))
identifier_front b bs rest h ends =
    let first : is_word_byte b ≡ true = rw h.0 refl in
    sym (word_begins ((b ∷ bs) ++ rest) _ (omega arith) (not_white b (omega (arith, letter_high b h.0))) h.0
    (sym (ap (λ run. begins (word run) (length run)) (run_is is_word_byte (b ∷ bs) rest (first, h.1) ends))))

word_is : (x : List ℕ) → IsWord x → word x ≡ k.Word x
word_is x h = ap (λ reserved. spelled reserved x) h.free ∙ cond-true _ _ _ (le-leb (length x) NAME_BYTES h.short)

identifier_same : (x rest : List ℕ) (token : Token) → IsIdentifier x → word x ≡ token → Ends rest → cut zero (x ++ rest) ≡ token ∷ cut zero rest
identifier_same [] rest token h is ends = absurd h
identifier_same (b ∷ bs) rest token h is ends =
    front_cut b bs rest token (identifier_front b bs rest h ends ∙ ap (λ t. begins t (length (b ∷ bs))) is)

pub identifier_cut : (x : List ℕ) (token : Token) → IsIdentifier x → word x ≡ token → Cuts Ends x (λ us. token ∷ us)
identifier_cut x token h is = record { same = λ rest ends. identifier_same x rest token h is ends }

pub word_cut : (x : List ℕ) → IsWord x → Cuts Ends x (λ us. k.Word x ∷ us)
word_cut x h = identifier_cut x (k.Word x) h.identifier (word_is x h)

-- numbers
not_letter : (b : ℕ) → 48 ≤ b → b ≤ 57 → is_letter b ≡ false
not_letter b low high = grind (arith, nat_tests)

digit_ends : (rest : List ℕ) → Ends rest → Stops is_ascii_digit rest
digit_ends [] ends = tt
digit_ends (b ∷ bs) ends = (or_parts (is_letter b) (is_ascii_digit b) ends).1

is_digit : (d : ℕ) → d < 10 → is_ascii_digit (48 + d) ≡ true
is_digit d low = grind (arith, nat_tests)

abbrev AreDigits : List ℕ → Type 0
AreDigits ds = AllByRecursion (λ d. is_ascii_digit d ≡ true) ds

digit_last : (ds : List ℕ) (d : ℕ) → d < 10 → AreDigits ds → AreDigits (ds ++ (48 + d) ∷ [])
digit_last [] d low all = (is_digit d low, tt)
digit_last (c ∷ ds) d low all = (all.0, digit_last ds d low all.1)

decimal_digits : (n : ℕ) → n < 10 ^ 64 → AreDigits (decimal n)
decimal_digits n small =
    decimal_by_steps_wide (λ n ds. AreDigits ds) (λ n low. (is_digit n low, tt))
    (λ n ds high all. digit_last ds _ (omega arith) all) n small

digits_front : (d : ℕ) (ds rest : List ℕ) → AreDigits (d ∷ ds) → Ends rest →
    front ((d ∷ ds) ++ rest) ≡ begins (k.Number (number (d ∷ ds))) (length (d ∷ ds))
digits_front d ds rest all ends =
    let range = in_range d all.0 in
    sym (number_begins ((d ∷ ds) ++ rest) _ (omega arith) (not_white d range.0) (not_letter d range.0 range.1) all.0
    (sym (ap (λ run. begins (k.Number (number run)) (length run)) (run_is is_ascii_digit (d ∷ ds) rest all (digit_ends rest ends)))))

number_same : (ds : List ℕ) (n : ℕ) (rest : List ℕ) → 0 < length ds → AreDigits ds → digits_value 10 ds ≡ n → n < 2 ^ 127 → Ends rest →
    cut zero (ds ++ rest) ≡ k.Number n ∷ cut zero rest
number_same [] n rest some all value small ends = absurd (omega arith)
number_same (d ∷ ds) n rest some all value small ends =
    let is : number (d ∷ ds) ≡ n = ap (λ v. min v (2 ^ 127)) value ∙ omega arith in
    front_cut d ds rest (k.Number n) (digits_front d ds rest all ends ∙ ap (λ v. begins (k.Number v) (length (d ∷ ds))) is)

number_cut : (n : ℕ) → n < 2 ^ 127 → Cuts Ends (decimal n) (λ us. k.Number n ∷ us)
number_cut n small =
    let short : n < 10 ^ 64 = omega arith in
    let numeral = decimal_is_IsNumeral_wide n short in
    record { same = λ rest ends. number_same (decimal n) n rest numeral.0.0 (decimal_digits n short) numeral.1 small ends }

-- a digit ends an operator
digits_behind : (ds rest : List ℕ) → 0 < length ds → AreDigits ds → EndsOperator (ds ++ rest)
digits_behind [] rest some all = absurd (omega arith)
digits_behind (d ∷ ds) rest some all =
    let range = in_range d all.0 in
    (ne_eqb d 43 (λ e. omega (arith, range.0)), ne_eqb d 45 (λ e. omega (arith, range.0)), ne_eqb d 61 (λ e. omega (arith, range.1)))

pub literal_cut : (n : ℤ) → IsLiteral n → Cuts Ends (signed_decimal n) (printed_number n)
literal_cut (pos n) small = number_cut n (leb-false (2 ^ 127) n small)
literal_cut (negsuc n) small =
    let low : suc n < 2 ^ 127 = leb-false (2 ^ 127) (suc n) small in
    let short : suc n < 10 ^ 64 = omega arith in
    behind (operator_cut o.Minus) (number_cut (suc n) low)
    (λ rest ends. digits_behind (decimal (suc n)) rest (decimal_is_IsNumeral_wide (suc n) short).0.0 (decimal_digits (suc n) short))
