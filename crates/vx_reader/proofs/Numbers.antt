-- Numbers that are kept up to a cap.
use Rattle.std.proofs.Common.{◌≡◌, ℕ, ◌+◌, ◌-◌, ◌*◌, ◌<◌, ◌≤◌, min, true, List, length, take, get_or, arith}
use Rattle.std.proofs.lemmas.Bool.Decides.{nat_tests}
use Rattle.std.proofs.lemmas.Int.Digits.{digits_value_more}
use Rattle.std.proofs.lemmas.Str.{digit_value_digit}
use Rattle.std.specs.Char.{is_ascii_digit, digit_value}
use Rattle.std.specs.Str.Parse.{digits_value}

-- a cap on the digits before is none on what is above it
capped : (n d cap : ℕ) → min (min n cap * 10 + d) cap ≡ min (n * 10 + d) cap
capped n d cap = omega arith

digit_is : (d : ℕ) → 48 ≤ d → d ≤ 57 → digit_value d ≡ d - 48
digit_is d low high = let e = digit_value_digit d (low, high) in omega (arith, e)

pub in_range : (d : ℕ) → is_ascii_digit d ≡ true → (48 ≤ d) × (d ≤ 57)
in_range d e = (grind (arith, nat_tests), grind (arith, nat_tests))

-- one more digit
pub one_digit_more : (digits : List ℕ) (i before number cap : ℕ) → i < length digits → is_ascii_digit (get_or digits i 0) ≡ true →
    before ≡ min (digits_value 10 (take i digits)) cap → number ≡ min (before * 10 + (get_or digits i 0 - 48)) cap → number ≡ min (digits_value 10 (take (i + 1) digits)) cap
one_digit_more digits i before number cap within is e f =
    let range = in_range (get_or digits i 0) is in
    rw (digits_value_more 10 digits i within, digit_is (get_or digits i 0) range.0 range.1, f, e) (capped (digits_value 10 (take i digits)) (get_or digits i 0 - 48) cap)
