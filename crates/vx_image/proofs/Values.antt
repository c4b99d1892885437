-- A number that is made byte by byte.
use Rattle.std.proofs.Common.{◌≡◌, ℕ, suc, ◌+◌, ◌*◌, ◌^◌, ◌<◌, ◌≤◌, List, [], ◌∷◌, ◌++◌, length, get_or, take, refl, arith, length-append}
use Rattle.std.proofs.lemmas.List.{take_more}
use Rattle.std.proofs.Math.Nat.{pow-suc, pow-le-pow_right}
use Rattle.vx_format.specs.Numbers.{number_of}

number_of-snoc : (a : List ℕ) (b : ℕ) → number_of (a ++ b ∷ []) ≡ number_of a * 256 + b
unfolding number_of
number_of-snoc [] b = omega arith
number_of-snoc (x ∷ a) b =
    let e = number_of-snoc a b in
    let len : length (a ++ b ∷ []) ≡ suc (length a) = omega (arith, length-append a (b ∷ [])) in
    let p = pow-suc 256 (length a) in
    rw (len, p, e) (grind arith)

pub one_more : (bytes : List ℕ) (i n : ℕ) → i < length bytes → n ≡ number_of (take i bytes)
    → n * 256 + get_or bytes i 0 ≡ number_of (take (i + 1) bytes)
one_more bytes i n lt e = rw (take_more bytes i 0 lt, number_of-snoc (take i bytes) (get_or bytes i 0), e) refl

pub more_fits : (i n b : ℕ) → n < 256 ^ i → b < 256 → n * 256 + b < 256 ^ (i + 1)
more_fits i n b lt small = let p = pow-suc 256 i in let e : i + 1 ≡ suc i = omega arith in rw (e, p) (omega (arith))

pub fits : (i n len : ℕ) → n < 256 ^ i → i < len → len ≤ 16 → n * 256 + 255 < 2 ^ 128
fits i n len lt within most =
    let big : 256 ^ i ≤ 256 ^ 15 = pow-le-pow_right {n = 256} (omega arith) {i = i} {j = 15} (omega arith) in
    omega (arith, big)
