-- The bytes of numbers, and of lists.
use Rattle.std.proofs.Common.{◌≡◌, ℕ, zero, suc, ◌*◌, ◌/◌, ◌%◌, ◌^◌, ◌<◌, [], ◌∷◌, length, refl, sym, ap, ◌∙◌, arith}
use Rattle.std.specs.Int.{byte_at, bytes_high_first}
use Rattle.std.proofs.lemmas.Nat.{mod_below}
use Rattle.std.proofs.Math.Nat.{pow-suc, mod-eq_of_lt}
use Rattle.std.proofs.Math.Arith.{mod-mul}
use Rattle.vx_format.specs.Numbers.{number, number_of}
use Rattle.vx_format.specs.Laws.{AreBytes}
use Rattle.vx_format.proofs.Numbers.{pow_above, number_back}

byte_is : (k n : ℕ) → byte_at k n ≡ n / 256 ^ k % 256
byte_is zero n = omega arith
byte_is (suc k) n = refl

length_high : (k n : ℕ) → length (bytes_high_first k n) ≡ k
length_high zero n = refl
length_high (suc k) n = ap suc (length_high k n)

high_bytes : (k n : ℕ) → AreBytes (bytes_high_first k n)
high_bytes zero n = tt
high_bytes (suc k) n = (let e = byte_is k n in let below = mod_below (n / 256 ^ k) 256 (omega arith) in omega (arith, e, below), high_bytes k n)

high_value : (k n : ℕ) → number_of (bytes_high_first k n) ≡ n % 256 ^ k
unfolding number_of
high_value zero n = omega arith
high_value (suc k) n =
    let more = mod-mul n {m = 256} {c = 256 ^ k} (omega arith) (pow_above k) in
    let q = pow-suc 256 k in
    let power : 256 ^ suc k ≡ 256 * 256 ^ k = omega (arith, q) in
    rw (length_high k n, byte_is k n, high_value k n, power) (sym more)

-- a number that has so many bytes, as they are written
pub written : (k n : ℕ) → n < 256 ^ k → bytes_high_first k n ≡ number k n
written k n small =
    let whole : n % 256 ^ k ≡ n = mod-eq_of_lt small in
    sym (number_back (bytes_high_first k n) (high_bytes k n)) ∙ rw (length_high k n, high_value k n, whole) refl

pub one_byte : (n : ℕ) → n ∷ [] ≡ number 1 n
unfolding number
one_byte n = ap (λ (x : ℕ). x ∷ []) (omega arith)
