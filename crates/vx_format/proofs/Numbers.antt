-- Numbers as bytes, and back.
use Rattle.std.proofs.Common.{◌≡◌, ℕ, zero, suc, ◌+◌, ◌*◌, ◌/◌, ◌%◌, ◌^◌, ◌-◌, ◌<◌, ◌≤◌, true, false, ltb, [], ◌∷◌, length, refl, ap, inl, inr, arith}
use Rattle.std.specs.Prelude.{ℤ, pos, negsuc}
use Rattle.std.specs.Int.{w128, cast_unsigned, cast_signed}
use Rattle.std.proofs.lemmas.Bool.{ltb-true, lt-ltb, le-ltb, cases_lt}
use Rattle.std.proofs.lemmas.Int.{of_z-to_z}
use Rattle.std.proofs.lemmas.Nat.{div-mul-add, mod-mul-add, div-add-mod', mod_below, mul-le}
use Rattle.std.proofs.Math.Nat.{pow-suc}
use Rattle.vx_format.specs.Numbers.{Bytes, number, number_of, is_integer}
use Rattle.vx_format.proofs.Spelled.{AreBytes}

pub pow_above : (k : ℕ) → 0 < 256 ^ k
pow_above zero = omega arith
pow_above (suc k) = let h = pow_above k in let e = pow-suc 256 k in omega (arith, h, e)

pub length_number : (k n : ℕ) → length (number k n) ≡ k
unfolding number
length_number zero n = refl
length_number (suc k) n = ap suc (length_number k (n % 256 ^ k))

pub number_below : (bytes : Bytes) → AreBytes bytes → number_of bytes < 256 ^ length bytes
unfolding number_of
number_below [] h = omega arith
number_below (b ∷ bytes) h =
    let r = number_below bytes h.1 in
    let e = pow-suc 256 (length bytes) in
    let most : (b + 1) * 256 ^ length bytes ≤ 256 * 256 ^ length bytes =
    mul-le (b + 1) (256 ^ length bytes) 256 (256 ^ length bytes) (omega (arith, h.0)) (omega arith) in
    let parts : (b + 1) * 256 ^ length bytes ≡ b * 256 ^ length bytes + 256 ^ length bytes = grind arith in
    omega (arith, r, e, most, parts)

pub number_back : (bytes : Bytes) → AreBytes bytes → number (length bytes) (number_of bytes) ≡ bytes
unfolding number number_of
number_back [] h = refl
number_back (b ∷ bytes) h =
    let r = number_below bytes h.1 in
    let first : (b * 256 ^ length bytes + number_of bytes) / 256 ^ length bytes ≡ b = div-mul-add b (256 ^ length bytes) (number_of bytes) r in
    let rest : (b * 256 ^ length bytes + number_of bytes) % 256 ^ length bytes ≡ number_of bytes = mod-mul-add b (256 ^ length bytes) (number_of bytes) r in
    rw (first, rest) (ap (λ (s : Bytes). b ∷ s) (number_back bytes h.1))

pub number_again : (k n : ℕ) → n < 256 ^ k → number_of (number k n) ≡ n
unfolding number number_of
number_again zero n h = omega arith
number_again (suc k) n h =
    let r = number_again k (n % 256 ^ k) (mod_below n (256 ^ k) (pow_above k)) in
    rw (length_number k (n % 256 ^ k), r) (div-add-mod' n (256 ^ k))

-- ---- numbers with a sign

pub unsigned_fits : (z : ℤ) → is_integer z ≡ true → cast_unsigned w128 z < 256 ^ 16
unsigned_fits (pos n) h = omega (arith, ltb-true n (2 ^ 127) h)
unsigned_fits (negsuc n) h = omega (arith, ltb-true n (2 ^ 127) h)

pub signed_fits : (n : ℕ) → n < 256 ^ 16 → is_integer (cast_signed w128 n) ≡ true
signed_fits n h = elim (cases_lt n (2 ^ 127)) [
  | inl lt ↦ rw (lt-ltb n (2 ^ 127) lt) (lt-ltb n (2 ^ 127) lt)
  | inr le ↦ rw (le-ltb n (2 ^ 127) le) (lt-ltb (2 ^ 128 - suc n) (2 ^ 127) (omega arith))
]

pub signed_back : (n : ℕ) → n < 256 ^ 16 → cast_unsigned w128 (cast_signed w128 n) ≡ n
signed_back n h = of_z-to_z w128 n (omega arith)

pub signed_again : (z : ℤ) → is_integer z ≡ true → cast_signed w128 (cast_unsigned w128 z) ≡ z
signed_again (pos n) h = rw h refl
signed_again (negsuc n) h =
    let small = ltb-true n (2 ^ 127) h in
    let far : ltb (2 ^ 128 - suc n) (2 ^ 127) ≡ false = le-ltb _ _ (omega arith) in
    let back : 2 ^ 128 - suc (2 ^ 128 - suc n) ≡ n = omega arith in
    rw (far, back) refl
