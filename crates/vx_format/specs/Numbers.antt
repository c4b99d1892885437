-- Numbers and texts as bytes.
use Rattle.std.specs.Prelude.{ℕ, zero, suc, ◌+◌, ◌*◌, ◌/◌, ◌%◌, ◌^◌, ℤ, pos, negsuc, Bool, true, ◌&&◌, List, [], ◌∷◌, ◌++◌, length, nat_lt}
use Rattle.std.specs.Int.{w128, cast_unsigned}

-- numbers below 256; that they are is said where it matters
abbrev pub Bytes : Type 0
Bytes = List ℕ

-- a number in so many bytes, the greatest part first
unfoldable pub number : ℕ → ℕ → Bytes
number zero n = []
number (suc k) n = n / 256 ^ k ∷ number k (n % 256 ^ k)

-- the number that bytes stand for
unfoldable pub number_of : Bytes → ℕ
number_of [] = 0
number_of (b ∷ bytes) = b * 256 ^ length bytes + number_of bytes

-- the number has so many bytes
abbrev pub is_number : ℕ → ℕ → Bool
is_number width n = nat_lt n (256 ^ width)

-- a whole number of 128 bits, one of them for the sign
abbrev pub integer : ℤ → Bytes
integer z = number 16 (cast_unsigned w128 z)

-- the whole number has 16 bytes
abbrev pub is_integer : ℤ → Bool
is_integer (pos n) = nat_lt n (2 ^ 127)
is_integer (negsuc n) = nat_lt n (2 ^ 127)

-- parts, one after another
abbrev pub text : List Bytes → Bytes
text [] = []
text (part ∷ rest) = part ++ text rest

-- each of the tests is true
abbrev pub all : List Bool → Bool
all [] = true
all (b ∷ rest) = b && all rest

-- the bytes of each, one after another
abbrev pub each : {A : Type 0} → (A → Bytes) → List A → Bytes
each spell [] = []
each spell (x ∷ rest) = spell x ++ each spell rest

-- each fits, at its number
abbrev pub every : {A : Type 0} → (ℕ → A → Bool) → ℕ → List A → Bool
every fits first [] = true
every fits first (x ∷ rest) = fits first x && every fits (suc first) rest

-- each fits, at the depth that those before it made
abbrev pub follow : {A : Type 0} → (ℕ → A → Bool) → (ℕ → A → ℕ) → ℕ → List A → Bool
follow fits grown depth [] = true
follow fits grown depth (x ∷ rest) = fits depth x && follow fits grown (grown depth x) rest
