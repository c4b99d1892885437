-- The bytes of numbers.
use Rattle.std.proofs.Common.{◌≡◌, ◌/◌, ◌%◌, ◌^◌, ◌<◌, ◌∷◌, ℕ, [], refl, arith}
use Rattle.std.specs.Int.{bytes_high_first}
use Rattle.vx_format.specs.Numbers.{number}
use Rattle.vx_format.specs.declared.image.Version.TheVariants.{Two}
use Rattle.vx_format.specs.Layout.{version_byte}

pub four_bytes : (n : ℕ) → n < 2 ^ 32 → bytes_high_first 4 n ≡ number 4 n
unfolding number
four_bytes n small =
    let first : n / 16777216 % 256 ≡ n / 16777216 = omega arith in
    let second : n / 65536 % 256 ≡ n % 16777216 / 65536 = omega arith in
    let third : n / 256 % 256 ≡ n % 16777216 % 65536 / 256 = omega arith in
    let fourth : n % 256 ≡ n % 16777216 % 65536 % 256 / 1 = omega arith in
    cc

pub version_two : number 1 (version_byte Two) ≡ 2 ∷ []
unfolding number
version_two = refl
