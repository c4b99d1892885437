-- What a read gave.
use Rattle.std.specs.Prelude.{ℕ, ⊤}
use Rattle.vx_io.specs.declared.source.Got.{Got}
use Rattle.vx_io.specs.declared.source.Got.TheVariants.{Bytes, End, Failed}

-- where the read gave n bytes, P of n
abbrev pub IfBytes : Got → (ℕ → Type 0) → Type 0
IfBytes (Bytes n) P = P n
IfBytes End P = ⊤
IfBytes Failed P = ⊤

-- where the read gave no byte, P
abbrev pub OnNoBytes : Got → Type 0 → Type 0
OnNoBytes (Bytes n) P = ⊤
OnNoBytes End P = P
OnNoBytes Failed P = P
