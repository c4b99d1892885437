-- What a write took, and what a sink holds after several.
use Rattle.std.specs.Prelude.{◌≡◌, ℕ, ◌<◌, List, ◌++◌, length, ⊤, Option, Some}
use Rattle.vx_io.specs.declared.sink.Put.{Put}
use Rattle.vx_io.specs.declared.sink.Put.TheVariants.{Took, Failed}

-- where the write took n bytes, P of n
abbrev pub IfTook : Put → (ℕ → Type 0) → Type 0
IfTook (Took n) P = P n
IfTook Failed P = ⊤

-- the sink grew by a front of the bytes, and some of the bytes are left
pub record AppendsPart (before : List ℕ) (after : Option (List ℕ)) (bytes : List ℕ) : Type 0 where
  pub part : List ℕ
  pub rest : List ℕ
  pub parts : part ++ rest ≡ bytes
  pub some_left : 0 < length rest
  pub grown : after ≡ Some (before ++ part)
