-- What callers see of a source over a reader of std.
use Rattle.std.specs.Prelude.{ℕ, Bool}

-- the reader, how many reads failed, and whether the last one answered `End`
pub record ReaderState (R : Type 0) : Type 0 where
  pub reader : R
  pub faults : ℕ
  pub has_ended : Bool
