-- What callers see of a sink over a writer of std.
use Rattle.std.specs.Prelude.{ℕ}

-- the writer, and how many writes failed
pub record WriterState (W : Type 0) : Type 0 where
  pub writer : W
  pub faults : ℕ
