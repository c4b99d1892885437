-- The calls of a source or a sink over memory: which of them fail, and how many were made.
use Rattle.std.specs.Prelude.{ℕ, List, Contains}

-- the numbers of the calls that fail, counted from 0, and how many calls were made and failed. The
-- number of a call is how many were made before it, up to the greatest number of a `u64`
pub record CallLog : Type 0 where
  pub failing : List ℕ
  pub made : ℕ
  pub failed : ℕ

-- no call was made yet
abbrev pub no_calls : List ℕ → CallLog
no_calls failing = record { failing = failing; made = 0; failed = 0 }

-- the number of the next call is listed
abbrev pub FailsNext : CallLog → Type 0
FailsNext log = Contains log.failing log.made
