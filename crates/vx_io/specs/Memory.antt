-- What callers see of a source and of a sink over memory.
use Rattle.std.specs.Prelude.{ℕ, Bool, List, ◌-◌, length}
use Rattle.vx_io.specs.Calls.{CallLog}

-- the bytes left, the most bytes of a call, the calls, and whether the last read answered `End`
pub record SourceState : Type 0 where
  pub left : List ℕ
  pub most : ℕ
  pub calls : CallLog
  pub has_ended : Bool

-- the bytes taken, the most bytes that there is memory for, the most bytes of a call, and the calls
pub record SinkState : Type 0 where
  pub taken : List ℕ
  pub room : ℕ
  pub most : ℕ
  pub calls : CallLog

-- how many bytes there is still memory for
abbrev pub room_left : SinkState → ℕ
room_left sink = sink.room - length sink.taken
