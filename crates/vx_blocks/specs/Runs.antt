-- What happens to a `Blocks` over a whole run.
use Rattle.std.specs.Prelude.{◌≡◌, ℕ, List, [], ◌∷◌, ◌++◌}
use Rattle.vx_blocks.specs.Blocks.{blocks}

-- However the input goes on, its first block is this one, and the others are those of what is left.
abbrev pub TakesBlock : List ℕ → List ℕ → List ℕ → Type 0
TakesBlock old block left = (more : List ℕ) → blocks (old ++ more) ≡ block ∷ blocks (left ++ more)

pub data Event : Type 0 where
  -- a piece is fed
  Fed : List ℕ → Event
  -- a block is taken
  Taken : List ℕ → Event

-- the pieces, joined
abbrev pub fed : List Event → List ℕ
fed [] = []
fed (Fed piece ∷ events) = piece ++ fed events
fed (Taken block ∷ events) = fed events

-- the blocks
abbrev pub taken : List Event → List (List ℕ)
taken [] = []
taken (Fed piece ∷ events) = taken events
taken (Taken block ∷ events) = block ∷ taken events

-- the events, one after another, lead from these bytes to what is left of them
abbrev pub IsRun : List ℕ → List Event → List ℕ → Type 0
IsRun bytes [] left = bytes ≡ left
IsRun bytes (Fed piece ∷ events) left = IsRun (bytes ++ piece) events left
IsRun bytes (Taken block ∷ events) left = (next : List ℕ) × TakesBlock bytes block next × IsRun next events left
