-- How far bytes are searched for an end line, and what the search finds.
use Rattle.std.specs.Prelude.{◌≡◌, ◌≢◌, ℕ, ◌<◌, ◌≤◌, true, false, List, ◌∷◌, ◌++◌, length, take, drop, slice_index}
use Rattle.vx_blocks.specs.Blocks.{blocks, onto_first_block, has_end_line}
use Rattle.vx_blocks.specs.declared.lines.Search.{Search}
use Rattle.vx_blocks.specs.declared.lines.Search.TheVariants.{Found, Missing}

-- Whole lines, none of which ends a block. So they are the front of the first block, whatever comes behind them.
pub record IsFront (front : List ℕ) : Type 0 where
  pub joins : (more : List ℕ) → 0 < length (front ++ more) → blocks (front ++ more) ≡ onto_first_block front (blocks more)
  pub ends : (more : List ℕ) → has_end_line (front ++ more) ≡ has_end_line more

-- A line begins at `line`, those before it end no block, and it doesn't end before `searched`.
pub record IsSearched (bytes : List ℕ) (line searched : ℕ) : Type 0 where
  pub in_order : line ≤ searched
  pub within : searched ≤ length bytes
  pub front : IsFront (take line bytes)
  pub unbroken : (k : ℕ) → line ≤ k → k < searched → slice_index bytes k ≢ 10

-- The line from `line` to `end` is the first end line, whatever comes behind the bytes.
pub record IsFirstEnd (bytes : List ℕ) (line end : ℕ) : Type 0 where
  pub in_order : line < end
  pub within : end ≤ length bytes
  pub some : has_end_line bytes ≡ true
  pub cuts : (more : List ℕ) → blocks (bytes ++ more) ≡ take line bytes ∷ blocks (drop end bytes ++ more)

-- what the search found
abbrev pub IsFound : List ℕ → Search → Type 0
IsFound bytes (Found line end) = IsFirstEnd bytes line end
IsFound bytes (Missing line) = (has_end_line bytes ≡ false) × IsSearched bytes line (length bytes)
