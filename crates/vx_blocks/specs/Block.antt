-- What a block says of its bytes.
use Rattle.std.specs.Prelude.{◌≡◌, ℕ, ◌<◌, ◌≤◌, List, length}
use Rattle.vx_blocks.specs.declared.block.Block.{Block}
use Rattle.vx_blocks.specs.declared.block.Block.TheVariants.{Whole, TooLong}
use Rattle.vx_blocks.specs.declared.block.TheConstants.{BLOCK_BYTES}

-- A block of at most `BLOCK_BYTES` bytes has them, and of a longer one there is their number.
abbrev pub IsBlock : Block → List ℕ → Type 0
IsBlock (Whole v) bytes = (v.items ≡ bytes) × (length bytes ≤ BLOCK_BYTES)
IsBlock (TooLong len) bytes = (len ≡ length bytes) × (BLOCK_BYTES < length bytes)
