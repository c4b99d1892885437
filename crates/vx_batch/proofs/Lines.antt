-- Lines of hexadecimal, one at a time.
use Rattle.std.proofs.Common.{◌≡◌, ℕ, suc, ◌+◌, ◌<◌, min, List, ◌++◌, length, take, drop, codes, refl, sym, ◌∙◌, arith, length-append}
use Rattle.std.proofs.lemmas.List.{take_at, drop_at, take_min, drop_min}
use Rattle.hex.specs.Hex.{encode_lower}
use Rattle.vx_batch.specs.Text.{line, piece_count, hex_lines}

one_more_piece : (piece rest : ℕ) → piece ≡ min 32 (piece + rest) → 0 < piece + rest → piece_count (piece + rest) ≡ suc (piece_count rest)
one_more_piece piece rest e some = omega arith

pub first_line : (bytes piece rest : List ℕ) → bytes ≡ piece ++ rest → length piece ≡ min 32 (length bytes) → 0 < length bytes → hex_lines bytes ≡ line (codes ": " ++ encode_lower piece) ++ hex_lines rest
first_line bytes piece rest whole long some =
    let len : length bytes ≡ length piece + length rest = rw whole (length-append piece rest) in
    let front : take 32 bytes ≡ piece = sym (take_min 32 bytes) ∙ rw (← long, whole) (take_at piece rest (length piece) refl) in
    let behind : drop 32 bytes ≡ rest = sym (drop_min 32 bytes) ∙ rw (← long, whole) (drop_at piece rest (length piece) refl) in
    let count : piece_count (length bytes) ≡ suc (piece_count (length rest)) = rw len (one_more_piece (length piece) (length rest) (rw (← len) long) (omega arith)) in
    rw (count, front, behind) refl
