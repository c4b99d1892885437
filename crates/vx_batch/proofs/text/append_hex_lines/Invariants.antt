use Rattle.std.proofs.Common.{◌≡◌, ◌++◌}
use Rattle.std.specs.Slice.Iter.{chunks_rest, chunks_size}
use Rattle.vx_batch.specs.Text.{hex_lines}
use Rattle.vx_batch.proofs.text.append_hex_lines.Given as goal

-- what is written, with the lines of what is left, makes the whole
abbrev pub invariant-loop-piece : goal.invariant-loop-piece
invariant-loop-piece l = record {
  size : chunks_size l.piece-iterator ≡ 32;
  text : l.text.items ++ hex_lines (chunks_rest l.piece-iterator) ≡ l.initial.text.items ++ hex_lines l.bytes;
}
