use Rattle.std.proofs.Common.{◌≡◌, ◌-◌, ◌+◌, ◌≤◌}
use Rattle.vx_format.specs.Reading.{until}
use Rattle.vx_image.proofs.Lists.{with_front}
use Rattle.vx_image.proofs.part.until_at.Given as goal

abbrev pub invariant-loop : goal.invariant-loop
invariant-loop g l = record {
  left : with_front l.pieces (until (l.count - l.counter) (l.fn.at.place + l.count)
      (g.P.Piece.read l.context (l.fn.at.place + l.count)) g.P.Piece.grown l.depth l.at)
      ≡ until l.count (l.fn.at.place + l.count) (g.P.Piece.read l.context (l.fn.at.place + l.count)) g.P.Piece.grown 0 l.fn.at;
  shallow : l.depth ≤ l.counter;
}
