use Rattle.std.proofs.Common.{◌≡◌, ◌++◌, drop}
use Rattle.vx_format.specs.Numbers.{each}
use Rattle.vx_link.specs.Link.{piece_bytes}
use Rattle.vx_link.proofs.linking.write_unit.Given as goal

abbrev pub invariant-loop-piece : goal.invariant-loop-piece
invariant-loop-piece l = l.out.items ++ each (piece_bytes l.roster) (drop l.piece-index l.unit) ≡ l.fn.out.items ++ each (piece_bytes l.roster) l.unit
