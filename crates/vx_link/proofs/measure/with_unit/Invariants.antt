use Rattle.std.proofs.Common.{◌≡◌, ◌+◌, ◌≤◌, min, drop}
use Rattle.vx_link.specs.Link.{limit}
use Rattle.vx_link.specs.Walks.{unit_size}
use Rattle.vx_link.proofs.measure.with_unit.Given as goal

abbrev pub invariant-loop-piece : goal.invariant-loop-piece
invariant-loop-piece l = (l.size ≤ limit) × (min (l.size + unit_size (drop l.piece-index l.unit)) limit ≡ min (l.fn.before + unit_size l.unit) limit)
