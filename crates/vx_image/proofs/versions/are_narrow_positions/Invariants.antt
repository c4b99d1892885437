use Rattle.std.proofs.Common.{◌≡◌, drop}
use Rattle.std.specs.List.{list_all}
use Rattle.vx_image.specs.Narrow.{is_narrow_position}
use Rattle.vx_image.proofs.versions.are_narrow_positions.Given as goal

abbrev pub invariant-loop-position : goal.invariant-loop-position
invariant-loop-position l = list_all is_narrow_position l.positions ≡ list_all is_narrow_position (drop l.position-index l.positions)
