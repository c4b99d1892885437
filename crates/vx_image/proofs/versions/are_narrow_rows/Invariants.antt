use Rattle.std.proofs.Common.{◌≡◌, drop}
use Rattle.std.specs.List.{list_all}
use Rattle.vx_image.specs.Narrow.{is_narrow_mask}
use Rattle.vx_image.proofs.versions.are_narrow_rows.Given as goal

abbrev pub invariant-loop-row : goal.invariant-loop-row
invariant-loop-row l = list_all (λ r. is_narrow_mask r.beats) l.rows ≡ list_all (λ r. is_narrow_mask r.beats) (drop l.row-index l.rows)
