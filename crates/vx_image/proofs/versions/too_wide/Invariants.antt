use Rattle.std.proofs.Common.{◌≡◌, not, drop}
use Rattle.std.specs.List.{position_from}
use Rattle.vx_image.specs.Narrow.{is_narrow}
use Rattle.vx_image.proofs.versions.too_wide.Given as goal

abbrev pub invariant-loop-i : goal.invariant-loop-i
invariant-loop-i l = position_from (λ t. not (is_narrow t)) 0 l.tables ≡ position_from (λ t. not (is_narrow t)) l.i (drop l.i l.tables)
