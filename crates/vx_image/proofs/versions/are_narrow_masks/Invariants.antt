use Rattle.std.proofs.Common.{◌≡◌, drop}
use Rattle.std.specs.List.{list_all}
use Rattle.vx_image.specs.Narrow.{is_narrow_mask}
use Rattle.vx_image.proofs.versions.are_narrow_masks.Given as goal

abbrev pub invariant-loop-mask : goal.invariant-loop-mask
invariant-loop-mask l = list_all (λ m. is_narrow_mask m.mask) l.masks ≡ list_all (λ m. is_narrow_mask m.mask) (drop l.mask-index l.masks)
