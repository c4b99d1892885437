use Rattle.std.proofs.Common.{◌≡◌, ◌<◌, ℕ, take}
use Rattle.std.specs.List.{list_all}
use Rattle.vx_tables.specs.Masks.{has}
use Rattle.vx_tables.proofs.picking.in_all.Given as goal

abbrev pub invariant-loop-mask : goal.invariant-loop-mask
invariant-loop-mask l = (i : ℕ) → i < 128 → has l.left i ≡ list_all (λ mask. has mask i) (take l.mask-index l.masks)
