use Rattle.std.proofs.Common.{◌≡◌, ℕ, ◌-◌, ◌<◌, ◌≤◌, length, Some}
use Rattle.std.specs.Prelude.{slice_get}
use Rattle.vx_format.specs.declared.image.ClassMask.{ClassMask}
use Rattle.vx_machine.proofs.masks.mask_of.Given as goal

abbrev pub invariant-loop-low : goal.invariant-loop-low
invariant-loop-low l = record {
  within : l.high ≤ length l.entries;
  below : (j : ℕ) (a : ClassMask) → j < l.low → slice_get l.entries j ≡ Some a → a.symbol < l.class;
  above : (j : ℕ) (a : ClassMask) → l.high ≤ j → slice_get l.entries j ≡ Some a → l.class < a.symbol;
}

abbrev pub decreases-loop-low : goal.decreases-loop-low
decreases-loop-low l = l.high - l.low
