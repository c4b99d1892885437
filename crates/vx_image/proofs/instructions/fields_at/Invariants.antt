use Rattle.std.proofs.Common.{◌≡◌, ◌-◌}
use Rattle.vx_format.specs.Reading.{listed}
use Rattle.vx_format.specs.Format.{a_symbol}
use Rattle.vx_image.proofs.Lists.{with_front}
use Rattle.vx_image.proofs.instructions.fields_at.Given as goal

abbrev pub invariant-loop-i : goal.invariant-loop-i
invariant-loop-i l = with_front l.fields (listed (l.count - l.i) l.i (λ i. a_symbol l.bound) l.at) ≡ listed l.count 0 (λ i. a_symbol l.bound) l.fn.at
