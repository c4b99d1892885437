use Rattle.std.proofs.Common.{◌≡◌, ◌-◌}
use Rattle.vx_format.specs.Reading.{listed}
use Rattle.vx_image.proofs.Lists.{with_front}
use Rattle.vx_image.proofs.part.list_at.Given as goal

abbrev pub invariant-loop-i : goal.invariant-loop-i
invariant-loop-i g l = with_front l.parts (listed (l.count - l.i) l.i (g.P.Part.read l.context) l.at) ≡ listed l.count 0
    (g.P.Part.read l.context) l.fn.at
