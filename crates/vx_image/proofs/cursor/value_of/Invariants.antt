use Rattle.std.proofs.Common.{◌≡◌, ◌<◌, ◌^◌, take}
use Rattle.vx_format.specs.Numbers.{number_of}
use Rattle.vx_image.proofs.cursor.value_of.Given as goal

abbrev pub invariant-loop-b : goal.invariant-loop-b
invariant-loop-b l = record { value : l.n ≡ number_of (take l.b-index l.bytes); below : l.n < 256 ^ l.b-index }
