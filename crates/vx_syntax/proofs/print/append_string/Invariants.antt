use Rattle.std.proofs.Common.{◌≡◌, ◌++◌, drop}
use Rattle.std.specs.List.{flat_map}
use Rattle.vx_syntax.specs.Print.{escaped}
use Rattle.vx_syntax.proofs.print.append_string.Given as goal

abbrev pub invariant-loop-byte : goal.invariant-loop-byte
invariant-loop-byte l = l.text.items ++ flat_map escaped (drop l.byte-index l.bytes) ≡ l.initial.text.items ++ flat_map escaped l.bytes
