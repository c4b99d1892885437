use Rattle.std.proofs.Common.{◌≡◌, ◌++◌, drop, map}
use Rattle.vx_compilation.specs.Cloning.{name_alone}
use Rattle.vx_clone.proofs.collecting.names_alone.Given as goal

abbrev pub invariant-loop-part : goal.invariant-loop-part
invariant-loop-part l = l.names ++ map name_alone (drop l.part-index l.parts) ≡ map name_alone l.parts
