use Rattle.std.proofs.Common.{◌≡◌, ◌++◌, ℕ, drop}
use Rattle.std.specs.List.{AllByRecursion}
use Rattle.vx_places.specs.ImageMachine.{placed}
use Rattle.vx_machine.specs.Meaning.{Texts, things_of}
use Rattle.vx_machine.specs.Sound.{IsObjectSound}
use Rattle.vx_machine.proofs.opening.objects.Given as goal

abbrev pub invariant-loop-i : goal.invariant-loop-i
invariant-loop-i l = ((texts : Texts) → things_of texts l.objects.items ++ placed l.own l.i (drop l.i l.shapes) ≡ placed l.own 0 l.shapes)
    × ((texts : ℕ) → AllByRecursion (IsObjectSound texts) l.objects.items)
