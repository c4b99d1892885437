use Rattle.std.proofs.Common.{◌≡◌, ◌++◌, ℕ, drop, length}
use Rattle.vx_machine.specs.Meaning.{captured_of, prefixed}
use Rattle.vx_machine.specs.Sound.{AreLocalsSound}
use Rattle.vx_machine.proofs.closures.capture.Given as goal

abbrev pub invariant-loop-x : goal.invariant-loop-x
invariant-loop-x l = record {
  added : l.captured.items ≡ l.initial.captured.items ++ drop (length l.initial.captured.items) l.captured.items;
  left : captured_of l.xs l.activations.running.locals
      ≡ prefixed (drop (length l.initial.captured.items) l.captured.items) (captured_of (drop l.x-index l.xs) l.activations.running.locals);
  sound : (texts : ℕ) → AreLocalsSound texts l.activations.running.locals → AreLocalsSound texts l.initial.captured.items
      → AreLocalsSound texts l.captured.items;
}
