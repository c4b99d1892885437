use Rattle.std.proofs.Common.{◌≡◌, length}
use Rattle.vx_compilation.specs.Compiled.{sorted}
use Rattle.vx_facts.proofs.Sorting.{all_inserted}
use Rattle.vx_facts.proofs.methods.sorted.Given as goal

abbrev pub invariant-loop-key : goal.invariant-loop-key
invariant-loop-key l = all_inserted l.left l.found.items ≡ sorted l.fn.keys

abbrev pub decreases-loop-key : goal.decreases-loop-key
decreases-loop-key l = length l.left
