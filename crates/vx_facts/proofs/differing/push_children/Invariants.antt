use Rattle.std.proofs.Common.{◌≡◌, ◌++◌, drop}
use Rattle.vx_facts.specs.Differences.{children_alone}
use Rattle.vx_facts.proofs.differing.push_children.Given as goal

abbrev pub invariant-loop-parent : goal.invariant-loop-parent
invariant-loop-parent l = l.facts.items ++ children_alone (drop l.parent-index l.parents) l.others ≡ l.initial.facts.items ++ children_alone l.parents l.others
