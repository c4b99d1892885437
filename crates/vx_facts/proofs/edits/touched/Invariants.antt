use Rattle.std.proofs.Common.{take}
use Rattle.vx_facts.proofs.Heard.{Heard}
use Rattle.vx_facts.proofs.edits.touched.Given as goal

abbrev pub invariant-loop-change : goal.invariant-loop-change
invariant-loop-change l = Heard l.before l.after (take l.change-index l.change-items) l.facts.items
