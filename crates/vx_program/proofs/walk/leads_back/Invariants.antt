use Rattle.std.proofs.Common.{◌+◌, map, length}
use Rattle.vx_program.proofs.Walks.{Walked, to_come}
use Rattle.vx_program.proofs.walk.leads_back.Given as goal

abbrev pub invariant-loop-name : goal.invariant-loop-name
invariant-loop-name l = Walked l.decls l.parents l.x (map (λ x. x.now) l.left.items) l.seen.items

abbrev pub decreases-loop-name : goal.decreases-loop-name
decreases-loop-name l = to_come l.decls l.seen.items + length l.left.items
