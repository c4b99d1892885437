use Rattle.std.proofs.Common.{sym, subst, ◌≤◌}
use Rattle.vx_lists.proofs.Each.{all_at}
use Rattle.vx_syntax.specs.Counts.{size}
use Rattle.vx_model.specs.declared.value.Held.{Held}
use Rattle.vx_meaning.proofs.frames.reach.Goals as goal

pub returns-then-len-count-clause-within : goal.returns-then-len-count-clause-within
returns-then-len-count-clause-within c =
    λ limit all.
    subst (λ (held : Held). size held.body ≤ limit) (sym c.in_ok-copy-in-Some.ensures)
    (all_at (λ (held : Held). size held.body ≤ limit) c.args.memory.now.heap.closures c.args.place c.in-Some.held.now (sym c.in-Some.ensures.value) all)
