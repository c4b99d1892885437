-- A closure that is reached has a body within the limit.
use Rattle.std.proofs.Common.{subst}
use Rattle.vx_meaning.specs.States.{IsReachedWithin}
use Rattle.vx_meaning.proofs.acts.act.Goals as goal

pub returns-in-Closure-clause-within : goal.returns-in-Closure-clause-within
returns-in-Closure-clause-within c =
    λ limit all. (all, subst (IsReachedWithin limit) c.in-Closure.is (c.in_ok-held-in-Evaluates.ensures.within limit all))

pub returns-in-Closure-2-clause-within : goal.returns-in-Closure-2-clause-within
returns-in-Closure-2-clause-within c =
    λ limit all. (all, subst (IsReachedWithin limit) c.in-Closure-2.is (c.in_ok-held-in-Repeats.ensures.within limit all))
