-- A node's row is that of its pass, with the value wrapped.
use Rattle.std.proofs.Common.{List, sym, subst, ◌≡◌}
use Rattle.vx_node.specs.declared.answer.Answer.{Answer}
use Rattle.vx_node.specs.declared.trace.Step.{Step}
use Rattle.vx_node.specs.declared.asker.Halt.{Halt}
use Rattle.vx_node.specs.Asking.{Asking, gives}
use Rattle.vx_node.specs.Askers.{Manner, Goes, Stops}
use Rattle.vx_node.proofs.Leaving.{goes_within, stops_within}
use Rattle.vx_answers.specs.Answers.{as_answer}

pub wrapped : {S A : Type 0} {manner : Manner S} {old new : S} {before after : List Step} {q : Asking A} {value : A}
    (whole : Asking Answer) (wrap : A → Answer) → whole ≡ as_answer wrap q → Goes manner q (gives value) old before new after →
    Goes manner whole (gives (wrap value)) old before new after
wrapped {manner = manner} {old = old} {new = new} {before = before} {after = after} {value = value} whole wrap is goes =
    subst (λ q. Goes manner q (gives (wrap value)) old before new after) (sym is) (goes_within (λ value. gives (wrap value)) goes)

pub wrapped_stops : {S A : Type 0} {manner : Manner S} {old new : S} {before after : List Step} {q : Asking A}
    {halt : Halt} (whole : Asking Answer) (wrap : A → Answer) → whole ≡ as_answer wrap q → Stops manner q halt old before new after →
    Stops manner whole halt old before new after
wrapped_stops {manner = manner} {old = old} {new = new} {before = before} {after = after} {halt = halt} whole wrap is stopped =
    subst (λ q. Stops manner q halt old before new after) (sym is) (stops_within (λ value. gives (wrap value)) stopped)
