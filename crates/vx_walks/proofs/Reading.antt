-- One answer as a pass reads it.
use Rattle.std.proofs.Common.{◌≡◌, ◌∙◌, List, ap, subst, sym}
use Rattle.vx_node.specs.declared.node.NodeId.{NodeId}
use Rattle.vx_node.specs.declared.answer.Answer.{Answer}
use Rattle.vx_node.specs.declared.trace.Step.{Step}
use Rattle.vx_node.specs.declared.asker.Halt.{Halt}
use Rattle.vx_node.specs.Asking.{Asking, gives, asks, ask}
use Rattle.vx_node.specs.Askers.{Manner, Goes, Stops}
use Rattle.vx_node.proofs.Leaving.{goes_within, stops_within}

-- a question with its answer read in one way
abbrev pub read_as : {V : Type 0} → NodeId → (Answer → V) → Asking V
read_as node reading = asks node (λ answer. gives (reading answer))

pub is_read : {S V : Type 0} {manner : Manner S} {old new : S} {before after : List Step} (node own_node : NodeId) (reading : Answer → V)
    (value own : Answer) (result : V) → own_node ≡ node → Goes manner (ask own_node) (gives value) old before new after → own ≡ value →
    result ≡ reading own → Goes manner (read_as node reading) (gives result) old before new after
is_read {manner = manner} {old = old} {new = new} {before = before} {after = after} node own_node reading value own result at goes same is =
    subst (λ n. Goes manner (read_as n reading) (gives result) old before new after) at
    (subst (λ v. Goes manner (read_as own_node reading) (gives v) old before new after) (ap reading (sym same) ∙ sym is)
    (goes_within (λ answer. gives (reading answer)) goes))

pub is_not_read : {S V : Type 0} {manner : Manner S} {old new : S} {before after : List Step} {halt : Halt} (node own_node : NodeId)
    (reading : Answer → V) → own_node ≡ node → Stops manner (ask own_node) halt old before new after →
    Stops manner (read_as node reading) halt old before new after
is_not_read {manner = manner} {old = old} {new = new} {before = before} {after = after} {halt = halt} node own_node reading at stopped =
    subst (λ n. Stops manner (read_as n reading) halt old before new after) at (stops_within (λ answer. gives (reading answer)) stopped)
