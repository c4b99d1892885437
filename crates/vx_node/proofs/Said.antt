-- What the steps of a trace say, as answers of all nodes.
use Rattle.std.proofs.Common.{List, [], ap, subst, true, false, inl, inr, ◌∷◌, ◌≡◌, ◌∙◌}
use Rattle.std.specs.Prelude.{if◌then◌else◌}
use Rattle.std.specs.Ordering.{is_eq}
use Rattle.std.proofs.lemmas.Bool.{cond-true, cond-false}
use Rattle.vx_node.specs.declared.node.NodeId.{NodeId}
use Rattle.vx_node.specs.declared.answer.Answer.TheVariants as answers
use Rattle.vx_node.specs.declared.trace.Step.{Step}
use Rattle.vx_node.specs.Nodes.{same_node}
use Rattle.vx_node.specs.Traces.{IsTrace, Answers, Agrees}
use Rattle.vx_node.proofs.Placing.{before_all, rest, tied}

abbrev pub said : List Step → Answers
said [] node = answers.Unit []
said (step ∷ steps) node = if same_node step.node node then step.value else said steps node

same_as_itself : (node : NodeId) → same_node node node ≡ true
same_as_itself node = ap is_eq (tied node)

pub said_agrees : (steps : List Step) → IsTrace steps → Agrees (said steps) steps
said_agrees [] trace step i = absurd i
said_agrees (one ∷ steps) trace step (inl e) =
    let same : same_node one.node step.node ≡ true = subst (λ s. same_node one.node s.node ≡ true) e (same_as_itself one.node) in
    cond-true (same_node one.node step.node) one.value (said steps step.node) same ∙ ap (λ s. s.value) e
said_agrees (one ∷ steps) trace step (inr i) =
    let apart : same_node one.node step.node ≡ false = ap is_eq (before_all one steps trace step i) in
    cond-false (same_node one.node step.node) one.value (said steps step.node) apart ∙ said_agrees steps (rest one steps trace) step i
