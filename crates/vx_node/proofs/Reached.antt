-- How far questionings have come.
use Rattle.std.proofs.Common.{List, [], ap, inl, inr, refl, sym, subst, ◌++◌, ◌∙◌, ◌∷◌, ◌≡◌, ◌⊎◌, append_assoc, append-nil}
use Rattle.vx_lists.specs.Members.{IsIn}
use Rattle.vx_lists.proofs.Members.{in_front, in_behind, in_either}
use Rattle.vx_node.specs.declared.node.NodeId.{NodeId}
use Rattle.vx_node.specs.declared.trace.Step.{Step}
use Rattle.vx_node.specs.Traces.{nodes, Answers, Agrees}
use Rattle.vx_node.specs.Asking.{Asking, gives, mixes, outcome, asked, followed, Reaches}
use Rattle.vx_node.proofs.SameAnswers.{followed_outcome, followed_asked, mixed_outcome, mixed_asked}

-- the node of a step stands among the nodes
pub node_in : (step : Step) (steps : List Step) → IsIn step steps → IsIn step.node (nodes steps)
node_in step [] i = absurd i
node_in step (one ∷ steps) (inl e) = inl (ap (λ s. s.node) e)
node_in step (one ∷ steps) (inr i) = inr (node_in step steps i)

pub in_node : (node : NodeId) (steps : List Step) → IsIn node (nodes steps) → (step : Step) × IsIn step steps × (step.node ≡ node)
in_node node [] i = absurd i
in_node node (one ∷ steps) (inl e) = (one, inl refl, e)
in_node node (one ∷ steps) (inr i) = let r = in_node node steps i in (r.0, inr r.1, r.2)

-- who agrees with all agrees with those of before
pub agrees_before : (answer : Answers) (before after : List Step) → ((step : Step) → IsIn step before → IsIn step after) → Agrees answer after → Agrees answer before
agrees_before answer before after kept agrees step i = agrees step (kept step i)

pub starts : {A : Type 0} (steps : List Step) (q : Asking A) → Reaches steps steps q q
starts steps q = record {
  way = [];
  comes = λ answer agrees. refl;
  asks = λ answer agrees. refl;
  answered = λ node i. absurd i;
  nothing_else = λ node i. inl i;
  kept = λ step i. i;
}

-- one stretch after another
pub later : {A : Type 0} {before now after : List Step} {whole middle left : Asking A} → Reaches before now whole middle → Reaches now after middle left →
    Reaches before after whole left
later {before = before} {now = now} {after = after} {whole = whole} {middle = middle} {left = left} so_far more =
    let comes : (answer : Answers) → Agrees answer after → outcome whole answer ≡ outcome left answer =
    λ answer agrees. so_far.comes answer (agrees_before answer now after more.kept agrees) ∙ more.comes answer agrees in
    let asks : (answer : Answers) → Agrees answer after → asked whole answer ≡ (so_far.way ++ more.way) ++ asked left answer =
    λ answer agrees. so_far.asks answer (agrees_before answer now after more.kept agrees)
    ∙ ap (λ nodes. so_far.way ++ nodes) (more.asks answer agrees) ∙ sym (append_assoc so_far.way more.way (asked left answer)) in
    let answered : (node : NodeId) → IsIn node (so_far.way ++ more.way) → IsIn node (nodes after) =
    λ node i. elim (in_either node so_far.way more.way i) [
      | inl j ↦
          let r = in_node node now (so_far.answered node j) in
          subst (λ n. IsIn n (nodes after)) r.2 (node_in r.0 after (more.kept r.0 r.1))
      | inr j ↦ more.answered node j
    ] in
    let nothing_else : (node : NodeId) → IsIn node (nodes after) → IsIn node (nodes before) ⊎ IsIn node (so_far.way ++ more.way) =
    λ node i. elim (more.nothing_else node i) [
      | inl j ↦ elim (so_far.nothing_else node j) [
        | inl k ↦ inl k
        | inr k ↦ inr (in_front node so_far.way more.way k)
      ]
      | inr j ↦ inr (in_behind node so_far.way more.way j)
    ] in
    record {
      way = so_far.way ++ more.way;
      comes = comes;
      asks = asks;
      answered = answered;
      nothing_else = nothing_else;
      kept = λ step i. more.kept step (so_far.kept step i);
    }

-- one questioning within another: what goes on from its value is left
pub within : {A B : Type 0} {before after : List Step} {q : Asking A} {value : A} (go : A → Asking B) → Reaches before after q (gives value) →
    Reaches before after (followed q go) (go value)
within {q = q} {value = value} go reaches = record {
  way = reaches.way;
  comes = λ answer agrees. followed_outcome q go answer value (reaches.comes answer agrees);
  asks = λ answer agrees. followed_asked q go answer value (reaches.comes answer agrees)
      ∙ ap (λ nodes. nodes ++ asked (go value) answer) (reaches.asks answer agrees ∙ append-nil reaches.way);
  answered = reaches.answered;
  nothing_else = reaches.nothing_else;
  kept = reaches.kept;
}

-- and where it gives up, so does what follows it
pub within_mixed : {A B : Type 0} {before after : List Step} {q : Asking A} {at : NodeId} (go : A → Asking B) → Reaches before after q (mixes at) →
    Reaches before after (followed q go) (mixes at)
within_mixed {q = q} {at = at} go reaches = record {
  way = reaches.way;
  comes = λ answer agrees. mixed_outcome q go answer at (reaches.comes answer agrees);
  asks = λ answer agrees. mixed_asked q go answer at (reaches.comes answer agrees) ∙ reaches.asks answer agrees;
  answered = reaches.answered;
  nothing_else = reaches.nothing_else;
  kept = reaches.kept;
}

-- steps that come later change nothing of what a questioning came to
pub still : {A : Type 0} {before after : List Step} {whole left : Asking A} (later : List Step) → ((step : Step) → IsIn step after → IsIn step later) →
    Reaches before after whole left → (answer : Answers) → Agrees answer later → outcome whole answer ≡ outcome left answer
still {after = after} later more reaches answer agrees = reaches.comes answer (agrees_before answer after later more agrees)
