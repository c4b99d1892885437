-- What learning a node's answer leaves.
use Rattle.std.proofs.Common.{List, [], ap, arith, refl, sym, subst, inl, inr, slice_get, suc, zero, length, Some, insert, ◌∷◌, ◌≡◌, ◌∙◌, ◌≤◌, ℕ}
use Rattle.vx_lists.specs.Members.{IsIn}
use Rattle.vx_lists.proofs.Places.{in_at}
use Rattle.vx_node.specs.declared.node.NodeId.{NodeId}
use Rattle.vx_node.specs.declared.answer.Answer.{Answer}
use Rattle.vx_node.specs.declared.trace.Step.{Step}
use Rattle.vx_node.specs.Traces.{nodes, Answers, Agrees}
use Rattle.vx_node.specs.Asking.{gives, ask, Gives, Reaches}
use Rattle.vx_node.specs.Askers.{Manner, Tells, Stays, Adds}
use Rattle.vx_node.proofs.Leaving.{as_it_is}
use Rattle.vx_node.proofs.Placing.{in_placed, placed_in, still_in}
use Rattle.vx_node.proofs.Reached.{node_in, in_node}

pub nothing_new : {S : Type 0} (manner : Manner S) (state : S) (steps : List Step) → Adds manner state steps state steps
nothing_new manner state steps = record {
  stays = as_it_is manner state;
  kept = λ step i. i;
  agrees = λ answer t agrees. agrees;
}

-- whoever agrees with a step of the node gives its value
gives_value : (node : NodeId) (step : Step) (steps : List Step) → IsIn step steps → step.node ≡ node → (answer : Answers) → Agrees answer steps → answer node ≡ step.value
gives_value node step steps i e answer agrees = ap answer (sym e) ∙ agrees step i

pub known : (node : NodeId) (place : ℕ) (step : Step) (steps : List Step) → slice_get steps place ≡ Some step → step.node ≡ node →
    Reaches steps steps (ask node) (gives step.value)
known node place step steps at e =
    let there : IsIn step steps = in_at steps place step at in
    record {
      way = node ∷ [];
      comes = λ answer agrees. ap Gives (gives_value node step steps there e answer agrees);
      asks = λ answer agrees. refl;
      answered = λ own i. elim i [ inl same ↦ subst (λ n. IsIn n (nodes steps)) (e ∙ same) (node_in step steps there) | inr none ↦ absurd none ];
      nothing_else = λ own i. inl i;
      kept = λ own i. i;
    }

-- a step that was not there
pub put : (node : NodeId) (value : Answer) (place : ℕ) (before after : List Step) → after ≡ insert before place (record { node = node; value = value }) →
    Reaches before after (ask node) (gives value)
put node value place before after is =
    let step : Step = record { node = node; value = value } in
    let all : List Step = insert before place step in
    let there : IsIn step all = placed_in place before step in
    let reaches : Reaches before all (ask node) (gives value) = record {
      way = node ∷ [];
      comes = λ answer agrees. ap Gives (agrees step there);
      asks = λ answer agrees. refl;
      answered = λ own i. elim i [ inl same ↦ subst (λ n. IsIn n (nodes all)) same (node_in step all there) | inr none ↦ absurd none ];
      nothing_else = λ own i.
          let r = in_node own all i in
          elim (in_placed place before step r.0 r.1) [
            | inl same ↦ inr (inl (sym (ap (λ s. s.node) same) ∙ r.2))
            | inr j ↦ inl (subst (λ n. IsIn n (nodes before)) r.2 (node_in r.0 before j))
          ];
      kept = λ own i. still_in place before step own i;
    } in
    subst (λ steps. Reaches before steps (ask node) (gives value)) (sym is) reaches

inserted_at : (place : ℕ) (before : List Step) (step : Step) → place ≤ length before → slice_get (insert before place step) place ≡ Some step
inserted_at zero [] step within = refl
inserted_at zero (one ∷ before) step within = refl
inserted_at (suc place) [] step within = absurd (omega (arith, within))
inserted_at (suc place) (one ∷ before) step within = inserted_at place before step (omega (arith, within))

pub put_at : (node : NodeId) (value : Answer) (place : ℕ) (before after : List Step) → after ≡ insert before place (record { node = node; value = value }) →
    place ≤ length before → slice_get after place ≡ Some (record { node = node; value = value })
put_at node value place before after is within = ap (λ steps. slice_get steps place) is ∙ inserted_at place before (record { node = node; value = value }) within

pub adds : {S : Type 0} (manner : Manner S) (old new : S) (node : NodeId) (value : Answer) (place : ℕ) (before after : List Step) →
    after ≡ insert before place (record { node = node; value = value }) → Stays manner old new → ((answer : Answers) → Tells manner new answer → answer node ≡ value) →
    Adds manner old before new after
adds manner old new node value place before after is stays right =
    let step : Step = record { node = node; value = value } in
    let all : List Step = insert before place step in
    let agrees : (answer : Answers) → Tells manner new answer → Agrees answer before → Agrees answer all =
    λ answer told agreed own i. elim (in_placed place before step own i) [
      | inl same ↦ ap (λ s. answer s.node) same ∙ right answer told ∙ ap (λ s. s.value) (sym same)
      | inr j ↦ agreed own j
    ] in
    let result : Adds manner old before new all = record { stays = stays; kept = λ own i. still_in place before step own i; agrees = agrees } in
    subst (λ steps. Adds manner old before new steps) (sym is) result
