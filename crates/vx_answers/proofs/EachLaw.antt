-- Questions about each of a list.
use Rattle.std.proofs.Common.{List, [], ap, refl, sym, inl, inr, subst, map, append_assoc, ◌∷◌, ◌++◌, ◌≡◌, ◌∙◌}
use Rattle.vx_lists.specs.Members.{IsIn}
use Rattle.vx_lists.proofs.Members.{in_front, in_behind, in_either}
use Rattle.vx_node.specs.declared.node.NodeId.{NodeId}
use Rattle.vx_node.specs.Traces.{Answers}
use Rattle.vx_node.specs.Asking.{Asking, outcome, asked, each, Gives}
use Rattle.vx_node.proofs.SameAnswers.{followed_outcome, followed_asked}

-- where each comes to a value, what goes on has the values
pub each_outcome : {X A B : Type 0} (question : X → Asking A) (answer : Answers) (value : X → A) → ((x : X) → outcome (question x) answer ≡ Gives (value x)) →
    (xs : List X) (go : List A → Asking B) → outcome (each question xs go) answer ≡ outcome (go (map value xs)) answer
each_outcome question answer value comes [] go = refl
each_outcome question answer value comes (x ∷ xs) go =
    followed_outcome (question x) (λ own. each question xs (λ owns. go (own ∷ owns))) answer (value x) (comes x)
    ∙ each_outcome question answer value comes xs (λ owns. go (value x ∷ owns))

-- what is asked about each
abbrev pub about_all : {X : Type 0} → (X → List NodeId) → List X → List NodeId
about_all nodes [] = []
about_all nodes (x ∷ xs) = nodes x ++ about_all nodes xs

pub each_asked : {X A B : Type 0} (question : X → Asking A) (answer : Answers) (value : X → A) → ((x : X) → outcome (question x) answer ≡ Gives (value x)) →
    (xs : List X) (go : List A → Asking B) →
    asked (each question xs go) answer ≡ about_all (λ x. asked (question x) answer) xs ++ asked (go (map value xs)) answer
each_asked question answer value comes [] go = refl
each_asked question answer value comes (x ∷ xs) go =
    followed_asked (question x) (λ own. each question xs (λ owns. go (own ∷ owns))) answer (value x) (comes x)
    ∙ ap (λ rest. asked (question x) answer ++ rest) (each_asked question answer value comes xs (λ owns. go (value x ∷ owns)))
    ∙ sym (append_assoc (asked (question x) answer) (about_all (λ y. asked (question y) answer) xs) (asked (go (value x ∷ map value xs)) answer))

pub about_one : {X : Type 0} (nodes : X → List NodeId) (xs : List X) (subject : NodeId) → IsIn subject (about_all nodes xs) →
    (x : X) × IsIn x xs × IsIn subject (nodes x)
about_one nodes [] subject i = absurd i
about_one nodes (x ∷ xs) subject i =
    elim (in_either subject (nodes x) (about_all nodes xs) i) [
      | inl j ↦ (x, inl refl, j)
      | inr j ↦ let r = about_one nodes xs subject j in (r.0, inr r.1, r.2)
    ]

pub one_about : {X : Type 0} (nodes : X → List NodeId) (xs : List X) (x : X) (subject : NodeId) → IsIn x xs → IsIn subject (nodes x) →
    IsIn subject (about_all nodes xs)
one_about nodes [] x subject i j = absurd i
one_about nodes (y ∷ ys) x subject (inl e) j = in_front subject (nodes y) (about_all nodes ys) (subst (λ z. IsIn subject (nodes z)) (sym e) j)
one_about nodes (y ∷ ys) x subject (inr i) j = in_behind subject (nodes y) (about_all nodes ys) (one_about nodes ys x subject i j)
