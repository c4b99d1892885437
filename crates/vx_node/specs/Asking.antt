-- What a computation asks, and what it comes to. It is given answers and nothing else, so the answers that it has been given decide what it asks next.
use Rattle.std.specs.Prelude.{◌≡◌, ◌⊎◌, List, [], ◌∷◌, ◌++◌}
use Rattle.vx_lists.specs.Members.{IsIn}
use Rattle.vx_node.specs.declared.node.NodeId.{NodeId}
use Rattle.vx_node.specs.declared.answer.Answer.{Answer}
use Rattle.vx_node.specs.declared.trace.Step.{Step}
use Rattle.vx_node.specs.Traces.{nodes, Answers, Agrees}

-- A questioning has its value, or asks a node and goes on by the answer, or gives up at a node whose answer no program gives beside those before it.
pub data Asking (A : Type 0) : Type 0 where
  gives : (value : A) → Asking A
  mixes : (node : NodeId) → Asking A
  asks : (node : NodeId) (next : Answer → Asking A) → Asking A

-- What a questioning comes to.
pub data Outcome (A : Type 0) : Type 0 where
  Gives : (value : A) → Outcome A
  Mixes : (node : NodeId) → Outcome A

-- what it comes to where these answers are given
abbrev pub outcome : {A : Type 0} → Asking A → Answers → Outcome A
outcome (gives value) answer = Gives value
outcome (mixes node) answer = Mixes node
outcome (asks node next) answer = outcome (next (answer node)) answer

-- the nodes that it asks where these answers are given, as it asks them; one may be asked again
abbrev pub asked : {A : Type 0} → Asking A → Answers → List NodeId
asked (gives value) answer = []
asked (mixes node) answer = []
asked (asks node next) answer = node ∷ asked (next (answer node)) answer

-- one questioning, and another that goes on from its value
abbrev pub followed : {A B : Type 0} → Asking A → (A → Asking B) → Asking B
followed (gives value) go = go value
followed (mixes node) go = mixes node
followed (asks node next) go = asks node (λ answer. followed (next answer) go)

-- one node
abbrev pub ask : NodeId → Asking Answer
ask node = asks node gives

-- a question about each of a list, in order, and what goes on from the values
abbrev pub each : {X A B : Type 0} → (X → Asking A) → List X → (List A → Asking B) → Asking B
each question [] go = go []
each question (x ∷ xs) go = followed (question x) (λ value. each question xs (λ values. go (value ∷ values)))

-- the same answers to each node that both ask
abbrev pub SameAnswers : {A : Type 0} → Asking A → Answers → Answers → Type 0
SameAnswers question first second = (node : NodeId) → IsIn node (asked question first) → IsIn node (asked question second) → second node ≡ first node

-- What is left of a questioning once the steps that came have answered it: whoever agrees with them, it comes to what is left of it, and asks the
-- nodes on the way and those that what is left asks. On the way are those that came, and of those that were there none that it has not asked.
pub record Reaches {A : Type 0} (before after : List Step) (whole left : Asking A) : Type 0 where
  pub way : List NodeId
  pub comes : (answer : Answers) → Agrees answer after → outcome whole answer ≡ outcome left answer
  pub asks : (answer : Answers) → Agrees answer after → asked whole answer ≡ way ++ asked left answer
  pub answered : (node : NodeId) → IsIn node way → IsIn node (nodes after)
  pub nothing_else : (node : NodeId) → IsIn node (nodes after) → IsIn node (nodes before) ⊎ IsIn node way
  pub kept : (step : Step) → IsIn step before → IsIn step after
