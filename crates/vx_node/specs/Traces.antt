-- What was asked and answered.
use Rattle.std.specs.Prelude.{◌≡◌, List, [], ◌∷◌}
use Rattle.std.specs.declared.cmp.Ordering.TheVariants.{Less}
use Rattle.vx_lists.specs.Members.{IsIn}
use Rattle.vx_node.specs.declared.node.NodeId.{NodeId}
use Rattle.vx_node.specs.declared.answer.Answer.{Answer}
use Rattle.vx_node.specs.declared.trace.Step.{Step}
use Rattle.vx_node.specs.Nodes.{node_cmp}

-- the nodes of the steps
abbrev pub nodes : List Step → List NodeId
nodes [] = []
nodes (step ∷ steps) = step.node ∷ nodes steps

-- each node goes before the next
abbrev pub IsTrace : List Step → Type 0
IsTrace [] = Unit {0}
IsTrace (a ∷ []) = Unit {0}
IsTrace (a ∷ b ∷ rest) = (node_cmp a.node b.node ≡ Less) × IsTrace (b ∷ rest)

-- What each node is answered with: by a program, or by whoever else answers.
abbrev pub Answers : Type 0
Answers = NodeId → Answer

-- Each of the steps has the answer that is given to its node.
abbrev pub Agrees : Answers → List Step → Type 0
Agrees answer steps = (step : Step) → IsIn step steps → answer step.node ≡ step.value
