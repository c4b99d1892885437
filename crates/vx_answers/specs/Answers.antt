-- What a program answers of each node, and which nodes it reads for that.
use Rattle.std.specs.Prelude.{◌≡◌, ◌<◌, ℕ, zero, suc, nat_le, List, [], if◌then◌else◌}
use Rattle.vx_lists.specs.Members.{IsIn}
use Rattle.vx_names.specs.declared.key.MethodKey.{MethodKey}
use Rattle.vx_syntax.specs.declared.decl.Decl.{Decl}
use Rattle.vx_program.specs.Program.{IsProgram}
use Rattle.vx_node.specs.declared.node.NodeId.{NodeId}
use Rattle.vx_node.specs.declared.node.NodeId.TheVariants as node
use Rattle.vx_node.specs.declared.node.Filter.{Filter}
use Rattle.vx_node.specs.declared.node.Filter.TheVariants as filters
use Rattle.vx_node.specs.declared.node.Target.{Target}
use Rattle.vx_node.specs.declared.node.Target.TheVariants as targets
use Rattle.vx_node.specs.declared.node.Variant.{Variant}
use Rattle.vx_node.specs.declared.answer.Answer.{Answer}
use Rattle.vx_node.specs.declared.answer.Answer.TheVariants as answers
use Rattle.vx_node.specs.declared.trace.Step.{Step}
use Rattle.vx_node.specs.Nodes.{rank}
use Rattle.vx_node.specs.Traces.{nodes, Answers, Agrees}
use Rattle.vx_node.specs.Asking.{Asking, gives, followed, Outcome, Gives, Mixes, outcome, asked}
use Rattle.vx_compilation.specs.Readings.{told}
use Rattle.vx_compilation.specs.Resolved.{tree}
use Rattle.vx_compilation.specs.TreeAsking.{ask_tree}
use Rattle.vx_units.specs.CodeUnit.{code_unit}
use Rattle.vx_answers.specs.Facts.{fact_of, text_of}
use Rattle.vx_answers.specs.OrderRows.{up_row, cone_row, base_row}
use Rattle.vx_answers.specs.FieldRows.{slots_row, field_row, shape_row}
use Rattle.vx_answers.specs.SendRows.{bind_row, inline_row, clones_row}
use Rattle.vx_answers.specs.UnitRows.{table_row, code_row}
use Rattle.vx_answers.specs.TestRows.{test_row}

-- a questioning whose value is wrapped
abbrev pub as_answer : {A : Type 0} → (A → Answer) → Asking A → Asking Answer
as_answer wrap question = followed question (λ value. gives (wrap value))

-- What is asked for a filter, and what comes of it.
abbrev pub filter_row : Filter → Asking Answer
filter_row (filters.Up x) = as_answer answers.Up (up_row x)
filter_row (filters.Cone x) = as_answer answers.Cone (cone_row x)
filter_row (filters.Base x) = as_answer answers.Base (base_row x)
filter_row (filters.Slots x) = as_answer answers.Slots (slots_row x)
filter_row (filters.Field class name) = as_answer answers.Field (field_row class name)
filter_row (filters.Inline key) = as_answer (λ own. answers.Inline (text_of own)) (inline_row key)
filter_row (filters.Bind selector infos below) = as_answer answers.Bind (bind_row selector infos below)
filter_row (filters.Clones key) = as_answer answers.Clones (clones_row key)

-- What is asked for a target, and what comes of it.
abbrev pub target_row : Target → Asking Answer
target_row (targets.Shape x) = as_answer answers.Unit (shape_row x)
target_row (targets.Test x) = as_answer answers.Unit (test_row x)
target_row (targets.Table selector) = as_answer answers.Unit (table_row selector)
target_row (targets.Code key variant) = as_answer answers.Unit (code_row key variant)

-- The row of a node. Facts are answered out of the program, so nothing is asked for them.
abbrev pub row : NodeId → Asking Answer
row (node.Fact fact) = gives (answers.Unit [])
row (node.Filter filter) = filter_row filter
row (node.Target target) = target_row target

-- what a questioning comes to, where it comes to an answer
abbrev pub value_of : Outcome Answer → Answer
value_of (Gives value) = value
value_of (Mixes at) = answers.Unit []

-- The answers of the nodes up to a rank: each is what the node's row comes to over the answers of lower ranks.
abbrev pub answers_to : List Decl → ℕ → Answers
answers_to program zero (node.Fact fact) = fact_of program fact
answers_to program zero (node.Filter filter) = answers.Unit []
answers_to program zero (node.Target target) = answers.Unit []
answers_to program (suc r) subject =
    if nat_le (rank subject) r then answers_to program r subject else value_of (outcome (row subject) (answers_to program r))

-- What a program answers.
unfoldable pub ans : List Decl → Answers
ans program = answers_to program 4

-- The nodes that a program reads for a node, as its row asks them.
abbrev pub reads : List Decl → NodeId → List NodeId
reads program subject = asked (row subject) (ans program)

-- the same nodes
abbrev pub SameNodes : List NodeId → List NodeId → Type 0
SameNodes first second = (one : NodeId) → (IsIn one first → IsIn one second) × (IsIn one second → IsIn one first)

-- A finding stands where its steps have lower ranks than its node, and each program that agrees with them answers the node with the value and reads
-- just their nodes for it.
pub record Stands (subject : NodeId) (trace : List Step) (value : Answer) : Type 0 where
  pub lower : (step : Step) → IsIn step trace → rank step.node < rank subject
  pub right : (program : List Decl) → IsProgram program → Agrees (ans program) trace → ans program subject ≡ value
  pub just : (program : List Decl) → IsProgram program → Agrees (ans program) trace → SameNodes (reads program subject) (nodes trace)

-- the nodes that are built of others, which facts are not
abbrev pub IsBuilt : NodeId → Type 0
IsBuilt (node.Fact fact) = ⊥
IsBuilt (node.Filter filter) = Unit {0}
IsBuilt (node.Target target) = Unit {0}

-- What is asked for a code comes to the unit of the tree that is defined over the same answers, asks what the tree asks, and never gives up. So it is
-- over any answers, and over those of a program.
pub record CodesAreAsked : Type 0 where
  pub gives : (answer : Answers) (key : MethodKey) (variant : Variant) →
      outcome (code_row key variant) answer ≡ Gives (code_unit (tree (told answer) key variant))
  pub asks : (answer : Answers) (key : MethodKey) (variant : Variant) → asked (code_row key variant) answer ≡ asked (ask_tree key variant) answer
  pub answer : (program : List Decl) (key : MethodKey) (variant : Variant) →
      ans program (node.Target (targets.Code key variant)) ≡ answers.Unit (code_unit (tree (told (ans program)) key variant))
  pub read : (program : List Decl) (key : MethodKey) (variant : Variant) →
      reads program (node.Target (targets.Code key variant)) ≡ asked (ask_tree key variant) (ans program)
