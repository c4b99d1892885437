-- The row of each node asks nodes of lower ranks alone.
use Rattle.std.proofs.Common.{◌≡◌, ◌≤◌, ℕ, suc, arith}
use Rattle.vx_node.specs.declared.node.NodeId.{NodeId}
use Rattle.vx_node.specs.declared.node.NodeId.TheVariants as node
use Rattle.vx_node.specs.declared.node.Filter.{Filter}
use Rattle.vx_node.specs.declared.node.Filter.TheVariants as filters
use Rattle.vx_node.specs.declared.node.Target.{Target}
use Rattle.vx_node.specs.declared.node.Target.TheVariants as targets
use Rattle.vx_node.specs.declared.answer.Answer.{Answer}
use Rattle.vx_node.specs.declared.answer.Answer.TheVariants as answers
use Rattle.vx_node.specs.Nodes.{rank}
use Rattle.vx_node.specs.Asking.{Asking, gives}
use Rattle.vx_compilation.specs.TreeAsking.{ask_tree}
use Rattle.vx_answers.specs.Facts.{text_of}
use Rattle.vx_answers.specs.OrderRows.{up_row, cone_row, base_row}
use Rattle.vx_units.specs.ShapeUnit.{shape_unit}
use Rattle.vx_units.specs.CodeUnit.{code_unit}
use Rattle.vx_answers.specs.FieldRows.{slots_row, field_row, shape_row, slots_answered}
use Rattle.vx_answers.specs.SendRows.{bind_row, inline_row, clones_row}
use Rattle.vx_answers.specs.UnitRows.{table_row, code_row}
use Rattle.vx_answers.specs.TestRows.{test_row}
use Rattle.vx_answers.specs.Answers.{as_answer, row, IsBuilt}
use Rattle.vx_answers.proofs.Below.{AsksBelow, given, low, followed_below, up_below, cone_below, base_below, slots_below, field_below}
use Rattle.vx_answers.proofs.SendsBelow.{bind_below, inline_below, clones_below, table_below, test_below}
use Rattle.vx_answers.proofs.TreeBelow.{tree_below}

wrapped : {A : Type 0} (r : ℕ) (wrap : A → Answer) (question : Asking A) → AsksBelow r question → AsksBelow r (as_answer wrap question)
wrapped r wrap question below = followed_below r question (λ value. gives (wrap value)) below (λ value. given (wrap value))

filter_below : (filter : Filter) → AsksBelow (rank (node.Filter filter)) (row (node.Filter filter))
filter_below (filters.Up x) = wrapped 1 answers.Up (up_row x) (up_below x)
filter_below (filters.Cone x) = wrapped 1 answers.Cone (cone_row x) (cone_below x)
filter_below (filters.Base x) = wrapped 1 answers.Base (base_row x) (base_below x)
filter_below (filters.Slots x) = wrapped 1 answers.Slots (slots_row x) (slots_below x)
filter_below (filters.Field class name) = wrapped 1 answers.Field (field_row class name) (field_below class name)
filter_below (filters.Inline key) = wrapped 1 (λ own. answers.Inline (text_of own)) (inline_row key) (inline_below key)
filter_below (filters.Bind selector infos below) = wrapped 2 answers.Bind (bind_row selector infos below) (bind_below selector infos below)
filter_below (filters.Clones key) = wrapped 3 answers.Clones (clones_row key) (clones_below key)

target_below : (target : Target) → AsksBelow 4 (row (node.Target target))
target_below (targets.Shape x) =
    wrapped 4 answers.Unit (shape_row x)
    (low (node.Filter (filters.Slots x)) (λ answer. gives (shape_unit (slots_answered answer))) (omega arith)
    (λ answer. given (shape_unit (slots_answered answer))))
target_below (targets.Test x) = wrapped 4 answers.Unit (test_row x) (test_below x)
target_below (targets.Table selector) = wrapped 4 answers.Unit (table_row selector) (table_below selector)
target_below (targets.Code key variant) =
    wrapped 4 answers.Unit (code_row key variant)
    (followed_below 4 (ask_tree key variant) (λ tree. gives (code_unit tree)) (tree_below key variant) (λ tree. given (code_unit tree)))

pub row_below : (subject : NodeId) → IsBuilt subject → AsksBelow (rank subject) (row subject)
row_below (node.Fact fact) built = absurd built
row_below (node.Filter filter) built = filter_below filter
row_below (node.Target target) built = target_below target

-- the rank below that of a node that is built
filter_rank : (filter : Filter) → (r : ℕ) × (rank (node.Filter filter) ≡ suc r) × (r ≤ 3)
filter_rank (filters.Up x) = (0, omega arith, omega arith)
filter_rank (filters.Cone x) = (0, omega arith, omega arith)
filter_rank (filters.Base x) = (0, omega arith, omega arith)
filter_rank (filters.Slots x) = (0, omega arith, omega arith)
filter_rank (filters.Field class name) = (0, omega arith, omega arith)
filter_rank (filters.Inline key) = (0, omega arith, omega arith)
filter_rank (filters.Bind selector infos below) = (1, omega arith, omega arith)
filter_rank (filters.Clones key) = (2, omega arith, omega arith)

pub rank_below : (subject : NodeId) → IsBuilt subject → (r : ℕ) × (rank subject ≡ suc r) × (r ≤ 3)
rank_below (node.Fact fact) built = absurd built
rank_below (node.Filter filter) built = filter_rank filter
rank_below (node.Target target) built = (3, omega arith, omega arith)
