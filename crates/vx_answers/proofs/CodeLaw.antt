-- The law of codes: what is asked for them, and what comes of it.
use Rattle.std.proofs.Common.{List, ap, refl, arith, ◌≡◌, ◌∙◌, append-nil}
use Rattle.vx_names.specs.declared.key.MethodKey.{MethodKey}
use Rattle.vx_syntax.specs.declared.decl.Decl.{Decl}
use Rattle.vx_node.specs.declared.node.NodeId.TheVariants as node
use Rattle.vx_node.specs.declared.node.Target.TheVariants as target
use Rattle.vx_node.specs.declared.node.Variant.{Variant}
use Rattle.vx_node.specs.declared.answer.Answer.TheVariants as answers
use Rattle.vx_node.specs.Traces.{Answers}
use Rattle.vx_node.specs.Asking.{gives, outcome, asked, Gives}
use Rattle.vx_node.proofs.SameAnswers.{followed_outcome, followed_asked}
use Rattle.vx_compilation.specs.Readings.{told}
use Rattle.vx_compilation.specs.Resolved.{tree}
use Rattle.vx_compilation.specs.TreeAsking.{ask_tree}
use Rattle.vx_units.specs.CodeUnit.{code_unit}
use Rattle.vx_answers.specs.UnitRows.{code_row}
use Rattle.vx_answers.specs.Answers.{row, ans, value_of, CodesAreAsked}
use Rattle.vx_compilation.proofs.TreeCourses.{tree_asks}
use Rattle.vx_answers.proofs.RowsBelow.{row_below}
use Rattle.vx_answers.proofs.ByRow.{by_row}

code_gives : (answer : Answers) (key : MethodKey) (variant : Variant) →
    outcome (code_row key variant) answer ≡ Gives (code_unit (tree (told answer) key variant))
code_gives answer key variant =
    followed_outcome (ask_tree key variant) (λ own. gives (code_unit own)) answer (tree (told answer) key variant) (tree_asks answer key variant)

code_asks : (answer : Answers) (key : MethodKey) (variant : Variant) → asked (code_row key variant) answer ≡ asked (ask_tree key variant) answer
code_asks answer key variant =
    followed_asked (ask_tree key variant) (λ own. gives (code_unit own)) answer (tree (told answer) key variant) (tree_asks answer key variant)
    ∙ append-nil (asked (ask_tree key variant) answer)

pub code_outcome : (program : List Decl) (key : MethodKey) (variant : Variant) →
    outcome (row (node.Target (target.Code key variant))) (ans program) ≡ Gives (answers.Unit (code_unit (tree (told (ans program)) key variant)))
code_outcome program key variant =
    followed_outcome (code_row key variant) (λ value. gives (answers.Unit value)) (ans program) (code_unit (tree (told (ans program)) key variant))
    (code_gives (ans program) key variant)

pub codes_are_asked : CodesAreAsked
codes_are_asked = record {
  gives = code_gives;
  asks = code_asks;
  answer = λ program key variant.
      by_row program (node.Target (target.Code key variant)) 3 refl (omega arith) (row_below (node.Target (target.Code key variant)) tt) ∙
      ap value_of (code_outcome program key variant);
  read = λ program key variant.
      followed_asked (code_row key variant) (λ value. gives (answers.Unit value)) (ans program) (code_unit (tree (told (ans program)) key variant))
      (code_gives (ans program) key variant)
      ∙ append-nil (asked (code_row key variant) (ans program)) ∙ code_asks (ans program) key variant;
}
