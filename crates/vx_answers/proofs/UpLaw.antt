-- The law of the names above: what a program answers, and what it reads for that.
use Rattle.std.proofs.Common.{List, ap, sym, refl, subst, ◌≡◌, ◌∙◌, ◌⊎◌, append-nil, arith}
use Rattle.vx_lists.specs.Members.{IsIn}
use Rattle.vx_syntax.specs.declared.decl.Decl.{Decl}
use Rattle.vx_syntax.specs.Expressions.{Bytes}
use Rattle.vx_program.specs.Program.{IsProgram}
use Rattle.vx_node.specs.declared.node.NodeId.{NodeId}
use Rattle.vx_node.specs.declared.node.NodeId.TheVariants as node
use Rattle.vx_node.specs.declared.node.Fact.TheVariants as fact
use Rattle.vx_node.specs.declared.node.Filter.TheVariants as filter
use Rattle.vx_node.specs.declared.answer.Answer.TheVariants as answers
use Rattle.vx_node.specs.Asking.{gives, outcome, asked, Gives}
use Rattle.vx_node.proofs.SameAnswers.{followed_outcome, followed_asked}
use Rattle.vx_model.specs.Order.{up}
use Rattle.vx_answers.specs.OrderRows.{up_row}
use Rattle.vx_answers.specs.Answers.{row, ans, reads, value_of}
use Rattle.vx_answers.proofs.ByRow.{by_row, facts_are}
use Rattle.vx_answers.proofs.RowsBelow.{row_below}
use Rattle.vx_answers.proofs.UpRow.{GivesDecls}
use Rattle.vx_answers.proofs.UpIs.{up_value, up_reads, up_reads_all}

pub gives_decls : (program : List Decl) → GivesDecls program (ans program)
gives_decls program x = facts_are program (fact.Decl x)

pub up_outcome : (program : List Decl) → IsProgram program → (x : Bytes) →
    outcome (row (node.Filter (filter.Up x))) (ans program) ≡ Gives (answers.Up (up program x))
up_outcome program is x = followed_outcome (up_row x) (λ value. gives (answers.Up value)) (ans program) (up program x)
    (up_value program is (ans program) (gives_decls program) x)

pub up_answer : (program : List Decl) → IsProgram program → (x : Bytes) → ans program (node.Filter (filter.Up x)) ≡ answers.Up (up program x)
up_answer program is x =
    by_row program (node.Filter (filter.Up x)) 0 refl (omega arith) (row_below (node.Filter (filter.Up x)) tt) ∙ ap value_of (up_outcome program is x)

same_asked : (program : List Decl) → IsProgram program → (x : Bytes) → reads program (node.Filter (filter.Up x)) ≡ asked (up_row x) (ans program)
same_asked program is x =
    followed_asked (up_row x) (λ value. gives (answers.Up value)) (ans program) (up program x) (up_value program is (ans program) (gives_decls program) x)
    ∙ append-nil (asked (up_row x) (ans program))

pub up_is_read : (program : List Decl) → IsProgram program → (x : Bytes) (subject : NodeId) → IsIn subject (reads program (node.Filter (filter.Up x))) →
    (y : Bytes) × ((y ≡ x) ⊎ IsIn y (up program x)) × (subject ≡ node.Fact (fact.Decl y))
up_is_read program is x subject i = up_reads program is (ans program) (gives_decls program) x subject (subst (IsIn subject) (same_asked program is x) i)

pub up_reads_each : (program : List Decl) → IsProgram program → (x y : Bytes) → (y ≡ x) ⊎ IsIn y (up program x) →
    IsIn (node.Fact (fact.Decl y)) (reads program (node.Filter (filter.Up x)))
up_reads_each program is x y which =
    subst (IsIn (node.Fact (fact.Decl y))) (sym (same_asked program is x)) (up_reads_all program is (ans program) (gives_decls program) x y which)
