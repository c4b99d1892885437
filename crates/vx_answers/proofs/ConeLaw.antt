-- The law of the objects below: what a program answers, and what it reads for that.
use Rattle.std.proofs.Common.{List, ap, sym, inl, refl, subst, arith, ◌≡◌, ◌∙◌, ◌⊎◌, append-nil}
use Rattle.vx_lists.specs.Members.{IsIn}
use Rattle.vx_syntax.specs.declared.decl.Decl.{Decl}
use Rattle.vx_syntax.specs.Expressions.{Bytes}
use Rattle.vx_program.specs.Program.{IsProgram}
use Rattle.vx_node.specs.declared.node.NodeId.{NodeId}
use Rattle.vx_node.specs.declared.node.NodeId.TheVariants as node
use Rattle.vx_node.specs.declared.node.Fact.TheVariants as fact
use Rattle.vx_node.specs.declared.node.Filter.TheVariants as filter
use Rattle.vx_node.specs.declared.answer.Answer.TheVariants as answers
use Rattle.vx_node.specs.Asking.{gives, outcome, asked, Gives}
use Rattle.vx_node.proofs.SameAnswers.{followed_outcome, followed_asked}
use Rattle.vx_model.specs.Order.{cone}
use Rattle.vx_answers.specs.OrderRows.{cone_row}
use Rattle.vx_answers.specs.Answers.{row, ans, reads, value_of}
use Rattle.vx_answers.proofs.ByRow.{by_row, facts_are}
use Rattle.vx_answers.proofs.RowsBelow.{row_below}
use Rattle.vx_answers.proofs.ConeIs.{GivesChildren, cone_value, cone_reads, cone_reads_all}

pub gives_children : (program : List Decl) → GivesChildren program (ans program)
gives_children program = record { stands = λ x. facts_are program (fact.There x); children = λ x. facts_are program (fact.Children x) }

pub cone_outcome : (program : List Decl) → IsProgram program → (x : Bytes) →
    outcome (row (node.Filter (filter.Cone x))) (ans program) ≡ Gives (answers.Cone (cone program x))
cone_outcome program is x =
    followed_outcome (cone_row x) (λ value. gives (answers.Cone value)) (ans program) (cone program x)
    (cone_value program is (ans program) (gives_children program) x)

pub cone_answer : (program : List Decl) → IsProgram program → (x : Bytes) → ans program (node.Filter (filter.Cone x)) ≡ answers.Cone (cone program x)
cone_answer program is x =
    by_row program (node.Filter (filter.Cone x)) 0 refl (omega arith) (row_below (node.Filter (filter.Cone x)) tt) ∙ ap value_of (cone_outcome program is x)

same_asked : (program : List Decl) → IsProgram program → (x : Bytes) → reads program (node.Filter (filter.Cone x)) ≡ asked (cone_row x) (ans program)
same_asked program is x =
    followed_asked (cone_row x) (λ value. gives (answers.Cone value)) (ans program) (cone program x)
    (cone_value program is (ans program) (gives_children program) x)
    ∙ append-nil (asked (cone_row x) (ans program))

pub cone_is_read : (program : List Decl) → IsProgram program → (x : Bytes) (subject : NodeId) → IsIn subject (reads program (node.Filter (filter.Cone x))) →
    (subject ≡ node.Fact (fact.There x)) ⊎ ((y : Bytes) × IsIn y (cone program x) × (subject ≡ node.Fact (fact.Children y)))
cone_is_read program is x subject i = cone_reads program is (ans program) (gives_children program) x subject (subst (IsIn subject) (same_asked program is x) i)

pub cone_reads_stands : (program : List Decl) → IsProgram program → (x : Bytes) → IsIn (node.Fact (fact.There x)) (reads program (node.Filter (filter.Cone x)))
cone_reads_stands program is x = subst (IsIn (node.Fact (fact.There x))) (sym (same_asked program is x)) (inl refl)

pub cone_reads_each : (program : List Decl) → IsProgram program → (x y : Bytes) → IsIn y (cone program x) →
    IsIn (node.Fact (fact.Children y)) (reads program (node.Filter (filter.Cone x)))
cone_reads_each program is x y i =
    subst (IsIn (node.Fact (fact.Children y))) (sym (same_asked program is x)) (cone_reads_all program is (ans program) (gives_children program) x y i)
