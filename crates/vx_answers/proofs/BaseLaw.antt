-- The law of bases: what a program answers, and what it reads for that.
use Rattle.std.proofs.Common.{List, subst, sym, refl, ◌≡◌}
use Rattle.vx_lists.specs.Members.{IsIn}
use Rattle.vx_syntax.specs.declared.decl.Decl.{Decl}
use Rattle.vx_syntax.specs.Expressions.{Bytes}
use Rattle.vx_program.specs.Program.{IsProgram, Leads}
use Rattle.vx_node.specs.declared.node.NodeId.{NodeId}
use Rattle.vx_node.specs.declared.node.NodeId.TheVariants as node
use Rattle.vx_node.specs.declared.node.Fact.TheVariants as fact
use Rattle.vx_node.specs.declared.node.Filter.TheVariants as filter
use Rattle.vx_node.specs.declared.answer.Answer.TheVariants as answers
use Rattle.vx_model.specs.Order.{base, first_parents}
use Rattle.vx_answers.specs.OrderRows.{base_row}
use Rattle.vx_answers.specs.Answers.{ans, reads}
use Rattle.vx_answers.proofs.UpLaw.{gives_decls}
use Rattle.vx_answers.proofs.BaseIs.{ChainEnded, base_ends}
use Rattle.vx_answers.proofs.RowLaw.{RowIs, row_is}

ended : (program : List Decl) → IsProgram program → (x : Bytes) → ChainEnded program (ans program) x (base_row x)
ended program is x = base_ends program is (ans program) (gives_decls program) x

pub base_row_is : (program : List Decl) → IsProgram program → (x : Bytes) →
    RowIs program (node.Filter (filter.Base x)) answers.Base (base_row x) (base program x)
base_row_is program is x = row_is program (node.Filter (filter.Base x)) tt answers.Base (base_row x) (base program x) refl (ended program is x).comes

pub base_is_read : (program : List Decl) → IsProgram program → (x : Bytes) (subject : NodeId) → IsIn subject (reads program (node.Filter (filter.Base x))) →
    (y : Bytes) × Leads (first_parents program) x y × (subject ≡ node.Fact (fact.Decl y))
base_is_read program is x subject i = (ended program is x).asks_of subject (subst (IsIn subject) (base_row_is program is x).read i)

pub base_reads_each : (program : List Decl) → IsProgram program → (x y : Bytes) → Leads (first_parents program) x y →
    IsIn (node.Fact (fact.Decl y)) (reads program (node.Filter (filter.Base x)))
base_reads_each program is x y l = subst (IsIn (node.Fact (fact.Decl y))) (sym (base_row_is program is x).read) ((ended program is x).asks_all y l)
