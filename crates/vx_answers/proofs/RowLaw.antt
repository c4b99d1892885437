-- What a row comes to is what a program answers, and what it asks is what the program reads.
use Rattle.std.proofs.Common.{List, ap, ◌≡◌, ◌∙◌, append-nil}
use Rattle.vx_syntax.specs.declared.decl.Decl.{Decl}
use Rattle.vx_node.specs.declared.node.NodeId.{NodeId}
use Rattle.vx_node.specs.declared.answer.Answer.{Answer}
use Rattle.vx_node.specs.Asking.{Asking, gives, outcome, asked, Gives}
use Rattle.vx_node.proofs.SameAnswers.{followed_outcome, followed_asked}
use Rattle.vx_answers.specs.Answers.{as_answer, row, ans, reads, value_of, IsBuilt}
use Rattle.vx_answers.proofs.ByRow.{by_row}
use Rattle.vx_answers.proofs.RowsBelow.{row_below, rank_below}

-- A node whose row is a questioning that comes to a value.
pub record RowIs {A : Type 0} (program : List Decl) (subject : NodeId) (wrap : A → Answer) (q : Asking A) (value : A) : Type 0 where
  pub answer : ans program subject ≡ wrap value
  pub read : reads program subject ≡ asked q (ans program)
  pub never_mixed : outcome (row subject) (ans program) ≡ Gives (wrap value)

pub row_is : {A : Type 0} (program : List Decl) (subject : NodeId) → IsBuilt subject → (wrap : A → Answer) (q : Asking A) (value : A) →
    row subject ≡ as_answer wrap q → outcome q (ans program) ≡ Gives value → RowIs program subject wrap q value
row_is program subject built wrap q value is comes =
    let r = rank_below subject built in
    let all : outcome (row subject) (ans program) ≡ Gives (wrap value) =
    ap (λ own. outcome own (ans program)) is ∙ followed_outcome q (λ own. gives (wrap own)) (ans program) value comes in
    record {
      answer = by_row program subject r.0 r.1 r.2 (row_below subject built) ∙ ap value_of all;
      read =
          ap (λ own. asked own (ans program)) is ∙ followed_asked q (λ own. gives (wrap own)) (ans program) value comes
          ∙ append-nil (asked q (ans program));
      never_mixed = all;
    }
