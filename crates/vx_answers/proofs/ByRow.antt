-- A program answers each node by its row.
use Rattle.std.proofs.Common.{List, [], ap, arith, refl, sym, ◌-◌, subst, suc, zero, inl, inr, ◌≡◌, ◌∙◌, ◌+◌, ◌≤◌, ℕ, append-nil}
use Rattle.std.specs.Prelude.{nat_le}
use Rattle.std.proofs.lemmas.Bool.{cond-true, cond-false}
use Rattle.std.proofs.lemmas.Bool.Decides.{nat_tests}
use Rattle.vx_lists.specs.Members.{IsIn}
use Rattle.vx_syntax.specs.declared.decl.Decl.{Decl}
use Rattle.vx_node.specs.declared.node.NodeId.{NodeId}
use Rattle.vx_node.specs.declared.node.Fact.{Fact}
use Rattle.vx_node.specs.declared.answer.Answer.{Answer}
use Rattle.vx_node.specs.declared.trace.Step.{Step}
use Rattle.vx_node.specs.Nodes.{rank}
use Rattle.vx_node.specs.Traces.{nodes, Answers, Agrees, IsTrace}
use Rattle.vx_node.specs.Asking.{gives, outcome, asked, Reaches, SameAnswers}
use Rattle.vx_node.specs.declared.node.NodeId.TheVariants as node
use Rattle.vx_node.proofs.Said.{said, said_agrees}
use Rattle.vx_node.proofs.Reached.{node_in}
use Rattle.vx_node.proofs.SameAnswers.{same_outcome, same_asked}
use Rattle.vx_answers.specs.Facts.{fact_of}
use Rattle.vx_answers.specs.Answers.{row, value_of, answers_to, ans, reads, Stands, IsBuilt}
use Rattle.vx_answers.proofs.Below.{AsksBelow, asked_below}
use Rattle.vx_answers.proofs.RowsBelow.{row_below, rank_below}

-- what is answered at a rank stays
stays : (program : List Decl) (r : ℕ) (subject : NodeId) → rank subject ≤ r → answers_to program (suc r) subject ≡ answers_to program r subject
stays program r subject low =
    cond-true (nat_le (rank subject) r) (answers_to program r subject) (value_of (outcome (row subject) (answers_to program r))) (grind (arith, nat_tests, low))

settled : (program : List Decl) (r k : ℕ) (subject : NodeId) → rank subject ≤ r → answers_to program (k + r) subject ≡ answers_to program r subject
settled program r zero subject low = ap (λ m. answers_to program m subject) (let e : zero + r ≡ r = omega arith in e)
settled program r (suc k) subject low =
    let e : suc k + r ≡ suc (k + r) = omega arith in
    let low' : rank subject ≤ k + r = omega (arith, low) in
    ap (λ m. answers_to program m subject) e ∙ stays program (k + r) subject low' ∙ settled program r k subject low

ans_is : (program : List Decl) (subject : NodeId) → ans program subject ≡ answers_to program 4 subject
unfolding ans
ans_is program subject = refl

at_rank : (program : List Decl) (r : ℕ) (subject : NodeId) → r ≤ 4 → rank subject ≤ r → ans program subject ≡ answers_to program r subject
at_rank program r subject few low =
    let e : 4 ≡ (4 - r) + r = omega (arith, few) in
    ans_is program subject ∙ ap (λ m. answers_to program m subject) e ∙ settled program r (4 - r) subject low

-- the row of a node, over what the program answers
pub by_row : (program : List Decl) (subject : NodeId) (r : ℕ) → rank subject ≡ suc r → r ≤ 3 → AsksBelow (rank subject) (row subject) →
    ans program subject ≡ value_of (outcome (row subject) (ans program))
by_row program subject r is few below =
    let same : SameAnswers (row subject) (answers_to program r) (ans program) =
    λ other i j. at_rank program r other (omega (arith, few)) (omega (
      arith,
      is,
      asked_below (rank subject) (row subject)
          (answers_to program r) other below i,
    )) in
    at_rank program (suc r) subject (omega (arith, few)) (omega (arith, is))
    ∙ cond-false (nat_le (rank subject) r) (answers_to program r subject) (value_of (outcome (row subject) (answers_to program r)))
    (grind (arith, nat_tests, is))
    ∙ ap value_of (sym (same_outcome (row subject) (answers_to program r) (ans program) same))

-- The law of answers and reads: where two programs give each node that both read the same answer, they give the node the same answer and read the same.
pub same_by_reads : (first second : List Decl) (subject : NodeId) (r : ℕ) → rank subject ≡ suc r → r ≤ 3 → AsksBelow (rank subject) (row subject) →
    ((other : NodeId) → IsIn other (reads first subject) → IsIn other (reads second subject) → ans second other ≡ ans first other) →
    (ans second subject ≡ ans first subject) × (reads second subject ≡ reads first subject)
same_by_reads first second subject r is few below same = (
  by_row second subject r is few below ∙ ap value_of (same_outcome (row subject) (ans first) (ans second) same) ∙ sym (by_row first subject r is few below),
  same_asked (row subject) (ans first) (ans second) same,
)

-- A finding that was asked for stands.
pub asked_stands : (subject : NodeId) (trace : List Step) (value : Answer) (r : ℕ) → rank subject ≡ suc r → r ≤ 3 → AsksBelow (rank subject) (row subject) →
    (answer : Answers) → Agrees answer trace → Reaches [] trace (row subject) (gives value) → Stands subject trace value
asked_stands subject trace value r is few below answer agrees reaches =
    let all : (own : Answers) → Agrees own trace → asked (row subject) own ≡ reaches.way = λ own agreed. reaches.asks own agreed ∙ append-nil reaches.way in
    let in_way : (other : NodeId) → IsIn other (nodes trace) → IsIn other reaches.way =
    λ other i. elim (reaches.nothing_else other i) [ inl none ↦ absurd none | inr j ↦ j ] in
    record {
      lower = λ step i.
          asked_below (rank subject) (row subject) answer step.node below
          (subst (IsIn step.node) (sym (all answer agrees)) (in_way step.node (node_in step trace i)));
      right = λ program is_program agreed. by_row program subject r is few below ∙ ap value_of (reaches.comes (ans program) agreed);
      just = λ program is_program agreed other. (
        λ i. reaches.answered other (subst (IsIn other) (all (ans program) agreed) i),
        λ i. subst (IsIn other) (sym (all (ans program) agreed))
            (in_way other i),
      );
    }

pub built_stands : (subject : NodeId) (trace : List Step) (value : Answer) → IsBuilt subject → IsTrace trace →
    Reaches [] trace (row subject) (gives value) → Stands subject trace value
built_stands subject trace value built order reaches =
    let r = rank_below subject built in
    asked_stands subject trace value r.0 r.1 r.2 (row_below subject built) (said trace) (said_agrees trace order) reaches

pub built_same : (first second : List Decl) (subject : NodeId) → IsBuilt subject →
    ((other : NodeId) → IsIn other (reads first subject) → IsIn other (reads second subject) → ans second other ≡ ans first other) →
    (ans second subject ≡ ans first subject) × (reads second subject ≡ reads first subject)
built_same first second subject built same = let r = rank_below subject built in same_by_reads first second subject r.0 r.1 r.2 (row_below subject built) same

-- facts are the program's
pub facts_are : (program : List Decl) (fact : Fact) → ans program (node.Fact fact) ≡ fact_of program fact
facts_are program fact = at_rank program 0 (node.Fact fact) (omega arith) (omega arith)
