-- A plain asker of a program has the program's answers.
use Rattle.std.proofs.Common.{◌≡◌, ◌<◌, ◌∙◌, ℕ, List, arith, ap, sym, subst}
use Rattle.vx_syntax.specs.declared.decl.Decl.{Decl}
use Rattle.vx_program.specs.Program.{IsProgram}
use Rattle.vx_node.specs.declared.node.NodeId.{NodeId}
use Rattle.vx_node.specs.declared.node.NodeId.TheVariants as n
use Rattle.vx_node.specs.Nodes.{rank}
use Rattle.vx_node.specs.Askers.{Manner}
use Rattle.vx_node.specs.Traces.{nodes}
use Rattle.vx_node.specs.Asking.{outcome, Gives, Mixes}
use Rattle.vx_answers.specs.Answers.{row, ans, reads, SameNodes, IsBuilt}
use Rattle.vx_answers.proofs.ByRow.{facts_are}
use Rattle.vx_answers.proofs.NeverMixed.{never_mixed}
use Rattle.vx_compute.specs.declared.made.Made.{Made}
use Rattle.vx_compute.specs.declared.made.Made.TheVariants as m
use Rattle.vx_compute.specs.Computed.{Computes}
use Rattle.vx_compute.specs.Plain.{GivesFacts, GivesRank, IsMadeOf}

pub facts_told : (program : List Decl) → GivesFacts program (ans program)
facts_told program fact = facts_are program fact

pub rank_told : (program : List Decl) → IsProgram program → (r : ℕ) → GivesRank r (ans program)
rank_told program is r node built same = never_mixed program is node built

-- what is found out is built of others
pub has_rank : (node : NodeId) → 0 < rank node → IsBuilt node
has_rank (n.Fact fact) above = absurd (omega (arith, above))
has_rank (n.Filter filter) above = tt
has_rank (n.Target target) above = tt

-- what is made over a plain asker
pub made_of : {S : Type 0} (manner : Manner S) (program : List Decl) → IsProgram program →
    (node : NodeId) (made : Made) (old new : S) → manner.about old (ans program) → manner.still new → IsBuilt node → Computes manner node made old new →
    IsMadeOf program node made
made_of manner program is node (m.Found finding) old new told goes built computes =
    let agrees = computes.3 (ans program) (computes.0.behind (ans program) told, goes) in
    let right : ans program finding.node ≡ finding.value = computes.2.right program is agrees in (
      computes.1,
      sym right ∙ ap (ans program) computes.1,
      agrees,
      subst (λ one. SameNodes (reads program one) (nodes finding.trace)) computes.1
          (computes.2.just program is agrees),
    )
made_of manner program is node (m.Unclean at) old new told goes built computes =
    computes.1.untold (ans program) (computes.0.behind (ans program) told, goes)
made_of manner program is node (m.Mixed at) old new told goes built computes =
    let told_mixed : outcome (row node) (ans program) ≡ Mixes at = computes.1 (ans program) (computes.0.behind (ans program) told, goes) in
    let wrong : Gives (ans program node) ≡ Mixes at = sym (never_mixed program is node built) ∙ told_mixed in
    absurd (cc)
made_of manner program is node m.OutOfMemory old new told goes built computes = tt
