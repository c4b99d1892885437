-- Askers over a plain program, one for each rank.
use Rattle.std.specs.Prelude.{◌≡◌, ◌≤◌, ℕ, List, Option, Some, None, ◌==◌, if◌then◌else◌}
use Rattle.vx_syntax.specs.declared.decl.Decl.{Decl}
use Rattle.vx_node.specs.declared.node.NodeId.{NodeId}
use Rattle.vx_node.specs.declared.node.NodeId.TheVariants as n
use Rattle.vx_node.specs.declared.node.Fact.{Fact}
use Rattle.vx_node.specs.declared.asker.Asked.{Asked}
use Rattle.vx_node.specs.declared.asker.Asked.TheVariants as a
use Rattle.vx_node.specs.Askers.{HasRisen, Manner, Through}
use Rattle.vx_node.specs.Gates.{entered_too}
use Rattle.vx_node.specs.Nodes.{rank}
use Rattle.vx_compute.specs.declared.made.Made.{Made}
use Rattle.vx_compute.specs.declared.made.Made.TheVariants as m
use Rattle.vx_node.specs.Traces.{Answers, Agrees, nodes}
use Rattle.vx_node.specs.Asking.{outcome, Gives}
use Rattle.vx_answers.specs.Facts.{fact_of}
use Rattle.vx_answers.specs.Answers.{row, ans, reads, SameNodes, IsBuilt}

-- these answers give facts as the program does
abbrev pub GivesFacts : List Decl → Answers → Type 0
GivesFacts program answer = (fact : Fact) → answer (n.Fact fact) ≡ fact_of program fact

-- these answers give each node of the rank what its row comes to
abbrev pub GivesRank : ℕ → Answers → Type 0
GivesRank r answer = (node : NodeId) → IsBuilt node → rank node ≡ r → outcome (row node) answer ≡ Gives (answer node)

-- An asker that answers facts out of a program, which no ask changes.
abbrev pub of_facts : {S : Type 0} → (S → List Decl) → Manner S
of_facts program = record {
  about = λ s answer. GivesFacts (program s) answer;
  still = λ s. Unit {0};
  unclean = λ s. 0;
  last = λ s. None;
  goes = λ s t. program t ≡ program s;
}

-- An asker of this rank over another one: it has those of its answers that give the rank, and does to it what any asks may do.
abbrev pub one_higher : {S O : Type 0} → Manner S → ℕ → (O → S) → (O → ℕ) → (O → Option NodeId) → Manner O
one_higher below r inner unclean last = record {
  about = λ s answer. below.about (inner s) answer × GivesRank r answer;
  still = λ s. below.still (inner s);
  unclean = unclean;
  last = last;
  goes = λ s t. Through below.goes (inner s) (inner t);
}

-- The answer that a node is unclean, with the count and the node that are kept; or want of memory, with what was there.
abbrev pub SaysUnclean : NodeId → Asked → ℕ → ℕ → Option NodeId → Type 0
SaysUnclean at (a.Known value) old new last = ⊥
SaysUnclean at (a.Unclean said) old new last = (said ≡ at) × HasRisen old new × (old ≤ new) × (last ≡ Some at)
SaysUnclean at a.OutOfMemory old new last = new ≡ old

-- What is made of a node over a plain program: its answer, out of its reads and their answers; or want of memory.
abbrev pub IsMadeOf : List Decl → NodeId → Made → Type 0
IsMadeOf program node (m.Found finding) =
    (finding.node ≡ node) × (finding.value ≡ ans program node) × Agrees (ans program) finding.trace × SameNodes (reads program node) (nodes finding.trace)
IsMadeOf program node (m.Unclean at) = ⊥
IsMadeOf program node (m.Mixed at) = ⊥
IsMadeOf program node m.OutOfMemory = Unit {0}

-- A target that is found has entered the gate, once. Nothing else enters.
abbrev pub EntersWhere : NodeId → Made → Option (List NodeId) → Option (List NodeId) → Type 0
EntersWhere node (m.Found finding) old new = new ≡ (if rank node == 4 then entered_too node old else old)
EntersWhere node (m.Unclean at) old new = new ≡ old
EntersWhere node (m.Mixed at) old new = new ≡ old
EntersWhere node m.OutOfMemory old new = new ≡ old
