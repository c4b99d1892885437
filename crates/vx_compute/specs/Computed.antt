-- What a computation comes to.
use Rattle.std.specs.Prelude.{◌≡◌, List, Result, Ok, Err}
use Rattle.vx_node.specs.declared.node.NodeId.{NodeId}
use Rattle.vx_node.specs.declared.answer.Answer.{Answer}
use Rattle.vx_node.specs.declared.trace.Step.{Step}
use Rattle.vx_node.specs.declared.asker.Halt.{Halt}
use Rattle.vx_node.specs.declared.asker.Halt.TheVariants as h
use Rattle.vx_node.specs.Traces.{Answers, Agrees}
use Rattle.vx_node.specs.Asking.{outcome, Gives, Mixes}
use Rattle.vx_node.specs.Askers.{Manner, Tells, Stays, IsUnclean}
use Rattle.vx_answers.specs.Answers.{row, Stands}
use Rattle.vx_compute.specs.declared.made.Made.{Made}
use Rattle.vx_compute.specs.declared.made.Made.TheVariants as m

-- A finding is of the node, and of the answers that are told, if any are. Where the answers are of no one program, the node's row comes to that over
-- any answers that are told; so none that a program gives are.
abbrev pub Computes : {S : Type 0} → Manner S → NodeId → Made → S → S → Type 0
Computes manner node (m.Found finding) old new =
    Stays manner old new × (finding.node ≡ node) × Stands finding.node finding.trace finding.value
    × ((answer : Answers) → Tells manner new answer → Agrees answer finding.trace)
Computes manner node (m.Unclean at) old new = Stays manner old new × IsUnclean manner at old new
Computes manner node (m.Mixed at) old new = Stays manner old new × ((answer : Answers) → Tells manner new answer → outcome (row node) answer ≡ Mixes at)
Computes manner node m.OutOfMemory old new = Stays manner old new

-- a finding with this trace, or want of memory
abbrev pub IsFinding : NodeId → List Step → Made → Type 0
IsFinding node trace (m.Found finding) = (finding.node ≡ node) × (finding.trace ≡ trace) × Stands finding.node finding.trace finding.value
IsFinding node trace (m.Unclean at) = ⊥
IsFinding node trace (m.Mixed at) = ⊥
IsFinding node trace m.OutOfMemory = Unit {0}

abbrev pub stopped_as : Halt → Made
stopped_as (h.Unclean at) = m.Unclean at
stopped_as (h.Mixed at) = m.Mixed at
stopped_as h.OutOfMemory = m.OutOfMemory

-- What a node's row comes to over an asker, without the trace.
abbrev pub Finds : {S : Type 0} → Manner S → NodeId → Result Answer Halt → S → S → Type 0
Finds manner node (Ok value) old new =
    Stays manner old new × ((answer : Answers) → Tells manner new answer → outcome (row node) answer ≡ Gives value)
Finds manner node (Err (h.Unclean at)) old new = Stays manner old new × IsUnclean manner at old new
Finds manner node (Err (h.Mixed at)) old new =
    Stays manner old new × ((answer : Answers) → Tells manner new answer → outcome (row node) answer ≡ Mixes at)
Finds manner node (Err h.OutOfMemory) old new = Stays manner old new
