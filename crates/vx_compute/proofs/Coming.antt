-- What a computation comes to, out of what its pass leaves.
use Rattle.std.proofs.Common.{List, Result, Ok, Err, [], refl, sym, subst, ◌≡◌, ◌∙◌}
use Rattle.vx_node.specs.declared.node.NodeId.{NodeId}
use Rattle.vx_node.specs.declared.answer.Answer.{Answer}
use Rattle.vx_node.specs.declared.trace.Step.{Step}
use Rattle.vx_node.specs.declared.asker.Halt.{Halt}
use Rattle.vx_node.specs.declared.asker.Halt.TheVariants as h
use Rattle.vx_node.specs.Traces.{Answers, Agrees}
use Rattle.vx_node.specs.Asking.{gives}
use Rattle.vx_node.specs.Askers.{Manner, Tells, Adds, Goes, Stops, Follows}
use Rattle.vx_answers.specs.Answers.{row}
use Rattle.vx_compute.specs.declared.made.Made.{Made}
use Rattle.vx_compute.specs.declared.made.Made.TheVariants as m
use Rattle.vx_compute.specs.Computed.{Computes, Finds, IsFinding, stopped_as}

-- what a trace that began with no steps agrees with
agreed : {S : Type 0} {manner : Manner S} {old new : S} {after : List Step} → Adds manner old [] new after → (answer : Answers) →
    Tells manner new answer → Agrees answer after
agreed adds answer told = adds.agrees answer told (λ step i. absurd i)

pub computes_found : {S : Type 0} (manner : Manner S) (node : NodeId) (made : Made) (own : NodeId)
    (trace given : List Step) (value : Answer) (old now new : S) → IsFinding own given made → own ≡ node → given ≡ trace → new ≡ now →
    Goes manner (row node) (gives value) old [] now trace → Computes manner node made old new
computes_found manner node (m.Found finding) own trace given value old now new is same traced left goes =
    subst (λ s. Computes manner node (m.Found finding) old s) (sym left)
    (goes.adds.stays, is.0 ∙ same, is.2, λ answer told. subst (λ steps. Agrees answer steps) (sym (is.1 ∙ traced)) (agreed goes.adds answer told))
computes_found manner node (m.Unclean at) own trace given value old now new is same traced left goes = absurd is
computes_found manner node (m.Mixed at) own trace given value old now new is same traced left goes = absurd is
computes_found manner node m.OutOfMemory own trace given value old now new is same traced left goes =
    subst (λ s. Computes manner node m.OutOfMemory old s) (sym left) goes.adds.stays

stopped_computes : {S : Type 0} (manner : Manner S) (node : NodeId) (halt : Halt) (trace : List Step) (old new : S) →
    Stops manner (row node) halt old [] new trace → Computes manner node (stopped_as halt) old new
stopped_computes manner node (h.Unclean at) trace old new stopped = (stopped.adds.stays, stopped.at_unclean at refl)
stopped_computes manner node (h.Mixed at) trace old new stopped =
    (stopped.adds.stays, λ answer told. (stopped.mixed at refl).comes answer (agreed stopped.adds answer told))
stopped_computes manner node h.OutOfMemory trace old new stopped = stopped.adds.stays

pub computes_stopped : {S : Type 0} (manner : Manner S) (node : NodeId) (made : Made) (halt : Halt)
    (trace : List Step) (old now new : S) → made ≡ stopped_as halt → new ≡ now → Stops manner (row node) halt old [] now trace →
    Computes manner node made old new
computes_stopped manner node made halt trace old now new is left stopped =
    subst (λ s. Computes manner node made old s) (sym left)
    (subst (λ one. Computes manner node one old now) (sym is) (stopped_computes manner node halt trace old now stopped))

finds_at : {S : Type 0} (manner : Manner S) (node : NodeId) (result : Result Answer Halt)
    (trace : List Step) (old new : S) → Follows manner (row node) result old [] new trace → Finds manner node result old new
finds_at manner node (Ok value) trace old new goes = (goes.adds.stays, λ answer told. goes.reaches.comes answer (agreed goes.adds answer told))
finds_at manner node (Err (h.Unclean at)) trace old new stopped = (stopped.adds.stays, stopped.at_unclean at refl)
finds_at manner node (Err (h.Mixed at)) trace old new stopped =
    (stopped.adds.stays, λ answer told. (stopped.mixed at refl).comes answer (agreed stopped.adds answer told))
finds_at manner node (Err h.OutOfMemory) trace old new stopped = stopped.adds.stays

pub finds : {S : Type 0} (manner : Manner S) (node : NodeId) (result : Result Answer Halt)
    (begun trace : List Step) (old began now new : S) → began ≡ old → begun ≡ [] → new ≡ now →
    Follows manner (row node) result began begun now trace → Finds manner node result old new
finds manner node result begun trace old began now new same none left follows =
    subst (λ s. Finds manner node result old s) (sym left)
    (finds_at manner node result trace old now
    (subst (λ s. Follows manner (row node) result s [] now trace) same
    (subst (λ steps. Follows manner (row node) result began steps now trace) none follows)))
