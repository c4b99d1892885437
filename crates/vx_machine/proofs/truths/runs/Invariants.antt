use Rattle.std.proofs.Common.{◌≡◌, [], drop}
use Rattle.vx_places.specs.Dispatch.{ran}
use Rattle.vx_machine.specs.Meaning.{Texts, things_of, value_of}
use Rattle.vx_machine.proofs.truths.runs.Given as goal

abbrev pub invariant-loop-step : goal.invariant-loop-step
invariant-loop-step l = (texts : Texts) → ran (things_of texts l.objects) (value_of texts l.word) l.fields l.truths (drop l.step-index l.steps)
    ≡ ran (things_of texts l.objects) (value_of texts l.word) l.fields [] l.steps
