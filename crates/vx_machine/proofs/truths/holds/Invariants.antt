use Rattle.std.proofs.Common.{◌≡◌, drop}
use Rattle.vx_places.specs.Dispatch.{holds_in}
use Rattle.vx_machine.specs.Meaning.{Texts, things_of, value_of}
use Rattle.vx_machine.proofs.truths.holds.Given as goal

abbrev pub invariant-loop-entry : goal.invariant-loop-entry
invariant-loop-entry l = (texts : Texts) → holds_in (things_of texts l.objects) (value_of texts l.word) l.test.steps l.class (drop l.entry-index l.test.classes)
    ≡ holds_in (things_of texts l.objects) (value_of texts l.word) l.test.steps l.class l.test.classes
