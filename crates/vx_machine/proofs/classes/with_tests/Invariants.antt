use Rattle.std.proofs.Common.{◌≡◌, drop}
use Rattle.vx_places.specs.Dispatch.{with_tests}
use Rattle.vx_machine.specs.Meaning.{Texts, things_of, value_of}
use Rattle.vx_machine.proofs.classes.with_tests.Given as goal

abbrev pub invariant-loop-entry : goal.invariant-loop-entry
invariant-loop-entry l = (texts : Texts) → with_tests l.image (things_of texts l.objects) (value_of texts l.word) l.class l.mask (drop l.entry-index l.tests)
    ≡ with_tests l.image (things_of texts l.objects) (value_of texts l.word) l.class l.start l.tests
