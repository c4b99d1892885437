use Rattle.std.proofs.Common.{sym, ◌≡◌, Some, None}
use Rattle.vx_machine.specs.declared.word.Word.TheVariants as w
use Rattle.vx_machine.specs.Cuts.{pushed}
use Rattle.vx_machine.specs.Slots.{held_at}
use Rattle.vx_machine.proofs.Fielding.{gets_done, gets_finds}
use Rattle.vx_machine.proofs.Views.{kept_of}
use Rattle.std.proofs.Common.{length}
use Rattle.vx_machine.proofs.Sound.{held_is, pops, pushes}
use Rattle.vx_machine.proofs.machine.Machine.get_top.Goals as goal

pub returns-in-None-held-clause-does : goal.returns-in-None-held-clause-does
returns-in-None-held-clause-does c = λ all covers.
    let at : held_at c.self.inside.objects.items c.in-Some-Object.o c.args.field ≡ None = rw c.as_slice.ensures.value at (sym c.in-None-held.ensures) in
    let old : c.self.inside.activations ≡ pushed (w.Object c.in-Some-Object.o) c.pop.new.self = rw c.in-Some-Object.field-0-is at c.in-Some-Object.ensures in
    rw (← c.self.view_is) (gets_finds c.args.ready.now all (kept_of c.self.inside) c.pop.new.self c.in-Some-Object.o c.args.field old at)

pub returns-in_ok-push-in-Some-clause-does : goal.returns-in_ok-push-in-Some-clause-does
returns-in_ok-push-in-Some-clause-does c = λ all covers.
    let at : held_at c.self.inside.objects.items c.in-Some-Object.o c.args.field ≡ Some c.in-Some.word =
    rw c.as_slice.ensures.value at (sym c.in-Some.ensures) in
    let old : c.self.inside.activations ≡ pushed (w.Object c.in-Some-Object.o) c.pop.new.self = rw c.in-Some-Object.field-0-is at c.in-Some-Object.ensures in
    rw (← c.self.view_is, c.in_ok-push-in-Some.ensures.ok)
    (gets_done c.args.ready.now all (kept_of c.self.inside) c.pop.new.self c.in-Some-Object.o c.args.field c.in-Some.word old at)

pub invariant_of-self-in-Some : goal.invariant_of-self-in-Some
invariant_of-self-in-Some c =
    let at : held_at c.self.inside.objects.items c.in-Some-Object.o c.args.field ≡ Some c.in-Some.word =
    rw c.as_slice.ensures.value at (sym c.in-Some.ensures) in
    let left = pops (length c.self.inside.texts) (length c.self.inside.captured.items) c.in-Some-Object.field-0 c.self.inside.activations c.pop.new.self
    c.in-Some-Object.ensures c.self.invariant.0 in
    let own = held_is (length c.self.inside.texts) c.self.inside.objects.items c.in-Some-Object.o c.args.field c.in-Some.word c.self.invariant.1.of_objects
    at in (
      rw c.in_ok-push-in-Some.ensures.ok (pushes (length c.self.inside.texts) (length c.self.inside.captured.items) c.in-Some.word c.pop.new.self left.0 own),
      c.self.invariant.1,
    )
