use Rattle.std.proofs.Common.{ap, ◌≡◌, ◌∙◌, None, true}
use Rattle.vx_machine.specs.declared.word.Word.TheVariants as w
use Rattle.vx_machine.specs.Cuts.{pushed}
use Rattle.vx_machine.specs.Slots.{Changes, held_at}
use Rattle.vx_machine.proofs.Fielding.{sets_done, sets_finds}
use Rattle.vx_machine.proofs.Views.{kept_of}
use Rattle.std.proofs.Common.{length}
use Rattle.vx_machine.proofs.Sound.{changes, pops, pushes, with_objects}
use Rattle.vx_machine.proofs.machine.Machine.set_top.Goals as goal

pub returns-then-not-change-clause-does : goal.returns-then-not-change-clause-does
returns-then-not-change-clause-does c = λ all covers.
    let second : c.pop.new.self ≡ pushed (w.Object c.in-Some-Object.o) c.pop-2.new.self = rw c.in-Some-Object.field-0-is at c.in-Some-Object.ensures in
    let old : c.self.inside.activations ≡ pushed c.in-Some.word (pushed (w.Object c.in-Some-Object.o) c.pop-2.new.self) =
    c.in-Some.ensures ∙ ap (pushed c.in-Some.word) second in
    let none : held_at c.self.inside.objects.items c.in-Some-Object.o c.args.field ≡ None = c.if-not-change.ensures.0 in
    rw (← c.self.view_is) (sets_finds c.args.ready.now all (kept_of c.self.inside) c.pop-2.new.self c.in-Some-Object.o c.args.field c.in-Some.word old none)

pub returns-in_ok-push-in-Some-Object-clause-does : goal.returns-in_ok-push-in-Some-Object-clause-does
returns-in_ok-push-in-Some-Object-clause-does c = λ all covers.
    let second : c.pop.new.self ≡ pushed (w.Object c.in-Some-Object.o) c.pop-2.new.self = rw c.in-Some-Object.field-0-is at c.in-Some-Object.ensures in
    let old : c.self.inside.activations ≡ pushed c.in-Some.word (pushed (w.Object c.in-Some-Object.o) c.pop-2.new.self) =
    c.in-Some.ensures ∙ ap (pushed c.in-Some.word) second in
    let changed : Changes true c.in-Some-Object.o c.args.field c.in-Some.word c.self.inside.objects.items c.change.new.objects.items =
    c.if-not-change.ensures in
    rw (← c.self.view_is, c.in_ok-push-in-Some-Object.ensures.ok, c.image.ensures.image)
    (sets_done c.args.ready.now all
    (kept_of c.self.inside) c.pop-2.new.self c.in-Some-Object.o c.args.field c.in-Some.word c.change.new.objects.items old changed)

pub invariant_of-self-in_err-push-in-Some-Object : goal.invariant_of-self-in_err-push-in-Some-Object
invariant_of-self-in_err-push-in-Some-Object c =
    let one = pops (length c.self.inside.texts) (length c.self.inside.captured.items) c.in-Some.word c.self.inside.activations c.pop.new.self
    c.in-Some.ensures c.self.invariant.0 in
    let two = pops (length c.self.inside.texts) (length c.self.inside.captured.items) c.in-Some-Object.field-0 c.pop.new.self c.pop-2.new.self
    c.in-Some-Object.ensures one.0 in
    let changed : Changes true c.in-Some-Object.o c.args.field c.in-Some.word c.self.inside.objects.items c.change.new.objects.items =
    c.if-not-change.ensures in
    let all = changes (length c.self.inside.texts) c.in-Some-Object.o c.args.field c.in-Some.word c.self.inside.objects.items c.change.new.objects.items
    changed c.self.invariant.1.of_objects one.1 in
    rw c.in_err-push-in-Some-Object.ensures.err
    (with_objects (kept_of c.self.inside) c.pop-2.new.self c.change.new.objects.items two.0 c.self.invariant.1 all)

pub invariant_of-self-in-Some-Object : goal.invariant_of-self-in-Some-Object
invariant_of-self-in-Some-Object c =
    let one = pops (length c.self.inside.texts) (length c.self.inside.captured.items) c.in-Some.word c.self.inside.activations c.pop.new.self
    c.in-Some.ensures c.self.invariant.0 in
    let two = pops (length c.self.inside.texts) (length c.self.inside.captured.items) c.in-Some-Object.field-0 c.pop.new.self c.pop-2.new.self
    c.in-Some-Object.ensures one.0 in
    let changed : Changes true c.in-Some-Object.o c.args.field c.in-Some.word c.self.inside.objects.items c.change.new.objects.items =
    c.if-not-change.ensures in
    let all = changes (length c.self.inside.texts) c.in-Some-Object.o c.args.field c.in-Some.word c.self.inside.objects.items c.change.new.objects.items
    changed c.self.invariant.1.of_objects one.1 in
    rw c.in_ok-push-in-Some-Object.ensures.ok (with_objects (kept_of c.self.inside) _ c.change.new.objects.items
    (pushes (length c.self.inside.texts) (length c.self.inside.captured.items) _ c.pop-2.new.self two.0 tt) c.self.invariant.1 all)
