use Rattle.std.proofs.Common.{◌≡◌, ◌∙◌, ap}
use Rattle.vx_model.specs.Primitives.{performed}
use Rattle.vx_model.specs.declared.primitives.Deed.TheVariants as deeds
use Rattle.vx_places.specs.ImageMachine.{truth}
use Rattle.vx_machine.specs.Cuts.{pushed}
use Rattle.vx_machine.specs.Deeds.{two_of}
use Rattle.vx_machine.specs.Meaning.{value_of}
use Rattle.vx_machine.proofs.Deeds.{two_deed}
use Rattle.vx_machine.proofs.Views.{kept_of}
use Rattle.std.proofs.Common.{length}
use Rattle.vx_machine.proofs.Sound.{pops, pushes}
use Rattle.vx_machine.proofs.machine.Machine.two.Goals as goal

pub returns-in_ok-apart-in-Breaks-clause-does : goal.returns-in_ok-apart-in-Breaks-clause-does
returns-in_ok-apart-in-Breaks-clause-does c = λ all covers.
    let old : c.self.inside.activations ≡ pushed c.in-Some.b (pushed c.in-Some-pop.a c.pop-2.new.self) =
    c.in-Some.ensures ∙ ap (pushed c.in-Some.b) c.in-Some-pop.ensures in
    let what : deeds.Breaks c.in-Breaks.error ≡ performed (truth c.args.ready.now.own) c.args.number (two_of all.texts c.in-Some-pop.a c.in-Some.b) =
    rw c.in-Breaks.is at (c.answer_of.ensures.is all.texts (rw c.as_slice.ensures covers.0)) in
    rw c.in_ok-apart-in-Breaks.ensures
    (two_deed c.args.ready.now (performed (truth c.args.ready.now.own) c.args.number) all
    (kept_of c.self.inside) c.args.self.now c.pop-2.new.self c.in-Some-pop.a c.in-Some.b (deeds.Breaks c.in-Breaks.error) c.self.view_is old what)

pub returns-in-Finds-clause-does : goal.returns-in-Finds-clause-does
returns-in-Finds-clause-does c = λ all covers.
    let old : c.self.inside.activations ≡ pushed c.in-Some.b (pushed c.in-Some-pop.a c.pop-2.new.self) =
    c.in-Some.ensures ∙ ap (pushed c.in-Some.b) c.in-Some-pop.ensures in
    let what : deeds.Lacks ≡ performed (truth c.args.ready.now.own) c.args.number (two_of all.texts c.in-Some-pop.a c.in-Some.b) =
    rw c.in-Finds.is at (c.answer_of.ensures.is all.texts (rw c.as_slice.ensures covers.0)) in
    two_deed c.args.ready.now (performed (truth c.args.ready.now.own) c.args.number) all
    (kept_of c.self.inside) c.args.self.now c.pop-2.new.self c.in-Some-pop.a c.in-Some.b deeds.Lacks c.self.view_is old what

pub returns-in_ok-push-in-Word-clause-does : goal.returns-in_ok-push-in-Word-clause-does
returns-in_ok-push-in-Word-clause-does c = λ all covers.
    let old : c.self.inside.activations ≡ pushed c.in-Some.b (pushed c.in-Some-pop.a c.pop-2.new.self) =
    c.in-Some.ensures ∙ ap (pushed c.in-Some.b) c.in-Some-pop.ensures in
    let what : deeds.Answers (value_of all.texts c.in-Word.word)
    ≡ performed (truth c.args.ready.now.own) c.args.number (two_of all.texts c.in-Some-pop.a c.in-Some.b) =
    rw c.in-Word.is at (c.answer_of.ensures.is all.texts (rw c.as_slice.ensures covers.0)) in
    rw c.in_ok-push-in-Word.ensures.ok
    (two_deed c.args.ready.now (performed (truth c.args.ready.now.own) c.args.number) all
    (kept_of c.self.inside) c.args.self.now c.pop-2.new.self c.in-Some-pop.a c.in-Some.b
    (deeds.Answers (value_of all.texts c.in-Word.word)) c.self.view_is old what)

pub invariant_of-self-in-Word : goal.invariant_of-self-in-Word
invariant_of-self-in-Word c =
    let one = pops (length c.self.inside.texts) (length c.self.inside.captured.items) c.in-Some.b c.self.inside.activations c.pop.new.self c.in-Some.ensures
    c.self.invariant.0 in
    let two = pops (length c.self.inside.texts) (length c.self.inside.captured.items) c.in-Some-pop.a c.pop.new.self c.pop-2.new.self c.in-Some-pop.ensures
    one.0 in
    let own = rw c.in-Word.is at c.answer_of.ensures.sound in (
      rw c.in_ok-push-in-Word.ensures.ok (pushes (length c.self.inside.texts) (length c.self.inside.captured.items) c.in-Word.word c.pop-2.new.self two.0 (own
          (length c.self.inside.texts))),
      c.self.invariant.1,
    )
