use Rattle.std.proofs.Common.{◌≡◌, ◌∙◌, ap, [], ◌∷◌, length}
use Rattle.std.specs.Prelude.{get_or}
use Rattle.vx_syntax.specs.Expressions.{Bytes}
use Rattle.vx_model.specs.declared.value.Value.TheVariants as v
use Rattle.vx_model.specs.declared.report.RunError.TheVariants as e
use Rattle.vx_model.specs.Primitives.{performed}
use Rattle.vx_model.specs.declared.primitives.Deed.TheVariants as deeds
use Rattle.vx_places.specs.ImageMachine.{truth}
use Rattle.vx_machine.specs.Cuts.{Extends, pushed}
use Rattle.vx_machine.specs.Deeds.{two_of}
use Rattle.vx_machine.proofs.Closing.{extends_more}
use Rattle.vx_machine.proofs.Deeds.{text_added, two_deed}
use Rattle.vx_machine.proofs.Views.{kept_of}
use Rattle.vx_machine.proofs.Sound.{pops, pushes, text_is, with_text}
use Rattle.vx_machine.proofs.machine.Machine.join.Goals as goal

pub returns-in_err-push-in-Text-2-clause-later : goal.returns-in_err-push-in-Text-2-clause-later
returns-in_err-push-in-Text-2-clause-later c = λ all covers. rw (← c.self.view_is)
    (extends_more c.self.inside.texts c.push.new.self all.texts (c.in-Text.bytes ∷ [], c.in_ok-push-in-Text.ensures.ok) covers.0, covers.1, covers.2)

pub returns-in_ok-push-in-Text-2-clause-later : goal.returns-in_ok-push-in-Text-2-clause-later
returns-in_ok-push-in-Text-2-clause-later c = λ all covers. rw (← c.self.view_is)
    (extends_more c.self.inside.texts c.push.new.self all.texts (c.in-Text.bytes ∷ [], c.in_ok-push-in-Text.ensures.ok) covers.0, covers.1, covers.2)

pub returns-in-Finds-clause-does : goal.returns-in-Finds-clause-does
returns-in-Finds-clause-does c = λ image all covers.
    let old : c.self.inside.activations ≡ pushed c.in-Some.b (pushed c.in-Some-pop.a c.pop-2.new.self) =
    c.in-Some.ensures ∙ ap (pushed c.in-Some.b) c.in-Some-pop.ensures in
    let what : deeds.Lacks ≡ performed (truth image.own) 8 (two_of all.texts c.in-Some-pop.a c.in-Some.b) =
    rw c.in-Finds.is at (c.in_ok-join_of.ensures all.texts (truth image.own) (rw c.as_slice.ensures covers.0)) in
    two_deed image (performed (truth image.own) 8) all (kept_of c.self.inside) c.args.self.now c.pop-2.new.self c.in-Some-pop.a c.in-Some.b deeds.Lacks
    c.self.view_is old what

pub returns-in_ok-apart-in-TooLong-clause-does : goal.returns-in_ok-apart-in-TooLong-clause-does
returns-in_ok-apart-in-TooLong-clause-does c = λ image all covers.
    let old : c.self.inside.activations ≡ pushed c.in-Some.b (pushed c.in-Some-pop.a c.pop-2.new.self) =
    c.in-Some.ensures ∙ ap (pushed c.in-Some.b) c.in-Some-pop.ensures in
    let what : deeds.Breaks e.StringLimit ≡ performed (truth image.own) 8 (two_of all.texts c.in-Some-pop.a c.in-Some.b) =
    rw c.in-TooLong.is at (c.in_ok-join_of.ensures all.texts (truth image.own) (rw c.as_slice.ensures covers.0)) in
    rw c.in_ok-apart-in-TooLong.ensures
    (two_deed image (performed (truth image.own) 8) all (kept_of c.self.inside) c.args.self.now c.pop-2.new.self c.in-Some-pop.a c.in-Some.b
    (deeds.Breaks e.StringLimit) c.self.view_is old what)

pub returns-in_ok-push-in-Text-2-clause-does : goal.returns-in_ok-push-in-Text-2-clause-does
returns-in_ok-push-in-Text-2-clause-does c = λ image all covers.
    let old : c.self.inside.activations ≡ pushed c.in-Some.b (pushed c.in-Some-pop.a c.pop-2.new.self) =
    c.in-Some.ensures ∙ ap (pushed c.in-Some.b) c.in-Some-pop.ensures in
    let more : Extends c.self.inside.texts all.texts =
    extends_more c.self.inside.texts c.push.new.self all.texts (c.in-Text.bytes ∷ [], c.in_ok-push-in-Text.ensures.ok) covers.0 in
    let added : get_or all.texts (length c.self.inside.texts) [] ≡ c.in-Text.bytes =
    text_added c.self.inside.texts all.texts c.in-Text.bytes (rw (← c.in_ok-push-in-Text.ensures.ok) covers.0) in
    let what : deeds.Answers (v.Text c.in-Text.bytes) ≡ performed (truth image.own) 8 (two_of all.texts c.in-Some-pop.a c.in-Some.b) =
    rw c.in-Text.is at (c.in_ok-join_of.ensures all.texts (truth image.own) (rw c.as_slice.ensures more)) in
    rw (c.in_ok-push-in-Text-2.ensures.ok, c.len-place.ensures)
    (two_deed image (performed (truth image.own) 8) all (kept_of c.self.inside) c.args.self.now c.pop-2.new.self c.in-Some-pop.a c.in-Some.b
    (deeds.Answers (v.Text (get_or all.texts (length c.self.inside.texts) []))) c.self.view_is old
    (ap (λ (bytes : Bytes). deeds.Answers (v.Text bytes)) added ∙ what))

pub invariant_of-self-in_err-push-in-Text-2 : goal.invariant_of-self-in_err-push-in-Text-2
invariant_of-self-in_err-push-in-Text-2 c =
    let one = pops (length c.self.inside.texts) (length c.self.inside.captured.items) c.in-Some.b c.self.inside.activations c.pop.new.self c.in-Some.ensures
    c.self.invariant.0 in
    let two = pops (length c.self.inside.texts) (length c.self.inside.captured.items) c.in-Some-pop.a c.pop.new.self c.pop-2.new.self c.in-Some-pop.ensures
    one.0 in
    let made = with_text (record (kept_of c.self.inside) { stacked = c.pop-2.new.self }) c.push.new.self c.in-Text.bytes c.in_ok-push-in-Text.ensures.ok
    (two.0, c.self.invariant.1) in
    rw c.in_err-push-in-Text-2.ensures.err made

pub invariant_of-self-in-Text : goal.invariant_of-self-in-Text
invariant_of-self-in-Text c =
    let one = pops (length c.self.inside.texts) (length c.self.inside.captured.items) c.in-Some.b c.self.inside.activations c.pop.new.self c.in-Some.ensures
    c.self.invariant.0 in
    let two = pops (length c.self.inside.texts) (length c.self.inside.captured.items) c.in-Some-pop.a c.pop.new.self c.pop-2.new.self c.in-Some-pop.ensures
    one.0 in
    let made = with_text (record (kept_of c.self.inside) { stacked = c.pop-2.new.self }) c.push.new.self c.in-Text.bytes c.in_ok-push-in-Text.ensures.ok
    (two.0, c.self.invariant.1) in
    rw (c.in_ok-push-in-Text-2.ensures.ok, c.len-place.ensures)
    (pushes _ _ _ c.pop-2.new.self made.0 (text_is c.self.inside.texts c.push.new.self c.in-Text.bytes c.in_ok-push-in-Text.ensures.ok), made.1)
