use Rattle.std.proofs.Common.{rules, [], ◌∷◌, ◌++◌, ◌≡◌, ◌<◌, ◌≤◌, true, false, length, reverse, take, sym, refl, arith}
use Rattle.vx_format.specs.declared.image.Instr.TheVariants as instrs
use Rattle.vx_machine.specs.Making.{filled_words, has_slots}
use Rattle.vx_machine.specs.declared.word.Object.{Object}
use Rattle.vx_machine.specs.declared.word.Word.TheVariants as w
use Rattle.vx_machine.specs.Cuts.{forgotten}
use Rattle.vx_machine.specs.Meaning.{Kept}
use Rattle.vx_machine.specs.Sound.{AreSlotsSound, AreSound, AreWordsSound, IsObjectSound, IsSound}
use Rattle.vx_machine.proofs.Leaving.{seen}
use Rattle.vx_machine.proofs.Makes.{Shapes, make_done, make_finds, make_lacks}
use Rattle.vx_machine.proofs.Sound.{forgets, pushes, taken_words, with_made}
use Rattle.vx_machine.proofs.Views.{kept_of}
use Rattle.vx_machine.proofs.machine.Machine.make.Goals as goal

pub returns-then-operands-count-clause-does : goal.returns-then-operands-count-clause-does
returns-then-operands-count-clause-does c = λ all covers.
    let few : length c.self.inside.activations.running.operands < length c.args.fields.now = omega (arith, c.if-operands-count.true, c.operands.ensures) in
    seen c.args.ready.now (instrs.New c.args.class c.args.fields.now) all (kept_of c.self.inside) c.args.self.now _ c.self.view_is
    (make_lacks c.args.ready.now all c.args.class c.args.fields.now (kept_of c.self.inside) few)

pub returns-then-not-fill-clause-does : goal.returns-then-not-fill-clause-does
returns-then-not-fill-clause-does c = λ all covers.
    let enough : length c.args.fields.now ≤ length c.self.inside.activations.running.operands = omega (arith, c.if-operands-count.false, c.operands.ensures) in
    let shape : Shapes c.args.ready.now all c.args.class c.in_ok-slots.slots = record {
      shape = c.in-Some.shape.now;
      at = sym c.in-Some.ensures;
      fresh_is = rw (c.image.ensures.image, c.as_slice.ensures) at (c.in_ok-slots.ensures.means all.texts);
    } in
    let none : has_slots c.args.fields.now c.in_ok-slots.slots ≡ false = sym c.if-not-fill.ensures.has in
    seen c.args.ready.now (instrs.New c.args.class c.args.fields.now) all (kept_of c.self.inside) c.args.self.now _ c.self.view_is
    (make_finds c.args.ready.now all c.args.class c.args.fields.now (kept_of c.self.inside) c.in_ok-slots.slots shape enough none)

pub returns-clause-does : goal.returns-clause-does
returns-clause-does c = λ all covers.
    let enough : length c.args.fields.now ≤ length c.self.inside.activations.running.operands = omega (arith, c.if-operands-count.false, c.operands.ensures) in
    let shape : Shapes c.args.ready.now all c.args.class c.in_ok-slots.slots = record {
      shape = c.in-Some.shape.now;
      at = sym c.in-Some.ensures;
      fresh_is = rw (c.image.ensures.image, c.as_slice.ensures) at (c.in_ok-slots.ensures.means all.texts);
    } in
    let has : has_slots c.args.fields.now c.in_ok-slots.slots ≡ true = sym c.if-not-fill.ensures.has in
    let words : c.arguments.result.now ≡ reverse (take (length c.args.fields.now) c.self.inside.activations.running.operands) = c.arguments.ensures in
    let slots : c.fill.new.slots ≡ filled_words c.args.fields.now (reverse (take (length c.args.fields.now) c.self.inside.activations.running.operands))
    c.in_ok-slots.slots = rw words at (c.if-not-fill.ensures.filled refl) in
    let place : c.len-place.result ≡ length c.self.inside.objects.items = search rules in
    seen c.args.ready.now (instrs.New c.args.class c.args.fields.now) all (kept_of c.self.inside) c.args.self.now _ c.self.view_is
    (rw (c.in_ok-push-2.ensures.ok, c.forget.ensures, c.in_ok-push.ensures.items, place, slots)
    (make_done c.args.ready.now all c.args.class c.args.fields.now (kept_of c.self.inside) c.in_ok-slots.slots shape enough has))

-- an object more, whose words are the image's and those of the operands
made_sound : (m : Kept) (object : Object) → IsSound m → IsObjectSound (length m.texts) object
    → AreSound m.texts m.captured (m.objects ++ object ∷ []) m.cells m.closures
made_sound m object sound own = with_made m.texts m.captured m.objects m.cells m.closures object sound.1 own

pub invariant_of-self-in_err-push-2 : goal.invariant_of-self-in_err-push-2
invariant_of-self-in_err-push-2 c =
    let words : AreWordsSound (length c.self.inside.texts) c.arguments.result.now =
    rw c.arguments.ensures (taken_words (length c.self.inside.texts) (length c.self.inside.captured.items) (length c.args.fields.now)
    c.self.inside.activations c.self.invariant.0) in
    let slots : AreSlotsSound (length c.self.inside.texts) c.fill.new.slots =
    c.if-not-fill.ensures.sound (length c.self.inside.texts) words (c.in_ok-slots.ensures.sound (length c.self.inside.texts)) in
    rw (c.in_err-push-2.ensures.err, c.forget.ensures, c.in_ok-push.ensures.items) (
      forgets (length c.self.inside.texts) (length c.self.inside.captured.items) (length c.args.fields.now) c.self.inside.activations c.self.invariant.0,
      made_sound (kept_of c.self.inside) (record { class = c.args.class; slots = c.fill.new.slots }) c.self.invariant slots,
    )

pub invariant_of-self-2 : goal.invariant_of-self-2
invariant_of-self-2 c =
    let words : AreWordsSound (length c.self.inside.texts) c.arguments.result.now =
    rw c.arguments.ensures (taken_words (length c.self.inside.texts) (length c.self.inside.captured.items) (length c.args.fields.now)
    c.self.inside.activations c.self.invariant.0) in
    let slots : AreSlotsSound (length c.self.inside.texts) c.fill.new.slots =
    c.if-not-fill.ensures.sound (length c.self.inside.texts) words (c.in_ok-slots.ensures.sound (length c.self.inside.texts)) in
    rw (c.in_ok-push-2.ensures.ok, c.forget.ensures, c.in_ok-push.ensures.items) (
      pushes (length c.self.inside.texts) (length c.self.inside.captured.items) (w.Object _)
          (forgotten (length c.args.fields.now) c.self.inside.activations)
          (forgets (length c.self.inside.texts) (length c.self.inside.captured.items) (length c.args.fields.now) c.self.inside.activations c.self.invariant.0)
          tt,
      made_sound (kept_of c.self.inside) (record { class = c.args.class; slots = c.fill.new.slots }) c.self.invariant slots,
    )
