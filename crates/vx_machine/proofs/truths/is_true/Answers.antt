use Rattle.std.proofs.Common.{sym, ◌≡◌, ◌∙◌, ap, Option}
use Rattle.std.specs.Option.{option_map}
use Rattle.vx_places.specs.Dispatch.{compared, is_true_of}
use Rattle.vx_machine.specs.declared.word.Word.{Word}
use Rattle.vx_machine.specs.declared.word.Word.TheVariants as w
use Rattle.vx_machine.specs.Meaning.{things_of, value_of}
use Rattle.vx_machine.proofs.Testing.{true_of_object}
use Rattle.vx_machine.proofs.truths.is_true.Goals as goal

pub returns-in-Object : goal.returns-in-Object
returns-in-Object c = λ texts.
    let is : c.args.word ≡ w.Object c.in-Object.o = c.in-Object.is in
    c.compares_slot.ensures texts
    ∙ ap (λ (held : Option Word). compared (option_map (value_of texts) held) c.args.operator c.args.z.now) c.held.ensures
    ∙ sym (true_of_object texts c.args.objects.now c.args.fields.now c.args.operator c.args.name c.in-Object.o c.in-Some.field c.args.z.now
    (sym c.in-Some.ensures))
    ∙ ap (λ (word : Word). is_true_of (things_of texts c.args.objects.now) (value_of texts word) c.args.fields.now c.args.operator c.args.name c.args.z.now)
    (sym is)
