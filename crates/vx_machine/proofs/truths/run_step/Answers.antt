use Rattle.std.proofs.Common.{sym, ◌≡◌, ◌∙◌, ap}
use Rattle.vx_format.specs.declared.image.Step.{Step}
use Rattle.vx_format.specs.declared.image.Step.TheVariants as s
use Rattle.vx_places.specs.Dispatch.{stepped}
use Rattle.vx_machine.specs.Meaning.{things_of, value_of}
use Rattle.vx_machine.proofs.truths.run_step.Goals as goal

pub returns-in_ok-and-in-And : goal.returns-in_ok-and-in-And
returns-in_ok-and-in-And c = λ texts.
    let is : c.args.step.now ≡ s.And = c.in-And.is in
    c.in_ok-and-in-And.ensures (things_of texts c.args.objects.now) (value_of texts c.args.word) c.args.fields.now
    ∙ ap (λ (step : Step). stepped (things_of texts c.args.objects.now) (value_of texts c.args.word) c.args.fields.now c.args.truths.now step) (sym is)

pub returns-in_ok-or-in-Or : goal.returns-in_ok-or-in-Or
returns-in_ok-or-in-Or c = λ texts.
    let is : c.args.step.now ≡ s.Or = c.in-Or.is in
    c.in_ok-or-in-Or.ensures (things_of texts c.args.objects.now) (value_of texts c.args.word) c.args.fields.now
    ∙ ap (λ (step : Step). stepped (things_of texts c.args.objects.now) (value_of texts c.args.word) c.args.fields.now c.args.truths.now step) (sym is)

pub returns-in_ok-not-in-Not : goal.returns-in_ok-not-in-Not
returns-in_ok-not-in-Not c = λ texts.
    let is : c.args.step.now ≡ s.Not = c.in-Not.is in
    c.in_ok-not-in-Not.ensures (things_of texts c.args.objects.now) (value_of texts c.args.word) c.args.fields.now
    ∙ ap (λ (step : Step). stepped (things_of texts c.args.objects.now) (value_of texts c.args.word) c.args.fields.now c.args.truths.now step) (sym is)
