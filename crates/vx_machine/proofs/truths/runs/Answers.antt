use Rattle.std.proofs.Common.{sym, ◌∙◌, ◌+◌, ap, List, Bool, drop, pos}
use Rattle.std.proofs.lemmas.List.{at_drop_more}
use Rattle.vx_format.specs.declared.image.Step.TheVariants as s
use Rattle.vx_places.specs.Dispatch.{ran}
use Rattle.vx_machine.specs.Meaning.{things_of, value_of}
use Rattle.vx_machine.proofs.truths.runs.Goals as goal

pub loop-step-preserved : goal.loop-step-preserved
loop-step-preserved c = λ texts.
    let front = at_drop_more
    (ran (things_of texts c.args.objects.now) (value_of texts c.args.word) c.args.fields.now c.loop-step.truths) c.args.steps.now c.loop-step.step-index
    (s.Compare 0 0 (pos 0)) c.loop-step-test.true in
    ap (λ (truths : List Bool). ran (things_of texts c.args.objects.now) (value_of texts c.args.word) c.args.fields.now truths
    (drop (c.loop-step.step-index + 1) c.args.steps.now)) (c.in_ok-run_step.ensures texts)
    ∙ sym front ∙ c.loop-step.invariant texts
