use Rattle.std.proofs.Common.{length, refl, arith}
use Rattle.std.proofs.lemmas.Option.{slice_get_read, slice_get_within, get_or_from_slice_get}
use Rattle.std.proofs.Common.{◌≡◌, ◌<◌, ◌∙◌, sym, subst}
use Rattle.vx_node.specs.declared.trace.Step.{Step}
use Rattle.vx_node.proofs.Placing.{belongs, goes_behind}
use Rattle.vx_node.proofs.trace.place_of.Goals as goal
use Rattle.vx_node.proofs.trace.place_of.Goals.{else-place-steps-via-then-place-steps+else-is_of, else-place-steps-via-else-place-steps}

pub returns-then-is_of-clause-found : goal.returns-then-is_of-clause-found
returns-then-is_of-clause-found c =
    let inside : c.steps_before-place.result < length c.args.steps.now = omega arith in (
      c.index-steps-place.result,
      slice_get_read c.args.steps.now (length c.args.steps.now) c.steps_before-place.result c.index-steps-place.result refl inside c.index-steps-place.is,
      c.is_of.ensures.yes c.if-is_of.true,
    )

pub returns-else-place-steps-clause-missing : goal.returns-else-place-steps-clause-missing
returns-else-place-steps-clause-missing c =
    let at = c.steps_before-place.ensures in (
      at.within,
      belongs c.args.node.now c.steps_before-place.result c.args.steps.now at.within at.front (λ step e.
          elim c.else-place-steps.branch [
            | else-place-steps-via-then-place-steps+else-is_of w ↦
                let same : w.index-steps-place.result ≡ step =
                w.index-steps-place.is ∙ get_or_from_slice_get c.args.steps.now c.steps_before-place.result step w.index-steps-place.result e in
                goes_behind step c.args.node.now (at.behind c.steps_before-place.result step (omega arith) e)
                (λ own. w.is_of.ensures.no w.if-is_of.false (subst (λ (s : Step). s.node ≡ c.args.node.now) (sym same) own))
            | else-place-steps-via-else-place-steps w ↦
                let within : c.steps_before-place.result < length c.args.steps.now = slice_get_within c.args.steps.now c.steps_before-place.result step e in
                absurd (omega arith)
          ]),
    )
