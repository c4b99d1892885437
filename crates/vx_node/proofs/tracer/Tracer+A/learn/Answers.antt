use Rattle.std.proofs.Common.{◌≡◌, ◌∙◌, ap, insert}
use Rattle.vx_node.specs.declared.trace.Step.{Step}
use Rattle.vx_node.proofs.Learning.{nothing_new, known, put, put_at, adds}
use Rattle.vx_node.proofs.tracer.Tracer+A.learn.Goals as goal

pub returns-in-Ok-clause-learns : goal.returns-in-Ok-clause-learns
returns-in-Ok-clause-learns g c =
    let found = c.in-Ok.ensures.found in
    (found.0, found.1, record { adds = nothing_new _ _ _; reaches = known _ c.in-Ok.place found.0 _ found.1 found.2 })

pub returns-in_ok-insert-in-Known-clause-learns : goal.returns-in_ok-insert-in-Known-clause-learns
returns-in_ok-insert-in-Known-clause-learns g c =
    let step : Step = record { node = c.args.node.now; value = c.in-Known.value } in
    let same : c.in_ok-own-in-Err.own ≡ c.args.node.now = c.in_ok-own-in-Err.ensures in
    let is : c.insert.new.self ≡ insert c.args.self.now.trace c.in-Err.place step =
    c.in_ok-insert-in-Known.ensures.ok
    ∙ ap (λ n. insert c.args.self.now.trace c.in-Err.place (record { node = n; value = c.in-Known.value })) same in (
      step,
      put_at _ _ c.in-Err.place _ _ is c.in-Err.ensures.missing.0,
      record {
        adds = adds _ _ _ _ _ c.in-Err.place _ _ is c.in-Known.ensures.answered.0 c.in-Known.ensures.answered.1;
        reaches = put _ _ c.in-Err.place _ _ is;
      },
    )
