use Rattle.std.proofs.Common.{◌≡◌, ◌∙◌, ◌++◌, ap, filter}
use Rattle.std.specs.Option.{option_copied}
use Rattle.vx_answers.specs.OrderRows.{fresh}
use Rattle.vx_bind.proofs.Rows.{is_asked, one_head}
use Rattle.vx_bind.proofs.wanted.specialisers_asked.Goals as goal

pub loop-head-preserved : goal.loop-head-preserved
loop-head-preserved c =
    let grown : c.meet_specialisers.new.met ≡ c.loop-head.met ++ fresh c.loop-head.met (filter is_asked c.head-item.result.0.specialisers) =
    c.in_ok-meet_specialisers.ensures ∙ ap (λ xs. c.loop-head.met ++ fresh c.loop-head.met (filter is_asked xs)) c.as_slice.ensures in
    one_head c.loop-head.met c.meet_specialisers.new.met c.args.heads.now (option_copied c.args.below) c.loop-head.head-index c.head-item.result
    c.loop-head-test.true c.head-item.is grown ∙ c.loop-head.invariant
