use Rattle.std.proofs.lemmas.Option.{slice_get_within}
use Rattle.vx_inline.proofs.Asking.{asked_for, not_asked_for}
use Rattle.vx_inline.proofs.inlining.inlinable.Goals as goal

pub returns-in-Err-clause-follows : goal.returns-in-Err-clause-follows
returns-in-Err-clause-follows g c = not_asked_for c.args.key.now c.in-Err.ensures.learns

pub answer-requires : goal.answer-requires
answer-requires g c = slice_get_within _ _ c.in-Ok.ensures.learns.0 c.in-Ok.ensures.learns.1

pub returns-clause-follows : goal.returns-clause-follows
returns-clause-follows g c =
    let learned = c.in-Ok.ensures.learns in
    asked_for c.args.key.now learned.0.value c.answer.result.now c.in_ok-text.text learned.2 (c.answer.ensures learned.0 learned.1) c.in_ok-text.ensures
