use Rattle.std.proofs.Common.{ℕ, List, ◌∙◌, subst}
use Rattle.std.proofs.lemmas.Result.{IfOk-weaker}
use Rattle.vx_batch.specs.Steps.{IsAnswered}
use Rattle.vx_batch.proofs.Steps.{answers_read, answers_too_long}
use Rattle.vx_batch.proofs.session.Session.answer.Goals as goal

pub returns-in-Whole-clause-answers : goal.returns-in-Whole-clause-answers
returns-in-Whole-clause-answers c =
    IfOk-weaker c.read.result _ _ (λ text answered edits bytes is after_it.
    let block = rw c.in-Whole.is at is in
    let now = subst (λ (b : List ℕ). IsAnswered c.args.self.now.program c.read.new.self.program c.args.self.now.accepted c.read.new.self.accepted b text.items) (c.as_slice.ensures.value ∙ block.0) answered in
    answers_read _ _ _ _ bytes _ edits now block.1 after_it) c.read.ensures.answered

pub returns-in-TooLong-clause-answers : goal.returns-in-TooLong-clause-answers
returns-in-TooLong-clause-answers c =
    IfOk-weaker c.refused_too_long.result _ _ (λ text refused edits bytes is after_it.
    answers_too_long _ _ c.in-TooLong.len _ edits bytes refused (rw c.in-TooLong.is at is) after_it) c.refused_too_long.ensures
