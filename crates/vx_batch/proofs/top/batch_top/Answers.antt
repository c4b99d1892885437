use Rattle.vx_batch.proofs.Replies.{never_whole}
use Rattle.vx_batch.proofs.top.batch_top.Goals as goal

pub returns-in-Stopped-WriteFailed-clause-answered_always :
    goal.returns-in-Stopped-WriteFailed-clause-answered_always
returns-in-Stopped-WriteFailed-clause-answered_always g c =
    let ended = rw c.in-Stopped-WriteFailed.field-0-is at c.in-Stopped-WriteFailed.ensures in
    λ _ _. never_whole c.one_reading.ensures _ _ _ _ _ ended.1
