use Rattle.vx_batch.proofs.Replies.{refused_changes_nothing}
use Rattle.vx_batch.proofs.top.refused_edits_change_nothing.Goals as goal

pub returns : goal.returns
returns c = refused_changes_nothing c.one_reading.ensures
