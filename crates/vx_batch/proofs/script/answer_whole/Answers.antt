use Rattle.std.proofs.Common.{arith}
use Rattle.vx_batch.proofs.Replies.{replied_more, cut_more}
use Rattle.vx_batch.proofs.script.answer_whole.Goals as goal

pub returns-in-Err-answer_block-clause-cut : goal.returns-in-Err-answer_block-clause-cut
returns-in-Err-answer_block-clause-cut g c =
    let found = rw c.in-Ok-Some.field-0-is at c.in-Ok-Some.ensures.block in
    λ e edits is.
    let now = c.loop-block.invariant.0 edits is in
    cut_more edits now.0 _ _ found.0 c.next.new.self _ _ _ now.2 found.2 (c.in-Err-answer_block.ensures.cut e now.0 found.0 found.1 now.1)

pub loop-block-preserved : goal.loop-block-preserved
loop-block-preserved g c =
    let found = rw c.in-Ok-Some.field-0-is at c.in-Ok-Some.ensures.block in
    let shorter = rw c.in-Ok-Some.field-0-is at c.in-Ok-Some.ensures.shorter in (
      λ edits is.
          let now = c.loop-block.invariant.0 edits is in
          let block = c.in-Ok.ensures.ok now.0 found.0 found.1 now.1 in
          (block.next, block.state, replied_more edits now.0 _ _ _ _ found.0 c.next.new.self _ _ _ now.2 found.2 block),
      omega (arith, c.loop-block.invariant.1, c.answer_block.ensures.few, shorter),
      omega (arith, c.loop-block.invariant.2, c.answer_block.ensures.counted),
    )
