use Rattle.std.proofs.Common.{refl}
use Rattle.vx_batch.proofs.Replies.{finished_none, finished_one, finished_part}
use Rattle.vx_batch.proofs.script.answer_rest.Goals as goal

pub returns-in-Ok-None-clause-ok : goal.returns-in-Ok-None-clause-ok
returns-in-Ok-None-clause-ok g c =
    let none = rw c.in-Ok-None.field-0-is at c.in-Ok-None.ensures.none in
    λ edits is. finished_none edits c.args.blocks.now _ (none.0 refl)

pub returns-in-Ok-clause-ok : goal.returns-in-Ok-clause-ok
returns-in-Ok-clause-ok g c =
    let found = rw c.in-Ok-Some.field-0-is at c.in-Ok-Some.ensures.block in
    λ edits is. finished_one edits _ _ c.args.blocks.now found.0 _ _ (c.in-Ok.ensures.ok edits found.0 found.1 is) found.2

pub returns-in-Err-answer_block-clause-cut : goal.returns-in-Err-answer_block-clause-cut
returns-in-Err-answer_block-clause-cut g c =
    let found = rw c.in-Ok-Some.field-0-is at c.in-Ok-Some.ensures.block in
    λ e edits is. finished_part edits c.args.blocks.now found.0 _ _ (c.in-Err-answer_block.ensures.cut e edits found.0 found.1 is) found.2
