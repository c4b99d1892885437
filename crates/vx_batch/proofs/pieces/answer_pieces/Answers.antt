use Rattle.std.proofs.Common.{◌≡◌, take, length, Err, refl, ap, arith}
use Rattle.std.proofs.lemmas.List.{length-take-le}
use Rattle.vx_batch.proofs.Reading.{start, step, too_long, all_answered, cut_rest, none_more, some_more, cut_piece, none_of_rest, not_true, risen_from, stopped}
use Rattle.vx_batch.proofs.pieces.answer_pieces.Goals as goal

pub loop-count-init : goal.loop-count-init
loop-count-init g c = (rw (c.requires.program, c.requires.accepted, c.requires.empty) (start _ _), omega arith, omega arith)

pub returns-then-count-taken : goal.returns-then-count-taken
returns-then-count-taken g c =
    let bytes = c.in-Bytes.ensures.bytes in
    let len : length (take c.in-Bytes.count c.read.new.into) ≡ c.in-Bytes.count = length-take-le c.in-Bytes.count c.read.new.into (omega (arith, bytes.1, c.read.auto.into)) in
    let within = c.loop-count.invariant.0.within in
    (not_true _ (λ t. let e = c.in-Bytes.ensures.ended.0 t in cc), too_long _ _ _ _ _ _ _ _ _ _ c.loop-count.invariant.0 bytes.2 (omega arith) (omega arith))

pub returns-in_default : goal.returns-in_default
returns-in_default g c =
    let bytes = c.in-Bytes.ensures.bytes in
    let len : length (take c.in-Bytes.count c.read.new.into) ≡ c.in-Bytes.count = length-take-le c.in-Bytes.count c.read.new.into (omega (arith, bytes.1, c.read.auto.into)) in
    let within = c.loop-count.invariant.0.within in
    none_more c.every_block_is_read.ensures _ _ _ _ _ _ _ _ _ _ c.loop-count.invariant.0 bytes.2 (omega arith)

pub loop-count-preserved : goal.loop-count-preserved
loop-count-preserved g c =
    let bytes = c.in-Bytes.ensures.bytes in
    let len : length (take c.in-Bytes.count c.read.new.into) ≡ c.in-Bytes.count = length-take-le c.in-Bytes.count c.read.new.into (omega (arith, bytes.1, c.read.auto.into)) in
    let within = c.loop-count.invariant.0.within in
    let answered = c.in-Ok-answer_whole.ensures.ok c.loop-count.invariant.0.last c.loop-count.invariant.0.state in
    let replied = rw c.in-Ok.ensures.ok at answered.2 in
    let few = rw c.in-Ok.ensures.ok at c.in-Ok-answer_whole.ensures.few in
    let more = step _ _ _ _ _ c.answer_whole.new.session.program _ c.answer_whole.new.session.accepted _ (take c.in-Bytes.count c.read.new.into) c.answer_whole.new.blocks _ _ _ answered.0 c.loop-count.invariant.0 bytes.2 (omega arith) answered.1 replied c.in-Ok-answer_whole.ensures.none_left few in
    (rw len at more, omega (arith, c.loop-count.invariant.1, c.read.ensures.counted), omega (arith, c.loop-count.invariant.2, c.answer_whole.ensures.counted))

pub returns-in-Err : goal.returns-in-Err
returns-in-Err g c =
    let bytes = c.in-Bytes.ensures.bytes in
    let len : length (take c.in-Bytes.count c.read.new.into) ≡ c.in-Bytes.count = length-take-le c.in-Bytes.count c.read.new.into (omega (arith, bytes.1, c.read.auto.into)) in
    let within = c.loop-count.invariant.0.within in
    let h = c.loop-count.invariant.0 in
    stopped c.in-Err.stop _ _ _ _ _ _ _ _ _
    (λ e. (risen_from _ _ _ c.loop-count.invariant.2 (c.in-Err.ensures.failed (ap Err e)), cut_piece c.every_block_is_read.ensures _ _ _ _ _ _ _ _ _ _ _ h bytes.2 (omega arith) (rw c.in-Ok.ensures.ok at (c.in-Err.ensures.cut (ap Err e) h.last h.state))))
    (λ e. let out = c.in-Err.ensures.memory (ap Err e) h.last h.state in some_more c.every_block_is_read.ensures _ _ _ _ _ _ _ _ out.1.0 _ _ _ out.0 h bytes.2 (omega arith) (rw c.in-Ok.ensures.ok at out.1.1))

pub returns-in-Ok-answer_rest : goal.returns-in-Ok-answer_rest
returns-in-Ok-answer_rest g c =
    let h = c.loop-count.invariant.0 in
    (c.in-End.ensures.ended.1 refl, rw c.in-End.ensures.none (all_answered _ _ _ _ _ _ _ _ _ h (c.in-End.ensures.end refl) (c.in-Ok-answer_rest.ensures.ok h.last h.state)))

pub returns-in-Err-answer_rest : goal.returns-in-Err-answer_rest
returns-in-Err-answer_rest g c =
    let h = c.loop-count.invariant.0 in
    stopped c.in-Err-answer_rest.stop _ _ _ _ _ _ _ _ _
    (λ e. (risen_from _ _ _ c.loop-count.invariant.2 (c.in-Err-answer_rest.ensures.failed (ap Err e)), rw c.in-End.ensures.none (cut_rest _ _ _ _ _ _ _ _ _ h (c.in-End.ensures.end refl) (c.in-Err-answer_rest.ensures.cut (ap Err e) h.last h.state))))
    (λ e. rw (c.in-End.ensures.none, c.in-Err-answer_rest.ensures.memory (ap Err e)) (none_of_rest c.every_block_is_read.ensures _ _ _ _ _ _ _ _ h))
