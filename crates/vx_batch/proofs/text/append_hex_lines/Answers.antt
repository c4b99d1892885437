use Rattle.std.proofs.Common.{◌∙◌, arith}
use Rattle.std.proofs.lemmas.Grind.{common_steps}
use Rattle.std.specs.Slice.Iter.{chunks_rest}
use Rattle.vx_batch.proofs.Lines.{first_line}
use Rattle.vx_batch.proofs.text.append_hex_lines.Goals as goal

pub loop-piece-preserved : goal.loop-piece-preserved
loop-piece-preserved c =
    let step = c.in-Some.ensures.steps in
    let invariant = c.loop-piece.invariant in
    let first = first_line (chunks_rest c.loop-piece.piece-iterator) c.in-Some.piece.now (chunks_rest c.next.new.self) step.1.0 (rw invariant.size at step.1.1) step.1.2 in
    record { size = step.0 ∙ invariant.size; text = grind (arith, common_steps) }
