use Rattle.std.proofs.Common.{arith, ap, sym, ◌∙◌}
use Rattle.vx_io.proofs.Pieces.{read_front}
use Rattle.vx_io.specs.Memory.{SourceState}
use Rattle.vx_io.proofs.mem_source.MemSourceSource.read.Goals as goal

-- what was copied and what is behind it are the bytes that were left
pub returns-clause-bytes : goal.returns-clause-bytes
returns-clause-bytes c =
    let least = rw c.deref.ensures.value at c.min-count.ensures in
    let copied = rw c.deref.ensures.value at c.copy_from_slice.ensures.after in
    let left_before = ap (λ (s : SourceState). s.left) c.self.view_is in
    (grind arith, grind arith, sym left_before ∙ sym (read_front _ _ _ _ _ _ copied least))
