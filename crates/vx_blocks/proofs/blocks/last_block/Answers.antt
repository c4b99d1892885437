use Rattle.std.proofs.Common.{◌≡◌, ℕ, List, [], ◌∷◌, take, sym, ◌∙◌}
use Rattle.std.proofs.lemmas.Result.{IfOk-weaker}
use Rattle.std.proofs.lemmas.List.{take_rest}
use Rattle.vx_blocks.specs.Block.{IsBlock}
use Rattle.vx_blocks.specs.Blocks.{blocks}
use Rattle.vx_blocks.proofs.Places.{last_block-ended, last_block-all}
use Rattle.vx_blocks.proofs.blocks.last_block.Goals as goal

pub returns-then-is_end_line : goal.returns-then-is_end_line
returns-then-is_end_line c =
    let bytes = c.args.bytes.now in
    let ends = last_block-ended bytes c.args.line c.requires.searched (rw take_rest at (sym c.is_end_line.ensures ∙ c.if-is_end_line.true)) in
    IfOk-weaker c.new.result _ (λ block. (whole : List ℕ) × IsBlock block whole × (blocks bytes ≡ whole ∷ [])) (λ block is. (take c.args.line bytes, is, ends)) c.new.ensures

pub returns : goal.returns
returns c =
    let bytes = c.args.bytes.now in
    let all = last_block-all bytes c.args.line c.requires.some c.requires.searched (rw take_rest at (sym c.is_end_line.ensures ∙ c.if-is_end_line.false)) in
    IfOk-weaker c.new-2.result _ (λ block. (whole : List ℕ) × IsBlock block whole × (blocks bytes ≡ whole ∷ [])) (λ block is. (bytes, is, all)) c.new-2.ensures
