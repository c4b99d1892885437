use Rattle.std.proofs.Common.{subst}
use Rattle.vx_format.specs.Format.{an_instruction, chosen, instructions}
use Rattle.vx_image.specs.Gives.{Gives}
use Rattle.vx_image.proofs.instructions.InstrPiece.read_piece.Goals as goal

pub returns-in_default : goal.returns-in_default
unfolding an_instruction
returns-in_default c =
    let later = subst (λ p. Gives (λ x. x) c.later_at.result
    (chosen (instructions c.args.context.now.roster c.args.end p) p c.in_ok-tag.tag c.in_ok-tag.at))
    c.place-place.ensures.place c.later_at.ensures in
    rw c.in_ok-tag.ensures later
