use Rattle.std.proofs.Common.{◌≡◌, ◌+◌, arith}
use Rattle.std.proofs.lemmas.Result.{err_from_is_err_and}
use Rattle.vx_image.proofs.Pieces.{goes_on, ends}
use Rattle.vx_image.proofs.part.until_at.Goals as goal

pub returns-in_err-piece : goal.returns-in_err-piece
returns-in_err-piece g c =
    let p = err_from_is_err_and c.from_residual.result c.from_residual.ensures.1 in
    let ne : c.loop.at.place ≡ c.args.at.place + c.args.count → ⊥ = λ h. omega arith in
    let end = c.args.at.place + c.args.count in
    rw (p.1, p.2) (ends c.in_err-piece.field-0.0 end
    (g.P.Piece.read c.args.context.now end) g.P.Piece.grown c.loop.pieces c.args.count c.loop.counter
    c.loop.depth c.loop.at _ c.loop-test.true ne (rw c.place.ensures.place at c.in_err-piece.ensures) c.loop.invariant.left)

pub loop-preserved : goal.loop-preserved
loop-preserved g c =
    let ne : c.loop.at.place ≡ c.args.at.place + c.args.count → ⊥ = λ h. omega arith in
    let end = c.args.at.place + c.args.count in
    record {
      left = rw (c.in_ok-push.ensures.ok, c.grow-depth.ensures.grown)
          (goes_on end (g.P.Piece.read c.args.context.now end) g.P.Piece.grown c.loop.pieces
          c.args.count c.loop.counter c.loop.depth c.loop.at c.in_ok-piece.after c.in_ok-piece.piece _ c.loop-test.true ne
          (rw c.place.ensures.place at c.in_ok-piece.ensures) c.loop.invariant.left);
      shallow = omega arith;
    }
