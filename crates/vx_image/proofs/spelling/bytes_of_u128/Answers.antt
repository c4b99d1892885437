use Rattle.std.proofs.Common.{arith, ◌∙◌}
use Rattle.vx_image.proofs.Written.{written}
use Rattle.vx_image.proofs.spelling.bytes_of_u128.Goals as goal

pub returns : goal.returns
returns c = c.to_be_bytes.ensures ∙ written 16 c.args.n (omega arith)
