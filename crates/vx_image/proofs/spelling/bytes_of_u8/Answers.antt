use Rattle.std.proofs.Common.{◌∙◌}
use Rattle.vx_image.proofs.Written.{one_byte}
use Rattle.vx_image.proofs.spelling.bytes_of_u8.Goals as goal

pub returns : goal.returns
returns c = c.to_be_bytes.ensures ∙ one_byte c.args.n
