use Rattle.std.proofs.Common.{◌∙◌, arith}
use Rattle.vx_link.proofs.Bytes.{four_bytes}
use Rattle.vx_link.proofs.numbers.bytes_of_u32.Goals as goal

pub returns : goal.returns
returns c = c.to_be_bytes.ensures ∙ four_bytes c.args.n (omega arith)
