use Rattle.std.specs.Char.{is_ascii_digit}
use Rattle.vx_reader.proofs.Runs.{run_taken, run_all_pass}
use Rattle.vx_reader.proofs.tokenizer.number_front.Goals as goal

pub number-requires : goal.number-requires
number-requires c = rw (c.number_len-len.ensures, run_taken is_ascii_digit c.args.bytes.now) (run_all_pass is_ascii_digit c.args.bytes.now)
