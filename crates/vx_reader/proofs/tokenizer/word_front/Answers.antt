use Rattle.vx_names.specs.Bytes.{is_word_byte}
use Rattle.vx_reader.proofs.Runs.{run_taken, letter_and_run}
use Rattle.vx_reader.proofs.tokenizer.word_front.Goals as goal

pub word-requires : goal.word-requires
word-requires c = rw (c.word_len-len.ensures, run_taken is_word_byte c.args.bytes.now) (letter_and_run c.args.bytes.now c.requires.some c.requires.letter)
