use Rattle.vx_syntax.proofs.RoundKeys.{key_of, key_meant}
use Rattle.vx_syntax.proofs.laws.written_keys_are_read.Goals as goal

pub returns-clause-read : goal.returns-clause-read
returns-clause-read c = key_of

pub returns-clause-meant : goal.returns-clause-meant
returns-clause-meant c = key_meant
