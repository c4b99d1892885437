use Rattle.vx_syntax.proofs.ReadDecls.{decl_written, key_written}
use Rattle.vx_syntax.proofs.laws.what_is_read_can_be_written.Goals as goal

pub returns-clause-decl : goal.returns-clause-decl
returns-clause-decl c = λ decl ts us h meant. (decl_written c.operators_are_names.ensures.found c.operators_are_names.ensures.words h meant).0

pub returns-clause-decl_rest : goal.returns-clause-decl_rest
returns-clause-decl_rest c = λ decl ts us h meant. (decl_written c.operators_are_names.ensures.found c.operators_are_names.ensures.words h meant).1

pub returns-clause-key : goal.returns-clause-key
returns-clause-key c = λ key ts us h meant. (key_written c.operators_are_names.ensures.found c.operators_are_names.ensures.words h meant).0

pub returns-clause-key_rest : goal.returns-clause-key_rest
returns-clause-key_rest c = λ key ts us h meant. (key_written c.operators_are_names.ensures.found c.operators_are_names.ensures.words h meant).1
