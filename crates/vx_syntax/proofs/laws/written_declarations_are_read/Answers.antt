use Rattle.vx_syntax.proofs.RoundDecls.{decl_of}
use Rattle.vx_syntax.proofs.Meant.{decl_meant}
use Rattle.vx_syntax.proofs.laws.written_declarations_are_read.Goals as goal

pub returns-clause-read : goal.returns-clause-read
returns-clause-read c = decl_of

pub returns-clause-meant : goal.returns-clause-meant
returns-clause-meant c = decl_meant
