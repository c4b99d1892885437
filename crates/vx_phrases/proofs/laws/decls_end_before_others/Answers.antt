use Rattle.vx_phrases.proofs.DeclEnds.{over, words_over}
use Rattle.vx_phrases.proofs.laws.decls_end_before_others.Goals as goal

pub returns-clause-decls : goal.returns-clause-decls
returns-clause-decls c = over

pub returns-clause-words : goal.returns-clause-words
returns-clause-words c = words_over
