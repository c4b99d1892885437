use Rattle.vx_phrases.proofs.DeclFinish.{finish}
use Rattle.vx_phrases.proofs.DeclCounts.{grows}
use Rattle.vx_phrases.proofs.laws.decls_can_be_finished.Goals as goal

pub returns-clause-finish : goal.returns-clause-finish
returns-clause-finish c = finish c.states_can_be_finished.ensures.finish

pub returns-clause-grows : goal.returns-clause-grows
returns-clause-grows c = grows c.bodies_begin.ensures.names c.names_come_singly.ensures
