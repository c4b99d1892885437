use Rattle.vx_reader.proofs.GreatNumbers.{great_alike}
use Rattle.vx_reader.proofs.laws.great_numbers_are_alike.Goals as goal

pub returns : goal.returns
returns c = great_alike c.decl_steps_follow_the_grammar.ensures.number c.key_steps_follow_the_grammar.ensures.number
