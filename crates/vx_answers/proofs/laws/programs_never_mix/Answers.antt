use Rattle.vx_answers.proofs.NeverMixed.{never_mixed}
use Rattle.vx_answers.proofs.laws.programs_never_mix.Goals as goal

pub returns : goal.returns
returns c = never_mixed
