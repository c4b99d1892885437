use Rattle.vx_syntax.proofs.ShallowDecls.{added_is_shallow}
use Rattle.vx_syntax.proofs.laws.canonical_tokens_are_shallow.Goals as goal

pub returns : goal.returns
returns c = added_is_shallow
