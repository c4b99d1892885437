use Rattle.std.proofs.Common.{false}
use Rattle.std.proofs.lemmas.List.{length-replicate}
use Rattle.vx_lists.proofs.Places.{none_marked}
use Rattle.vx_model.proofs.marks.Marks.none.Goals as goal

pub returns-clause-none : goal.returns-clause-none
returns-clause-none c = none_marked 4118

pub returns-clause-places : goal.returns-clause-places
returns-clause-places c = length-replicate 4118 false
