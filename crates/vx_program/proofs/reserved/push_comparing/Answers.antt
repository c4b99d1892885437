use Rattle.std.proofs.Common.{refl, inr}
use Rattle.vx_names.specs.declared.operator.Operator.TheVariants as o
use Rattle.vx_program.proofs.reserved.push_comparing.Goals as goal

pub push_of_integers-requires : goal.push_of_integers-requires
push_of_integers-requires c = inr (o.Less, refl)

pub push_of_integers-requires-2 : goal.push_of_integers-requires-2
push_of_integers-requires-2 c = inr (o.Equal, refl)

pub push_of_strings-requires : goal.push_of_strings-requires
push_of_strings-requires c = inr (o.Equal, refl)
