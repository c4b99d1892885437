use Rattle.std.proofs.Common.{refl, inr}
use Rattle.vx_names.specs.declared.operator.Operator.TheVariants as o
use Rattle.vx_program.proofs.reserved.push_arithmetic.Goals as goal

pub push_of_integers-requires : goal.push_of_integers-requires
push_of_integers-requires c = inr (o.Plus, refl)

pub push_of_integers-requires-2 : goal.push_of_integers-requires-2
push_of_integers-requires-2 c = inr (o.Minus, refl)

pub push_of_integers-requires-3 : goal.push_of_integers-requires-3
push_of_integers-requires-3 c = inr (o.Star, refl)
