use Rattle.std.proofs.Common.{refl, inr, rules}
use Rattle.vx_names.specs.declared.operator.Operator.TheVariants as o
use Rattle.vx_program.proofs.reserved.push_joining.Goals as goal

pub push_of_strings-requires : goal.push_of_strings-requires
push_of_strings-requires c = inr (o.PlusPlus, refl)

pub push-requires : goal.push-requires
push-requires c = (inr (o.EqualEqual, refl), search rules)
