use Rattle.std.proofs.Common.{refl, inr, rules}
use Rattle.vx_names.specs.declared.operator.Operator.TheVariants as o
use Rattle.vx_program.proofs.prelude.push_comparisons.Goals as goal

pub binary-requires : goal.binary-requires
binary-requires c = (inr (o.LessEqual, refl), search rules)

pub binary-requires-2 : goal.binary-requires-2
binary-requires-2 c = (inr (o.Greater, refl), search rules)

pub binary-requires-3 : goal.binary-requires-3
binary-requires-3 c = (inr (o.GreaterEqual, refl), search rules)
