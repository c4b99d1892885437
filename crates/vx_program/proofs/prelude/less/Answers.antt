use Rattle.std.proofs.Common.{refl, inr}
use Rattle.vx_names.specs.declared.operator.Operator.TheVariants as o
use Rattle.vx_program.proofs.prelude.less.Goals as goal

pub sent_to_two-requires : goal.sent_to_two-requires
sent_to_two-requires c = inr (o.Less, refl)
