use Rattle.std.proofs.Common.{ap, refl}
use Rattle.vx_node.specs.declared.answer.Answer.TheVariants as answers
use Rattle.vx_answers.specs.Answers.{target_row}
use Rattle.vx_node.proofs.Leaving.{no_memory}
use Rattle.vx_compute.proofs.Wrapping.{wrapped, wrapped_stops}
use Rattle.vx_compute.proofs.rows.target_answer.Goals as goal

pub returns-in-Ok-clause-follows : goal.returns-in-Ok-clause-follows
returns-in-Ok-clause-follows g c = wrapped (target_row c.args.target.now) answers.Unit (ap target_row c.in-Shape.is) c.in-Ok.ensures.follows

pub returns-in-Err-clause-follows : goal.returns-in-Err-clause-follows
returns-in-Err-clause-follows g c = wrapped_stops (target_row c.args.target.now) answers.Unit (ap target_row c.in-Shape.is) c.in-Err.ensures.follows

pub returns-in_default : goal.returns-in_default
returns-in_default g c = record { ready = c.requires.ready; same = refl; follows = no_memory }
