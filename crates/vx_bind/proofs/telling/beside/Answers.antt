use Rattle.vx_bind.specs.Sides.{filter_of}
use Rattle.vx_bind.proofs.Courses.{beside_untold}
use Rattle.vx_bind.proofs.telling.beside.Goals as goal

pub returns-in-Err-clause-follows : goal.returns-in-Err-clause-follows
returns-in-Err-clause-follows g c = beside_untold (filter_of c.args.side) c.args.x.now c.in-Err.ensures.follows
