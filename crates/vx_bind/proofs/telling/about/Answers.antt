use Rattle.vx_node.proofs.Leaving.{goes_on, stops}
use Rattle.vx_bind.proofs.Courses.{base_told, base_untold, up_told, up_untold}
use Rattle.vx_bind.proofs.telling.about.Goals as goal

pub returns-in-Err-clause-follows : goal.returns-in-Err-clause-follows
returns-in-Err-clause-follows g c = base_untold c.args.x.now c.in-Err.ensures.follows

pub returns-in-Err-names_beside-clause-follows : goal.returns-in-Err-names_beside-clause-follows
returns-in-Err-names_beside-clause-follows g c =
    stops (base_told c.args.x.now c.in-Ok.base c.in-Ok.ensures.follows)
    (up_untold c.args.x.now c.in-Ok.base c.in-Err-names_beside.ensures.follows)

pub returns-clause-follows : goal.returns-clause-follows
returns-clause-follows g c =
    goes_on (base_told c.args.x.now c.in-Ok.base c.in-Ok.ensures.follows)
    (up_told c.args.x.now c.in_ok-own.own c.in-Ok.base c.in-Ok-names_beside.up c.new.result c.in_ok-own.ensures c.new.ensures
    c.in-Ok-names_beside.ensures.follows)
