use Rattle.std.proofs.Common.{sym, subst}
use Rattle.std.specs.Option.{option_copied}
use Rattle.vx_node.specs.Askers.{Goes}
use Rattle.vx_answers.specs.SendRows.{bind_among, bind_row}
use Rattle.vx_walks.proofs.Stepping.{then_follows}
use Rattle.vx_bind.proofs.Courses.{heads_told, heads_untold}
use Rattle.vx_bind.proofs.binding.bind.Goals as goal

pub returns-in-Err-clause-follows : goal.returns-in-Err-clause-follows
returns-in-Err-clause-follows g c = heads_untold c.args.selector.now c.args.infos.now (option_copied c.args.below) c.in-Err.ensures.follows

pub returns-clause-follows : goal.returns-clause-follows
returns-clause-follows g c =
    let told = heads_told c.args.selector.now c.args.infos.now (option_copied c.args.below) c.in-Ok.heads c.in-Ok.ensures.follows in
    then_follows _ _ c.bind_among.result
    (subst (λ heads. Goes g.A.Asker.manner (bind_row c.args.selector.now c.args.infos.now (option_copied c.args.below))
    (bind_among heads c.args.infos.now (option_copied c.args.below)) c.args.t.now.asker.now c.args.t.now.trace
    c.heads.new.t.asker.now c.heads.new.t.trace) (sym c.as_slice.ensures) told) c.bind_among.ensures.follows
