use Rattle.std.proofs.Common.{subst, sym}
use Rattle.vx_node.specs.Traces.{IsTrace}
use Rattle.vx_node.specs.Places.{BelongsAt}
use Rattle.vx_node.proofs.Placing.{placed}
use Rattle.vx_node.proofs.trace.Trace.insert.Goals as goal

pub invariant_of-self : goal.invariant_of-self
invariant_of-self c = let e = (c.in_err-insert.ensures).items in subst IsTrace (sym e) c.self.invariant

pub invariant_of-self-2 : goal.invariant_of-self-2
invariant_of-self-2 c =
    let e = (c.in_ok-insert.ensures).items in
    let belongs : BelongsAt c.args.step.node c.args.place c.self.inside.steps.items = rw c.self.view_is c.requires.belongs in
    subst IsTrace (sym e) (placed c.args.place c.self.inside.steps.items c.args.step belongs c.self.invariant)
