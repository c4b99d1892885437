use Rattle.std.proofs.Common.{rules, refl, ◌∙◌}
use Rattle.vx_node.specs.declared.asker.Halt.TheVariants as h
use Rattle.vx_node.proofs.Leaving.{added, wants_memory, handed_on}
use Rattle.vx_answers.specs.SendRows.{beside}
use Rattle.vx_bind.specs.Sides.{filter_of}
use Rattle.vx_walks.proofs.Looping.{begins, turns, turn_stops}
use Rattle.vx_bind.proofs.telling.besides.Goals as goal

pub loop-x-init : goal.loop-x-init
loop-x-init g c = (refl, c.requires.ready, λ go. begins _ _ _ (beside (filter_of c.args.side)) go c.args.names.now c.new-told.result c.new-told.ensures)

pub returns-in_err-push-in-Ok-clause-leaves : goal.returns-in_err-push-in-Ok-clause-leaves
returns-in_err-push-in-Ok-clause-leaves g c go =
    handed_on _ _ go c.from_residual.result h.OutOfMemory _ _ _ _ (search rules)
    (wants_memory (added (c.loop-x.invariant.2 go).adds c.in-Ok.ensures.follows.adds))

pub returns-in-Err-clause-leaves : goal.returns-in-Err-clause-leaves
returns-in-Err-clause-leaves g c go =
    turn_stops (beside (filter_of c.args.side)) go c.args.names.now c.loop-x.x-index c.x-item.result c.loop-x.told c.loop-x-test.true c.x-item.is
    (c.loop-x.invariant.2 go) c.in-Err.ensures.follows

pub loop-x-preserved : goal.loop-x-preserved
loop-x-preserved g c = (
  c.beside.ensures.same ∙ c.loop-x.invariant.0,
  c.beside.ensures.ready,
  λ go.
      turns (beside (filter_of c.args.side)) go c.args.names.now c.loop-x.x-index c.x-item.result c.loop-x.told c.in-Ok.one _ c.loop-x-test.true c.x-item.is
      c.in_ok-push-in-Ok.ensures.ok (c.loop-x.invariant.2 go) c.in-Ok.ensures.follows,
)
