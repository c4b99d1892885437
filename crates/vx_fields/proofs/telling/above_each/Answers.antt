use Rattle.std.proofs.Common.{rules, refl, ◌∙◌}
use Rattle.vx_node.specs.declared.asker.Halt.TheVariants as halts
use Rattle.vx_node.proofs.Leaving.{added, wants_memory, handed_on}
use Rattle.vx_fields.specs.Questions.{with_above}
use Rattle.vx_walks.proofs.Looping.{begins, turns, turn_stops}
use Rattle.vx_fields.proofs.telling.above_each.Goals as goal

pub loop-key-init : goal.loop-key-init
loop-key-init g c = (refl, c.requires.ready, λ go. begins _ _ _ with_above go c.args.keys.now c.new-all.result c.new-all.ensures)

pub returns-in_err-push-in-Ok-clause-leaves : goal.returns-in_err-push-in-Ok-clause-leaves
returns-in_err-push-in-Ok-clause-leaves g c go =
    handed_on _ _ go c.from_residual.result halts.OutOfMemory _ _ _ _ (search rules)
    (wants_memory (added (c.loop-key.invariant.2 go).adds c.in-Ok.ensures.follows.adds))

pub returns-in-Err-clause-leaves : goal.returns-in-Err-clause-leaves
returns-in-Err-clause-leaves g c go =
    turn_stops with_above go c.args.keys.now c.loop-key.key-index c.key-item.result c.loop-key.all c.loop-key-test.true c.key-item.is
    (c.loop-key.invariant.2 go) c.in-Err.ensures.follows

pub loop-key-preserved : goal.loop-key-preserved
loop-key-preserved g c = (
  c.with_above.ensures.same ∙ c.loop-key.invariant.0,
  c.with_above.ensures.ready,
  λ go.
      turns with_above go c.args.keys.now c.loop-key.key-index c.key-item.result c.loop-key.all c.in-Ok.one _ c.loop-key-test.true
      c.key-item.is c.in_ok-push-in-Ok.ensures.ok (c.loop-key.invariant.2 go) c.in-Ok.ensures.follows,
)
