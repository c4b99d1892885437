use Rattle.std.proofs.Common.{rules, subst}
use Rattle.vx_node.specs.Asking.{gives}
use Rattle.vx_node.specs.Askers.{Goes, Stops}
use Rattle.vx_node.proofs.Leaving.{as_it_is}
use Rattle.vx_answers.specs.Answers.{row}
use Rattle.vx_compute.proofs.Coming.{computes_found, computes_stopped}
use Rattle.vx_compute.proofs.computing.compute.Goals as goal

pub returns-in-Ok-answered-clause-computes : goal.returns-in-Ok-answered-clause-computes
returns-in-Ok-answered-clause-computes g c =
    let began = subst (λ s. Goes g.A.Asker.manner (row c.args.node.now) (gives c.in-Ok-answered.value) s c.new-t.result.trace
    c.answer-answered.new.t.asker.now c.answer-answered.new.t.trace) c.new-t.ensures.now c.in-Ok-answered.ensures.follows in
    let goes = subst (λ t. Goes g.A.Asker.manner (row c.args.node.now) (gives c.in-Ok-answered.value) c.args.asker.now t
    c.answer-answered.new.t.asker.now c.answer-answered.new.t.trace) c.new-t.ensures.trace began in
    computes_found _ _ c.found.result _ _ _ _ _ _ _ c.found.ensures.finding c.in-Ok.ensures c.end-trace.ensures.trace (search rules) goes

pub returns-in-Err-answered-clause-computes : goal.returns-in-Err-answered-clause-computes
returns-in-Err-answered-clause-computes g c =
    let began = subst (λ s. Stops g.A.Asker.manner (row c.args.node.now) c.in-Err-answered.halt s c.new-t.result.trace
    c.answer-answered.new.t.asker.now c.answer-answered.new.t.trace) c.new-t.ensures.now c.in-Err-answered.ensures.follows in
    let stopped = subst (λ t. Stops g.A.Asker.manner (row c.args.node.now) c.in-Err-answered.halt c.args.asker.now t
    c.answer-answered.new.t.asker.now c.answer-answered.new.t.trace) c.new-t.ensures.trace began in
    computes_stopped _ _ c.stopped.result _ _ _ _ _ c.stopped.ensures (search rules) stopped

pub returns-in-Err-clause-computes : goal.returns-in-Err-clause-computes
returns-in-Err-clause-computes g c = as_it_is _ _
