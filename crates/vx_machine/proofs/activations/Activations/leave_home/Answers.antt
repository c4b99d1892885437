use Rattle.std.proofs.Common.{◌∷◌, rules}
use Rattle.vx_machine.proofs.Stack.{left_over}
use Rattle.vx_machine.proofs.activations.Activations.leave_home.Goals as goal

pub loop-self-preserved : goal.loop-self-preserved
loop-self-preserved c = record {
  found = search rules;
  rest = left_over (c.args.self.now.running ∷ c.args.self.now.waiting) c.loop-self.self c.leave.new.self c.leave.result c.loop-self.invariant.rest
      c.leave.ensures.waits c.leave.ensures.last;
}

pub returns-then-not-leave-clause-rest : goal.returns-then-not-leave-clause-rest
returns-then-not-leave-clause-rest c =
    left_over (c.args.self.now.running ∷ c.args.self.now.waiting) c.loop-self.self c.leave.new.self c.leave.result c.loop-self.invariant.rest
    c.leave.ensures.waits c.leave.ensures.last

pub returns-clause-rest : goal.returns-clause-rest
returns-clause-rest c =
    left_over (c.args.self.now.running ∷ c.args.self.now.waiting) c.loop-self.self c.leave-2.new.self c.leave-2.result c.loop-self.invariant.rest
    c.leave-2.ensures.waits c.leave-2.ensures.last
