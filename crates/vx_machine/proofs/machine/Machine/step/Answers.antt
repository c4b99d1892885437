use Rattle.std.proofs.Common.{◌∷◌, length, refl}
use Rattle.vx_machine.proofs.Running.{fetches}
use Rattle.vx_machine.proofs.Sound.{takes_next}
use Rattle.vx_machine.proofs.Views.{kept_of}
use Rattle.vx_machine.proofs.machine.Machine.step.Goals as goal

pub returns-in-Some-clause-does : goal.returns-in-Some-clause-does
returns-in-Some-clause-does c = rw (← c.self.view_is)
    (fetches c.args.ready.now c.in-Some.instr.now c.fetch.new.self c.act.result (kept_of c.self.inside) c.act.new.self
    (c.in-Some.ensures.some c.in-Some.instr.now refl) c.act.ensures.does)

pub returns-in-Some-clause-later : goal.returns-in-Some-clause-later
returns-in-Some-clause-later c = λ all covers. rw (← c.self.view_is) (c.act.ensures.later all covers)

pub invariant_of-self-in-Some : goal.invariant_of-self-in-Some
invariant_of-self-in-Some c = (
  takes_next (length c.self.inside.texts) (length c.self.inside.captured.items) c.self.inside.activations c.fetch.new.self
      (c.in-Some.instr.now ∷ c.fetch.new.self.running.left) (c.in-Some.ensures.some c.in-Some.instr.now refl) c.self.invariant.0,
  c.self.invariant.1,
)
