use Rattle.vx_machine.proofs.Deeds.{joins_done}
use Rattle.vx_machine.proofs.machine.Machine.perform.Goals as goal

pub returns-in-8-clause-does : goal.returns-in-8-clause-does
returns-in-8-clause-does c =
    joins_done c.args.ready.now c.args.number c.join.result c.args.self.now c.join.new.self c.in-8.is (c.join.ensures.does c.args.ready.now)
