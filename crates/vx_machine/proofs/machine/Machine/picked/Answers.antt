use Rattle.vx_machine.proofs.Sending.{picks}
use Rattle.vx_machine.proofs.Views.{kept_of}
use Rattle.vx_machine.proofs.machine.Machine.picked.Goals as goal

pub returns-clause-picked : goal.returns-clause-picked
returns-clause-picked c = rw (← c.self.view_is)
    (picks c.args.ready.now c.args.table.now c.args.below c.args.count c.arguments-words.result.now c.as_slice-objects.result.now c.picked.result
    (kept_of c.self.inside) c.as_slice-objects.ensures.value c.arguments-words.ensures c.picked.ensures)
