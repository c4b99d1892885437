use Rattle.std.proofs.Common.{sym, ap, map, ◌≡◌, Some}
use Rattle.vx_places.specs.ImageMachine.{block_at}
use Rattle.vx_machine.specs.Meaning.{slot_of}
use Rattle.vx_machine.proofs.Leaving.{turned}
use Rattle.vx_machine.proofs.Stack.{part_stays}
use Rattle.vx_machine.proofs.Views.{kept_of}
use Rattle.vx_machine.proofs.machine.Machine.turn.Goals as goal

pub returns-clause-does : goal.returns-clause-does
returns-clause-does c = λ all covers.
    let at : block_at c.args.ready.now c.args.held.code c.args.held.block ≡ Some c.in-Some.block.now = sym c.in-Some.ensures in
    rw (← c.self.view_is, c.in_ok-restart.ensures.ok) (turned c.args.ready.now all
    (kept_of c.self.inside) c.args.held c.in-Some.block.now c.part-captures.result.now at
    (ap (map (slot_of all.texts)) (part_stays c.self.inside.captured.items all.captured c.part-captures.result.now c.args.held.first c.args.held.count covers.1
    (rw (← c.self.view_is) at c.requires) (rw c.as_slice.ensures.value at c.part-captures.ensures))))
