use Rattle.std.proofs.Common.{◌∙◌, sym}
use Rattle.vx_places.specs.ImageMachine.{set_name}
use Rattle.vx_machine.specs.Meaning.{arguments, frames, state_of}
use Rattle.vx_machine.proofs.Calling.{arguments_length}
use Rattle.vx_machine.proofs.Sending.{not_two}
use Rattle.vx_machine.proofs.machine.Machine.set_of.Goals as goal

pub returns-then-count-ne2-clause-does : goal.returns-then-count-ne2-clause-does
returns-then-count-ne2-clause-does c = λ all covers.
    not_two c.args.ready.now c.args.field (set_name c.args.table.now.name) (arguments all c.args.count c.args.self.now)
    (frames c.args.ready.now all c.args.count c.args.self.now) (state_of all c.args.self.now)
    (λ two. c.if-count-ne2.true (sym (arguments_length all c.args.count c.args.self.now c.requires.enough) ∙ two))
