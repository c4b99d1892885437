use Rattle.std.proofs.Common.{◌≤◌, length, arith}
use Rattle.vx_format.specs.declared.image.Instr.TheVariants as instrs
use Rattle.vx_compilation.specs.Machine.{sets}
use Rattle.vx_places.specs.ImageMachine.{world}
use Rattle.vx_machine.specs.Meaning.{machine_of}
use Rattle.vx_machine.proofs.Calling.{takes}
use Rattle.vx_machine.proofs.Leaving.{follows}
use Rattle.vx_machine.proofs.machine.Machine.set.Goals as goal

pub returns-clause-does : goal.returns-clause-does
returns-clause-does c =
    let enough : 2 ≤ length c.args.self.now.stacked.running.operands = rw (← c.self.view_is) (omega arith) in
    follows c.args.ready.now (instrs.Set c.args.field) c.set_top.result c.args.self.now c.set_top.new.self _
    (λ all. takes c.args.ready.now all 2 c.args.self.now (λ values frames. sets (world c.args.ready.now) c.args.field values frames
    (machine_of c.args.ready.now all c.args.self.now).state) enough)
    c.set_top.ensures.does
