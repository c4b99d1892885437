use Rattle.std.proofs.Common.{sym, ◌≡◌, Some, arith}
use Rattle.vx_places.specs.ImageMachine.{block_at}
use Rattle.vx_format.specs.declared.image.Instr.TheVariants as instrs
use Rattle.vx_compilation.specs.Activations.{ToCode}
use Rattle.vx_machine.proofs.Calling.{call_done, call_lacks, passes}
use Rattle.vx_machine.proofs.machine.Machine.call.Goals as goal

pub returns-then-operands-count-clause-does : goal.returns-then-operands-count-clause-does
returns-then-operands-count-clause-does c = λ all covers.
    let at : block_at c.args.ready.now c.args.code 0 ≡ Some c.in-Some.block.now = sym c.in-Some.ensures in
    call_lacks c.args.ready.now all c.args.code c.in-Some.block.now c.args.self.now at (rw (← c.self.view_is) (omega arith))

pub returns-clause-does : goal.returns-clause-does
returns-clause-does c =
    let at : block_at c.args.ready.now c.args.code 0 ≡ Some c.in-Some.block.now = sym c.in-Some.ensures in
    passes c.args.ready.now (instrs.Call c.args.code) (ToCode c.args.code) c.in-Some.block.now.formals c.enter.result c.args.self.now c.enter.new.self
    (λ all. call_done c.args.ready.now all c.args.code c.in-Some.block.now c.args.self.now at (rw (← c.self.view_is) (omega arith))) c.enter.ensures.does
