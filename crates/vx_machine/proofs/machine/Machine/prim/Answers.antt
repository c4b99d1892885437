use Rattle.std.proofs.Common.{ℕ, subst, arith}
use Rattle.vx_format.specs.declared.image.Instr.TheVariants as instrs
use Rattle.vx_compilation.specs.Activations.{ToPrimitive}
use Rattle.vx_places.specs.ImageMachine.{count_of}
use Rattle.vx_machine.specs.Meaning.{Reached}
use Rattle.vx_machine.proofs.Calling.{passes}
use Rattle.vx_machine.proofs.Deeds.{prim_is, prim_lacks}
use Rattle.vx_machine.proofs.machine.Machine.prim.Goals as goal

pub returns-then-operands-count-clause-does : goal.returns-then-operands-count-clause-does
returns-then-operands-count-clause-does c = λ all covers.
    prim_lacks c.args.ready.now all c.args.number c.args.self.now (rw (← c.self.view_is) (omega arith))

pub returns-clause-does : goal.returns-clause-does
returns-clause-does c =
    passes c.args.ready.now (instrs.Prim c.args.number) (ToPrimitive c.args.number) (count_of c.args.number) c.perform_top.result
    c.args.self.now c.perform_top.new.self
    (λ all. prim_is c.args.ready.now all c.args.number c.args.self.now (rw (← c.self.view_is) (omega arith)))
    (subst (λ (count : ℕ). Reached c.args.ready.now (ToPrimitive c.args.number) count c.perform_top.result c.args.self.now c.perform_top.new.self)
    c.count_of-count.ensures c.perform_top.ensures.does)
