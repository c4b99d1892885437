use Rattle.std.proofs.Common.{ap, Some}
use Rattle.vx_format.specs.declared.image.Does.TheVariants as deeds
use Rattle.vx_compilation.specs.Activations.{Target, ToCode}
use Rattle.vx_places.specs.ImageMachine.{by_place}
use Rattle.vx_machine.specs.Meaning.{reached}
use Rattle.vx_machine.proofs.Sending.{goes_on}
use Rattle.vx_machine.proofs.machine.Machine.split.Goals as goal

pub returns-in-None-clause-does : goal.returns-in-None-clause-does
returns-in-None-clause-does c = λ table all covers.
    ap (λ (target : Target by_place). reached c.args.ready.now target all c.args.count c.args.self.now) (c.in-None.ensures all table)

pub returns-in-Some-clause-does : goal.returns-in-Some-clause-does
returns-in-Some-clause-does c = λ table.
    goes_on c.args.ready.now table (deeds.Code c.args.code (Some c.args.split.now)) (ToCode c.in-Some.code) c.args.count c.enter.result
    c.args.self.now c.enter.new.self (λ all. c.in-Some.ensures all table) c.enter.ensures.does
