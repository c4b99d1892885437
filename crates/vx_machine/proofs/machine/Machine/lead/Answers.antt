use Rattle.vx_format.specs.declared.image.Does.TheVariants as deeds
use Rattle.std.proofs.Common.{◌≡◌, ◌∙◌, ap, Option, Some}
use Rattle.vx_format.specs.declared.image.Split.{Split}
use Rattle.vx_machine.proofs.Sending.{led_as}
use Rattle.vx_machine.proofs.machine.Machine.lead.Goals as goal

pub returns-in_ok-split-in-Some-clause-does : goal.returns-in_ok-split-in-Some-clause-does
returns-in_ok-split-in-Some-clause-does c = λ all covers.
    let is : c.args.deed.now ≡ deeds.Code c.in-Code.code (Some c.in-Some.split) =
    c.in-Code.is ∙ ap (λ (split : Option Split). deeds.Code c.in-Code.code split) c.in-Some.is in
    led_as c.args.ready.now c.args.table.now c.args.deed.now (deeds.Code c.in-Code.code (Some c.in-Some.split)) c.args.count
    c.in_ok-split-in-Some.field-0 c.args.self.now c.split.new.self all is
    (c.in_ok-split-in-Some.ensures.does c.args.table.now all covers)
