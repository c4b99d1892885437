-- Each number is that of its operation.
use Rattle.std.proofs.Common.{◌≡◌, ◌∙◌, List, ap, sym}
use Rattle.std.proofs.lemmas.Result.{IfOk-weaker}
use Rattle.vx_syntax.specs.declared.decl.Decl.{Decl}
use Rattle.vx_model.specs.Values.{truth}
use Rattle.vx_model.specs.Primitives.{Join, deed, performed}
use Rattle.vx_model.proofs.primitives.perform.Goals as goal

pub returns-in-0 : goal.returns-in-0
returns-in-0 c = c.added.ensures c.args.program.now ∙ ap (λ n. performed (truth c.args.program.now) n c.args.values.now) (sym c.in-0.is)

pub returns-in-1 : goal.returns-in-1
returns-in-1 c = c.subtracted.ensures c.args.program.now ∙ ap (λ n. performed (truth c.args.program.now) n c.args.values.now) (sym c.in-1.is)

pub returns-in-2 : goal.returns-in-2
returns-in-2 c = c.multiplied.ensures c.args.program.now ∙ ap (λ n. performed (truth c.args.program.now) n c.args.values.now) (sym c.in-2.is)

pub returns-in-3 : goal.returns-in-3
returns-in-3 c = c.divided.ensures c.args.program.now ∙ ap (λ n. performed (truth c.args.program.now) n c.args.values.now) (sym c.in-3.is)

pub returns-in-4 : goal.returns-in-4
returns-in-4 c = c.remainder.ensures c.args.program.now ∙ ap (λ n. performed (truth c.args.program.now) n c.args.values.now) (sym c.in-4.is)

pub returns-in-8 : goal.returns-in-8
returns-in-8 c =
    IfOk-weaker c.joined.result (λ what. (program : List Decl) → what ≡ deed program Join c.args.values.now)
    (λ what. what ≡ performed (truth c.args.program.now) c.args.number c.args.values.now)
    (λ what all. all c.args.program.now ∙ ap (λ n. performed (truth c.args.program.now) n c.args.values.now) (sym c.in-8.is))
    c.joined.ensures
