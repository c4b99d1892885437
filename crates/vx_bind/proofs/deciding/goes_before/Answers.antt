use Rattle.std.proofs.Common.{◌≡◌, ◌∙◌, ◌&&◌, length, sym, ap}
use Rattle.vx_model.specs.Lookup.{differ}
use Rattle.vx_bind.specs.Orders.{order_told}
use Rattle.vx_bind.proofs.Sides.{over_unlike}
use Rattle.vx_bind.proofs.deciding.goes_before.Goals as goal

pub returns-then-own-others : goal.returns-then-own-others
returns-then-own-others c =
    let apart : (length c.args.m.now.specialisers ≡ length c.args.k.now.specialisers → ⊥) = λ e.
    c.if-own-others.true (ap length c.as_slice-own.ensures ∙ e ∙ ap length (sym c.as_slice-others.ensures)) in
    sym (ap (λ b. b && differ c.args.m.now.specialisers c.args.k.now.specialisers)
    (over_unlike (order_told c.args.order.now) c.args.m.now.specialisers c.args.k.now.specialisers apart))
