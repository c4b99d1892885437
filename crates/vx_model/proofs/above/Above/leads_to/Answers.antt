use Rattle.std.proofs.Common.{◌≡◌, true, false, ap, sym, ◌∙◌}
use Rattle.vx_program.specs.Program.{leads, is_there}
use Rattle.vx_model.proofs.Orders.{itself, no_way, stands_somewhere}
use Rattle.vx_model.proofs.above.Above.leads_to.Goals as goal

pub returns-then-eq : goal.returns-then-eq
returns-then-eq c =
    let found : leads c.self.inside.program.now c.self.inside.x.now c.args.y.now ≡ true =
    itself c.self.inside.program.now (record { finds = c.chains_are_found.ensures.found; are = c.chains_are_found.ensures.are }) c.self.inside.x.now c.args.y.now
    (sym c.eq.ensures ∙ c.if-eq.true) in
    sym (ap (λ v. leads v.0 v.1 c.args.y.now) (sym c.self.view_is) ∙ found)

pub returns-in-None : goal.returns-in-None
returns-in-None c =
    let not_there : (is_there c.self.inside.program.now c.args.y.now ≡ true → ⊥) = λ there.
    let at = stands_somewhere c.self.inside.program.now c.args.y.now there in
    absurd (cc (c.in-None.is, c.place.ensures.only at.0 at.1 at.2 at.3)) in
    let none : leads c.self.inside.program.now c.self.inside.x.now c.args.y.now ≡ false =
    no_way c.self.inside.program.now c.self.invariant.0 (record { finds = c.chains_are_found.ensures.found; are = c.chains_are_found.ensures.are })
    c.self.inside.x.now c.args.y.now (sym c.eq.ensures ∙ c.if-eq.false) not_there in
    sym (ap (λ v. leads v.0 v.1 c.args.y.now) (sym c.self.view_is) ∙ none)
