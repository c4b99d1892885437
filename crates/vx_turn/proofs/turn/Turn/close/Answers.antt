use Rattle.std.proofs.Common.{rules, ◌≡◌, sym, ap, ◌∙◌, Some, None, subst}
use mathlib.Core.Option.{some, some-injective}
use Rattle.vx_turn.specs.Turning.{AllBack, HasClosed}
use Rattle.vx_turn.proofs.Turns.{closes_turn}
use Rattle.vx_turn.proofs.turn.Turn.close.Goals as goal

pub unreachable-requires : goal.unreachable-requires
unreachable-requires g c =
    let view : c.seat.inside.seat.me.0 ≡ c.args.seat.knows = search rules in
    let got = closes_turn g.T.Logged.stands g.T.Logged.seat _ c.seat.inside.seat.me.0 _ _ (search rules) (search rules) (search rules)
    (subst AllBack (sym view) c.requires.back) c.close_with-closed.ensures.values.2 in
    let is : Some got.0 ≡ None = some-injective _ _ (sym got.1 ∙ (c.take-slot.ensures.value ∙ ap some c.in-None.is)) in absurd (cc (is))

pub returns : goal.returns
returns g c =
    let view : c.seat.inside.seat.me.0 ≡ c.args.seat.knows = search rules in
    let got = closes_turn g.T.Logged.stands g.T.Logged.seat _ c.seat.inside.seat.me.0 _ _ (search rules) (search rules) (search rules)
    (subst AllBack (sym view) c.requires.back) c.close_with-closed.ensures.values.2 in
    let is : Some got.0 ≡ Some c.in-Some.value = some-injective _ _ (sym got.1 ∙ (c.take-slot.ensures.value ∙ ap some c.in-Some.is)) in
    let same : got.0 ≡ c.in-Some.value = cc (is) in
    subst (λ v. HasClosed g.T.Logged.stands g.T.Logged.seat c.in-Some.value v) view
    (subst (λ x. HasClosed g.T.Logged.stands g.T.Logged.seat x c.seat.inside.seat.me.0) same got.2)
