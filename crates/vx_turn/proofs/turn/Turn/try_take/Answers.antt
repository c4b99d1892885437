use Rattle.std.proofs.Common.{rules, ◌∷◌, sym, ap, ◌∙◌, Some}
use Rattle.atomic_table.specs.Table.{rest}
use Rattle.vx_turn.proofs.Turns.{takes_turn}
use Rattle.vx_turn.proofs.turn.Turn.try_take.Goals as goal

pub compare_exchange-found-requires : goal.compare_exchange-found-requires
compare_exchange-found-requires g c = (
  search rules,
  search rules,
  takes_turn g.T.Logged.stands g.T.Logged.seat _ _ c.seat.inside.seat.me.0 c.seat.inside.seat.me.1 _ (search rules) (search rules)
      (search rules),
)

pub exchange-requires : goal.exchange-requires
exchange-requires g c =
    let got = c.compare_exchange-found.ensures.2.0 (search rules) in
    let is = ap (λ m. m.1) got.5 in
    (search rules, (Some got.0, is ∙ ap (λ cs. (0, Some got.0) ∷ rest cs) (sym is)))
