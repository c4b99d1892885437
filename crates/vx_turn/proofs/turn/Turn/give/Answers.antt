use Rattle.std.proofs.Common.{rules, ◌≡◌, true, false, [], ◌∷◌, sym, ap, ◌∙◌, Bool, Some, None, subst}
use Rattle.atomic_table.specs.Table.{rest}
use Rattle.vx_turn.specs.Turning.{MayGive}
use Rattle.vx_turn.proofs.Turns.{Ready, marks_as, ready_marked, frees_as}
use Rattle.vx_turn.proofs.turn.Turn.give.Goals.{then-marked, else-marked}
use Rattle.vx_turn.proofs.turn.Turn.give.Goals as goal

pub fetch_add-requires : goal.fetch_add-requires
fetch_add-requires g c =
    let m = c.exchange-before.new.seat.me in
    let view : m.0 ≡ c.args.seat.now.knows = search rules in
    let own : c.seat.inside.seat.me.1 ≡ (0, None) ∷ [] = search rules in
    let out : m.1 ≡ (0, Some c.args.value) ∷ [] = ap (λ z. z.1) c.exchange-before.ensures.3 ∙ ap (λ cs. (0, Some c.args.value) ∷ rest cs) own in
    let may : MayGive g.T.Logged.stands g.T.Logged.seat true c.args.value m.0 = subst
    (λ v. MayGive g.T.Logged.stands g.T.Logged.seat true c.args.value v) (sym view)
    (subst (λ (b : Bool). MayGive g.T.Logged.stands g.T.Logged.seat b c.args.value c.args.seat.now.knows) c.if-marked.true c.requires.fits) in (
      search rules,
      search rules,
      marks_as g.T.Logged.stands g.T.Logged.seat _ _ m c.args.value may.0.0 out (search rules)
          (search rules) may.0.1 may.0.2 may.1,
    )

pub swap-requires : goal.swap-requires
swap-requires g c =
    let m = c.exchange-before.new.seat.me in
    let view : m.0 ≡ c.args.seat.now.knows = search rules in
    let own : c.seat.inside.seat.me.1 ≡ (0, None) ∷ [] = search rules in
    let out : m.1 ≡ (0, Some c.args.value) ∷ [] = ap (λ z. z.1) c.exchange-before.ensures.3 ∙ ap (λ cs. (0, Some c.args.value) ∷ rest cs) own in
    let unspent : m.0.spent ≡ false = search rules in
    let holds : m.0.holds ≡ true = search rules in
    let ready : Ready g.T.Logged.stands g.T.Logged.seat c.if-marked.seat-inside.seat.me c.args.value = elim c.if-marked.branch [
      | then-marked w ↦ subst (λ z. Ready g.T.Logged.stands g.T.Logged.seat z c.args.value)
          (ap (λ s. s.seat.me) (sym w.seat-inside-is))
          (ready_marked g.T.Logged.stands g.T.Logged.seat m c.args.value w.fetch_add.result w.fetch_add.new.seat.me out unspent holds w.fetch_add.ensures.2)
      | else-marked w ↦ subst (λ z. Ready g.T.Logged.stands g.T.Logged.seat z c.args.value)
          (ap (λ s. s.seat.me) (sym w.seat-inside-is)) (
            out,
            unspent,
            holds,
            subst (λ v. MayGive g.T.Logged.stands g.T.Logged.seat false c.args.value v) (sym view)
                (subst (λ (b : Bool). MayGive g.T.Logged.stands g.T.Logged.seat b c.args.value c.args.seat.now.knows) w.if-marked.false c.requires.fits),
          )
    ] in
    (search rules, search rules, frees_as g.T.Logged.stands g.T.Logged.seat _ _ c.if-marked.seat-inside.seat.me c.args.value ready)
