use Rattle.std.proofs.Common.{rules, ◌≡◌, [], ◌∷◌, sym, Some, subst}
use Rattle.atomic_table.specs.Table.{opening}
use Rattle.vx_turn.specs.Turning.{fresh_view, RuleHolds}
use Rattle.vx_turn.proofs.Turns.{opens_turn}
use Rattle.vx_turn.proofs.turn.Turn.new.Goals as goal

pub new-requires : goal.new-requires
new-requires g c =
    let one : c.push.new.self.items ≡ Some c.args.value ∷ [] = search rules in
    subst (λ xs. RuleHolds g.T.Logged.stands g.T.Logged.seat (opening (0 ∷ 0 ∷ []) xs (fresh_view 0 []))) (sym one)
    (opens_turn g.T.Logged.stands g.T.Logged.seat c.args.value c.requires)
