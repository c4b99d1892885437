use Rattle.std.proofs.Common.{rules, ◌≡◌, zero, suc, List, [], ◌∷◌, ap, arith}
use lib.ListN.{get_elem?}
use Rattle.vx_turn.specs.declared.view.View.{View}
use Rattle.vx_turn.specs.Turning.{AllBack}
use Rattle.vx_turn.proofs.tests.two_threads_take_a_hundred_turns_each.Goals as goal

-- a seat that gave out the numbers 1 and 2, and into which both were joined
both_back : {I : Type 0} (view : View I) (left right : List I) → view.last_number ≡ 2
    → view.joined ≡ (1, left) ∷ (2, right) ∷ [] → AllBack view
both_back view left right last joined zero some few = absurd (omega arith)
both_back view left right last joined (suc zero) some few = (0, left, ap (λ back. get_elem? back 0) joined)
both_back view left right last joined (suc (suc zero)) some few = (1, right, ap (λ back. get_elem? back 1) joined)
both_back view left right last joined (suc (suc (suc number))) some few = absurd (omega arith)

pub close-last-requires-clause-back : goal.close-last-requires-clause-back
close-last-requires-clause-back g c =
    both_back c.seen-count.new.seat.knows c.join-left.result.0.knows.own c.join-left.result.1.knows.own (search rules) (search rules)
