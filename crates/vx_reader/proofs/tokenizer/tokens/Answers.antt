use Rattle.std.proofs.Common.{arith, refl}
use Rattle.vx_reader.proofs.Fronts.{nothing_found, round, no_more, some_bytes, no_bytes}
use Rattle.vx_reader.proofs.tokenizer.tokens.Goals as goal

pub loop-rest-init : goal.loop-rest-init
loop-rest-init c = rw c.new-tokens.ensures (nothing_found _)

pub overflow_sub-place : goal.overflow_sub-place
overflow_sub-place c = omega (arith, c.loop-rest.invariant.within)

pub loop-rest-preserved : goal.loop-rest-preserved
loop-rest-preserved c =
    round _ c.loop-rest.rest.now _ _ c.in_ok-front.front _ (some_bytes _ _ c.is_empty.ensures c.loop-rest-test.true) c.in_ok-front.ensures.within c.loop-rest.invariant
    c.in_ok-front.ensures.front refl c.in_ok-push_some.ensures

pub returns : goal.returns
returns c = no_more _ _ _ (no_bytes _ _ c.is_empty.ensures c.loop-rest-test.false) c.loop-rest.invariant
