use Rattle.vx_reader.proofs.Numbers.{one_digit_more}
use Rattle.vx_reader.proofs.number.number.Goals as goal

pub loop-digit-preserved : goal.loop-digit-preserved
loop-digit-preserved c = one_digit_more c.args.digits.now _ _ _ _ c.loop-digit-test.true (c.requires _ 0 c.loop-digit-test.true) c.loop-digit.invariant c.with_digit-number.ensures
