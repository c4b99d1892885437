use Rattle.std.proofs.Common.{◌≡◌, arith, rules}
use Rattle.vx_machine.proofs.primitives.number_of.Goals as goal

pub returns-in_default-number-clause-is : goal.returns-in_default-number-clause-is
returns-in_default-number-clause-is c = λ texts.
    let six : c.args.number ≡ 6 = omega arith in
    rw (six, ← c.two_numbers.ensures texts, c.in-Some.is) (search rules)
