use Rattle.std.proofs.Common.{◌<◌, arith}
use Rattle.std.proofs.lemmas.Nat.{one_shl}
use Rattle.vx_tables.proofs.Bits.{has_first, has_not_first}
use Rattle.vx_tables.proofs.picking.first_rows.Goals as goal

pub returns-then-count-eq128-clause-below : goal.returns-then-count-eq128-clause-below
returns-then-count-eq128-clause-below c = λ i lt. has_first 128 i (omega arith)

pub returns-then-count-eq128-clause-above : goal.returns-then-count-eq128-clause-above
returns-then-count-eq128-clause-above c = λ i le. has_not_first 128 i (omega arith)

pub returns-else-count-eq128-clause-below : goal.returns-else-count-eq128-clause-below
returns-else-count-eq128-clause-below c = λ i lt. let few : c.args.count < 128 = omega arith in rw (one_shl c.args.count 128 few) (has_first c.args.count i lt)

pub returns-else-count-eq128-clause-above : goal.returns-else-count-eq128-clause-above
returns-else-count-eq128-clause-above c = λ i le. let few : c.args.count < 128 = omega arith
    in rw (one_shl c.args.count 128 few) (has_not_first c.args.count i le)
