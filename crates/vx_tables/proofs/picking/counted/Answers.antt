use Rattle.std.proofs.Common.{◌<◌, arith, length}
use Rattle.vx_tables.proofs.Bits.{from_row, past_rows}
use Rattle.vx_tables.proofs.picking.counted.Goals as goal

pub returns-in-Some-clause-bits : goal.returns-in-Some-clause-bits
returns-in-Some-clause-bits c = λ i lt.
    let there : c.in-Some.from < length c.args.beats.now = rw c.in-Some.is at c.requires.there in
    let few = c.requires.rows in
    rw c.in-Some.is (from_row c.args.beats.now c.first_rows-all.result c.in-Some.from i (omega arith) (omega arith) (c.first_rows-all.ensures.below i lt))

pub returns-in-Some-clause-above : goal.returns-in-Some-clause-above
returns-in-Some-clause-above c = λ i le. past_rows c.first_rows-all.result _ _ i (c.first_rows-all.ensures.above i le)
