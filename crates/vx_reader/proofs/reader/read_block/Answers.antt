use Rattle.std.proofs.Common.{Some, None, sym, subst, ◌∙◌, arith}
use Rattle.vx_reader.specs.Reads.{Says, ended}
use Rattle.vx_reader.proofs.Readers.{at_start, at_next, refused, over}
use Rattle.vx_reader.proofs.Writable.{usable}
use Rattle.vx_reader.proofs.reader.read_block.Goals as goal

pub loop-placed-init : goal.loop-placed-init
loop-placed-init c =
    at_start c.args.bytes.now c.as_slice-placed-items.result.now c.new.result (c.as_slice-placed-items.ensures ∙ c.in_ok-tokens.ensures) c.new.ensures.all c.new.ensures.adds

pub after-requires-clause-adds : goal.after-requires-clause-adds
after-requires-clause-adds c = c.loop-placed.invariant.adds

pub after-requires-clause-low : goal.after-requires-clause-low
after-requires-clause-low c = c.loop-placed.invariant.low

pub returns-in-Err-clause-says : goal.returns-in-Err-clause-says
returns-in-Err-clause-says c =
    refused c.placed-item.result c.in-Err.fault c.loop-placed.invariant c.loop-placed-test.true c.placed-item.is c.in-Err.ensures.fault
    (c.every_block_is_read.ensures c.args.bytes.now (omega (arith, c.block_len-len.ensures, c.block_len-len.type_inv)))

pub loop-placed-preserved : goal.loop-placed-preserved
loop-placed-preserved c =
    at_next c.placed-item.result c.loop-placed.invariant c.loop-placed-test.true c.placed-item.is c.in-Ok.ensures.next

pub returns-in-Some-clause-says : goal.returns-in-Some-clause-says
returns-in-Some-clause-says c =
    over (Some c.in-Some.command) c.loop-placed.invariant (omega (arith, c.loop-placed-test.false)) (sym c.in-Some.is ∙ c.in_ok-command.ensures)
    (c.every_block_is_read.ensures c.args.bytes.now (omega (arith, c.block_len-len.ensures, c.block_len-len.type_inv)))

pub returns-in-Some-clause-writable : goal.returns-in-Some-clause-writable
returns-in-Some-clause-writable c = usable c.read_edits_are_writable.ensures c.args.bytes.now c.in-Some.command (returns-in-Some-clause-says c)

pub returns-clause-says : goal.returns-clause-says
returns-clause-says c =
    subst (λ n. Says c.args.bytes.now (ended n None)) (sym c.block_len-len.ensures)
    (over None c.loop-placed.invariant (omega (arith, c.loop-placed-test.false)) (sym c.in-None.is ∙ c.in_ok-command.ensures)
    (c.every_block_is_read.ensures c.args.bytes.now (omega (arith, c.block_len-len.ensures, c.block_len-len.type_inv))))
