use Rattle.std.proofs.Common.{◌≡◌, sym, arith}
use Rattle.vx_machine.proofs.Beginning.{code_begins}
use Rattle.vx_machine.proofs.Sound.{alone_sound}
use Rattle.vx_machine.proofs.opening.begin_code.Goals as goal

pub returns-clause-means : goal.returns-clause-means
returns-clause-means c = λ all.
    let none : c.in-Some.block.now.formals ≡ 0 = omega (arith, c.if-block-ne0.false) in
    rw c.in_ok-new.ensures (code_begins c.args.ready.now c.args.code c.in-Some.block.now (sym c.in-Some.ensures) none all)

pub returns-clause-sound : goal.returns-clause-sound
returns-clause-sound c = λ texts captured. rw c.in_ok-new.ensures (alone_sound texts captured c.args.code c.in-Some.block.now)
