use Rattle.std.proofs.Common.{sym, ◌≡◌, ◌+◌, suc, Some, arith}
use Rattle.vx_places.specs.ImageMachine.{block_at}
use Rattle.vx_machine.proofs.Calling.{code_entered}
use Rattle.vx_machine.proofs.Views.{kept_of}
use Rattle.vx_machine.proofs.Sound.{enters}
use Rattle.std.proofs.Common.{[], length}
use Rattle.vx_machine.specs.declared.word.Role.TheVariants as roles
use Rattle.vx_machine.proofs.machine.Machine.enter.Goals as goal

pub returns-clause-does : goal.returns-clause-does
returns-clause-does c = λ all covers.
    let at : block_at c.args.ready.now c.args.code 0 ≡ Some c.in-Some.block.now = sym c.in-Some.ensures in
    let next : c.self.inside.next + 1 ≡ suc c.self.inside.next = omega arith in
    let same : c.in-Some.block.now.formals ≡ c.args.count = omega arith in
    rw (← c.self.view_is, c.in_ok-enter.ensures.ok, next)
    (code_entered c.args.ready.now all c.args.code c.args.count c.in-Some.block.now (kept_of c.self.inside) at same (rw (← c.self.view_is) at
    c.requires.enough))

pub invariant_of-self-2 : goal.invariant_of-self-2
invariant_of-self-2 c = (
  rw c.in_ok-enter.ensures.ok (enters (length c.self.inside.texts) (length c.self.inside.captured.items) c.args.code c.in-Some.block.now [] c.args.count 0
      (roles.Method c.self.inside.next) c.self.inside.activations
      c.self.invariant.0 tt tt),
  c.self.invariant.1,
)
