use Rattle.std.proofs.Common.{sym, ap, map, ◌≡◌, length, Some, arith}
use Rattle.std.specs.Prelude.{slice_get}
use Rattle.vx_places.specs.ImageMachine.{block_at}
use Rattle.vx_machine.specs.Meaning.{slot_of}
use Rattle.vx_machine.proofs.Closing.{repeat_done}
use Rattle.vx_machine.proofs.Stack.{part_stays}
use Rattle.vx_machine.proofs.Views.{kept_of}
use Rattle.vx_lists.proofs.Each.{all_at}
use Rattle.vx_machine.specs.Sound.{IsHeldSound}
use Rattle.vx_machine.proofs.Sound.{enters, part_is}
use Rattle.vx_machine.specs.declared.word.Role.TheVariants as roles
use Rattle.vx_machine.proofs.machine.Machine.repeat.Goals as goal

pub returns-clause-does : goal.returns-clause-does
returns-clause-does c = λ all covers.
    let at : slice_get c.self.inside.closures.items c.args.closure ≡ Some c.in-Some.held = rw (← c.self.view_is) at (sym c.in-Some.ensures) in
    let within = all_at (IsHeldSound (length c.self.inside.captured.items)) c.self.inside.closures.items c.args.closure c.in-Some.held at
    c.self.invariant.1.of_closures in
    let there : block_at c.args.ready.now c.in-Some.held.code c.in-Some.held.block ≡ Some c.in-Some-block.block.now = sym c.in-Some-block.ensures in
    let same : c.in-Some-block.block.now.formals ≡ 0 = omega arith in
    rw (← c.self.view_is, c.in_ok-enter.ensures.ok)
    (repeat_done c.args.ready.now all (kept_of c.self.inside) c.args.closure c.in-Some.held c.in-Some-block.block.now c.part-captures.result.now at there same
    (ap (map (slot_of all.texts))
    (part_stays c.self.inside.captured.items all.captured c.part-captures.result.now c.in-Some.held.first c.in-Some.held.count covers.1 within
    (rw c.as_slice.ensures.value at c.part-captures.ensures))))

pub invariant_of-self-2 : goal.invariant_of-self-2
invariant_of-self-2 c =
    let at : slice_get c.self.inside.closures.items c.args.closure ≡ Some c.in-Some.held = rw (← c.self.view_is) at (sym c.in-Some.ensures) in
    let within = all_at (IsHeldSound (length c.self.inside.captured.items)) c.self.inside.closures.items c.args.closure c.in-Some.held at
    c.self.invariant.1.of_closures in
    let caught = part_is (length c.self.inside.texts) c.self.inside.captured.items c.part-captures.result.now c.in-Some.held.first c.in-Some.held.count
    (rw c.as_slice.ensures.value at c.part-captures.ensures) c.self.invariant.1.of_captured in (
      rw c.in_ok-enter.ensures.ok (enters (length c.self.inside.texts) (length c.self.inside.captured.items) c.in-Some.held.code c.in-Some-block.block.now
          c.part-captures.result.now 0 1 (roles.Turn c.in-Some.held) c.self.inside.activations c.self.invariant.0 caught within),
      c.self.invariant.1,
    )
