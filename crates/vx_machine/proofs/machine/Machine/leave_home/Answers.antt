use Rattle.std.proofs.Common.{refl, ap, Bool, Some, ◌≡◌, ◌∙◌}
use Rattle.vx_format.specs.declared.image.Instr.TheVariants as instrs
use Rattle.vx_compilation.specs.Machine.{home_of}
use Rattle.vx_machine.specs.Cuts.{Stacked}
use Rattle.vx_machine.specs.Meaning.{Whole, role_of}
use Rattle.vx_machine.proofs.Leaving.{home_dead, home_last, home_left, seen}
use Rattle.vx_machine.proofs.Views.{kept_of}
use Rattle.std.proofs.Common.{length}
use Rattle.vx_machine.proofs.Sound.{leaves, pops, pushes}
use Rattle.vx_machine.proofs.machine.Machine.leave_home.Goals as goal

pub returns-in_ok-apart-in-None-leave_home-clause-does : goal.returns-in_ok-apart-in-None-leave_home-clause-does
returns-in_ok-apart-in-None-leave_home-clause-does c = λ image all covers.
    let home : (all' : Whole) → c.home-home.result ≡ home_of (role_of all' c.pop.new.self.running.role) =
    λ all'. (rw (← c.self.view_is) at (c.home-home.ensures all')) ∙ ap (λ (s : Stacked). home_of (role_of all' s.running.role)) c.in-Some.ensures in
    rw c.in_ok-apart-in-None-leave_home.ensures
    (seen image instrs.Home all (kept_of c.self.inside) c.args.self.now _ c.self.view_is
    (home_dead image all (kept_of c.self.inside) c.pop.new.self c.in-Some.word c.home-home.result c.in-Some.ensures (home all)
    (c.in-None-leave_home.ensures.dead refl)))

pub returns-in-Some-false-clause-does : goal.returns-in-Some-false-clause-does
returns-in-Some-false-clause-does c = λ image all covers.
    let home : (all' : Whole) → c.home-home.result ≡ home_of (role_of all' c.pop.new.self.running.role) =
    λ all'. (rw (← c.self.view_is) at (c.home-home.ensures all')) ∙ ap (λ (s : Stacked). home_of (role_of all' s.running.role)) c.in-Some.ensures in
    seen image instrs.Home all (kept_of c.self.inside) c.args.self.now _ c.self.view_is
    (home_last image all (kept_of c.self.inside) c.pop.new.self c.in-Some.word c.home-home.result c.in-Some.ensures (home all)
    (c.in-Some-false.ensures.last (ap (λ (b : Bool). Some b) c.in-Some-false.field-0-test)))

pub returns-in_ok-push-in-Some-true-clause-does : goal.returns-in_ok-push-in-Some-true-clause-does
returns-in_ok-push-in-Some-true-clause-does c = λ image all covers.
    let home : (all' : Whole) → c.home-home.result ≡ home_of (role_of all' c.pop.new.self.running.role) =
    λ all'. (rw (← c.self.view_is) at (c.home-home.ensures all')) ∙ ap (λ (s : Stacked). home_of (role_of all' s.running.role)) c.in-Some.ensures in
    seen image instrs.Home all (kept_of c.self.inside) c.args.self.now _ c.self.view_is
    (rw (c.in_ok-push-in-Some-true.ensures.ok)
    (home_left image all (kept_of c.self.inside) c.pop.new.self c.leave_home.new.self c.in-Some.word c.home-home.result
    c.in-Some.ensures (home all) (c.in-Some-true.ensures.waits (ap (λ (b : Bool). Some b) c.in-Some-true.field-0-test))))

pub invariant_of-self-in_err-apart-in-None-leave_home : goal.invariant_of-self-in_err-apart-in-None-leave_home
invariant_of-self-in_err-apart-in-None-leave_home c =
    let left = pops (length c.self.inside.texts) (length c.self.inside.captured.items) c.in-Some.word c.self.inside.activations c.pop.new.self
    c.in-Some.ensures c.self.invariant.0 in
    let rest = leaves (length c.self.inside.texts) (length c.self.inside.captured.items) c.pop.new.self c.leave_home.new.self c.leave_home.ensures.rest
    left.0 in
    (rest, c.self.invariant.1)

pub invariant_of-self-in-None-leave_home : goal.invariant_of-self-in-None-leave_home
invariant_of-self-in-None-leave_home c =
    let left = pops (length c.self.inside.texts) (length c.self.inside.captured.items) c.in-Some.word c.self.inside.activations c.pop.new.self
    c.in-Some.ensures c.self.invariant.0 in
    let rest = leaves (length c.self.inside.texts) (length c.self.inside.captured.items) c.pop.new.self c.leave_home.new.self c.leave_home.ensures.rest
    left.0 in
    (rest, c.self.invariant.1)

pub invariant_of-self-in-Some-false : goal.invariant_of-self-in-Some-false
invariant_of-self-in-Some-false c =
    let left = pops (length c.self.inside.texts) (length c.self.inside.captured.items) c.in-Some.word c.self.inside.activations c.pop.new.self
    c.in-Some.ensures c.self.invariant.0 in
    let rest = leaves (length c.self.inside.texts) (length c.self.inside.captured.items) c.pop.new.self c.leave_home.new.self c.leave_home.ensures.rest
    left.0 in
    (rest, c.self.invariant.1)

pub invariant_of-self-in_err-push-in-Some-true : goal.invariant_of-self-in_err-push-in-Some-true
invariant_of-self-in_err-push-in-Some-true c =
    let left = pops (length c.self.inside.texts) (length c.self.inside.captured.items) c.in-Some.word c.self.inside.activations c.pop.new.self
    c.in-Some.ensures c.self.invariant.0 in
    let rest = leaves (length c.self.inside.texts) (length c.self.inside.captured.items) c.pop.new.self c.leave_home.new.self c.leave_home.ensures.rest
    left.0 in
    (rw c.in_err-push-in-Some-true.ensures.err rest, c.self.invariant.1)

pub invariant_of-self-in-Some-true : goal.invariant_of-self-in-Some-true
invariant_of-self-in-Some-true c =
    let left = pops (length c.self.inside.texts) (length c.self.inside.captured.items) c.in-Some.word c.self.inside.activations c.pop.new.self
    c.in-Some.ensures c.self.invariant.0 in
    let rest = leaves (length c.self.inside.texts) (length c.self.inside.captured.items) c.pop.new.self c.leave_home.new.self c.leave_home.ensures.rest
    left.0 in (
      rw c.in_ok-push-in-Some-true.ensures.ok (pushes (length c.self.inside.texts) (length c.self.inside.captured.items) c.in-Some.word c.leave_home.new.self
          rest left.1),
      c.self.invariant.1,
    )
