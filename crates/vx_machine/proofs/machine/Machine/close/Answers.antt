use Rattle.std.proofs.Common.{rules, sym, ap, ◌≡◌, ◌+◌, ◌++◌, ◌∙◌, length, Some, arith}
use Rattle.std.proofs.lemmas.List.{length-append}
use Rattle.vx_machine.specs.Cuts.{Extends}
use Rattle.vx_places.specs.ImageMachine.{block_at}
use Rattle.vx_format.specs.declared.image.Instr.TheVariants as instrs
use Rattle.vx_machine.proofs.Closing.{close_done, close_lacks, close_unfit, extends_more}
use Rattle.vx_machine.proofs.Leaving.{seen}
use Rattle.vx_machine.proofs.Views.{kept_of}
use Rattle.vx_machine.proofs.Sound.{length_grows, pushes, with_captured, with_closure}
use Rattle.std.proofs.Common.{◌≤◌}
use Rattle.vx_machine.proofs.machine.Machine.close.Goals as goal

pub returns-in_err-capture-clause-later : goal.returns-in_err-capture-clause-later
returns-in_err-capture-clause-later c = λ all covers. rw (← c.self.view_is) (covers.0, extends_more _ _ _ c.capture.ensures.extends covers.1, covers.2)

pub returns-then-not-branch-clause-later : goal.returns-then-not-branch-clause-later
returns-then-not-branch-clause-later c = λ all covers. rw (← c.self.view_is) (covers.0, extends_more _ _ _ c.capture.ensures.extends covers.1, covers.2)

pub returns-then-len-first-clause-later : goal.returns-then-len-first-clause-later
returns-then-len-first-clause-later c = λ all covers. rw (← c.self.view_is) (covers.0, extends_more _ _ _ c.capture.ensures.extends covers.1, covers.2)

pub returns-in_err-push-clause-later : goal.returns-in_err-push-clause-later
returns-in_err-push-clause-later c = λ all covers. rw (← c.self.view_is) (covers.0, extends_more _ _ _ c.capture.ensures.extends covers.1, covers.2)

pub returns-in_err-push-2-clause-later : goal.returns-in_err-push-2-clause-later
returns-in_err-push-2-clause-later c = λ all covers. rw (← c.self.view_is) (covers.0, extends_more _ _ _ c.capture.ensures.extends covers.1, covers.2)

pub returns-clause-later : goal.returns-clause-later
returns-clause-later c = λ all covers. rw (← c.self.view_is) (covers.0, extends_more _ _ _ c.capture.ensures.extends covers.1, covers.2)

pub returns-then-not-branch-clause-does : goal.returns-then-not-branch-clause-does
returns-then-not-branch-clause-does c = λ all covers.
    let caught = rw c.if-not-branch.true at c.in_ok-capture.ensures.captures in
    let at : block_at c.args.ready.now c.self.inside.activations.running.code c.args.block ≡ Some c.in-Some.found.now =
    rw c.code-code.ensures at (sym c.in-Some.ensures) in
    seen c.args.ready.now (instrs.Closure c.args.block c.args.xs.now) all (kept_of c.self.inside) c.args.self.now _ c.self.view_is
    (close_lacks c.args.ready.now all (kept_of c.self.inside) c.args.block c.in-Some.found.now c.args.xs.now at caught)

pub returns-then-len-first-clause-does : goal.returns-then-len-first-clause-does
returns-then-len-first-clause-does c = λ all covers.
    let caught = rw c.if-not-branch.false at c.in_ok-capture.ensures.captures in
    let at : block_at c.args.ready.now c.self.inside.activations.running.code c.args.block ≡ Some c.in-Some.found.now =
    rw c.code-code.ensures at (sym c.in-Some.ensures) in
    let before : c.len-first.result ≡ length c.self.inside.captured.items = search rules in
    let after : c.len.result ≡ length c.capture.new.captured.items = search rules in
    let both : length c.capture.new.captured.items ≡ length c.self.inside.captured.items + length caught.0 =
    ap length caught.2 ∙ length-append c.self.inside.captured.items caught.0 in
    seen c.args.ready.now (instrs.Closure c.args.block c.args.xs.now) all (kept_of c.self.inside) c.args.self.now _ c.self.view_is
    (close_unfit c.args.ready.now all (kept_of c.self.inside) c.args.block c.in-Some.found.now c.args.xs.now caught.0 at caught.1
    (λ same. let r : ⊥ = omega (arith, before, after, both, same, c.if-len-first.true) in r))

pub returns-clause-does : goal.returns-clause-does
returns-clause-does c = λ all covers.
    let caught = rw c.if-not-branch.false at c.in_ok-capture.ensures.captures in
    let at : block_at c.args.ready.now c.self.inside.activations.running.code c.args.block ≡ Some c.in-Some.found.now =
    rw c.code-code.ensures at (sym c.in-Some.ensures) in
    let before : c.len-first.result ≡ length c.self.inside.captured.items = search rules in
    let after : c.len.result ≡ length c.capture.new.captured.items = search rules in
    let both : length c.capture.new.captured.items ≡ length c.self.inside.captured.items + length caught.0 =
    ap length caught.2 ∙ length-append c.self.inside.captured.items caught.0 in
    let count : c.in-Some.found.now.captures ≡ length caught.0 = omega (arith, before, after, both, c.if-len-first.false) in
    let place : c.len-place.result ≡ length c.self.inside.closures.items = search rules in
    let more : Extends (c.self.inside.captured.items ++ caught.0) all.captured = rw caught.2 at covers.1 in
    seen c.args.ready.now (instrs.Closure c.args.block c.args.xs.now) all (kept_of c.self.inside) c.args.self.now _ c.self.view_is
    (rw (c.in_ok-push-2.ensures.ok, c.in_ok-push.ensures.items, c.code-code.ensures, before, place)
    (close_done c.args.ready.now all (kept_of c.self.inside) c.args.block c.home-home.result c.in-Some.found.now c.args.xs.now caught.0 at caught.1 count
    (rw (← c.self.view_is) at (c.home-home.ensures all)) more))

pub invariant_of-self : goal.invariant_of-self
invariant_of-self c =
    let own = with_captured (kept_of c.self.inside) c.capture.new.captured.items c.self.invariant c.capture.ensures.extends
    (c.capture.ensures.sound (length c.self.inside.texts) c.self.invariant.0.0.locals c.self.invariant.1.of_captured) in
    own

pub invariant_of-self-then-not-branch : goal.invariant_of-self-then-not-branch
invariant_of-self-then-not-branch c =
    let own = with_captured (kept_of c.self.inside) c.capture.new.captured.items c.self.invariant c.capture.ensures.extends
    (c.capture.ensures.sound (length c.self.inside.texts) c.self.invariant.0.0.locals c.self.invariant.1.of_captured) in
    own

pub invariant_of-self-then-len-first : goal.invariant_of-self-then-len-first
invariant_of-self-then-len-first c =
    let own = with_captured (kept_of c.self.inside) c.capture.new.captured.items c.self.invariant c.capture.ensures.extends
    (c.capture.ensures.sound (length c.self.inside.texts) c.self.invariant.0.0.locals c.self.invariant.1.of_captured) in
    own

pub invariant_of-self-in_err-push : goal.invariant_of-self-in_err-push
invariant_of-self-in_err-push c =
    let own = with_captured (kept_of c.self.inside) c.capture.new.captured.items c.self.invariant c.capture.ensures.extends
    (c.capture.ensures.sound (length c.self.inside.texts) c.self.invariant.0.0.locals c.self.invariant.1.of_captured) in
    rw c.in_err-push.ensures.items own

pub invariant_of-self-in_err-push-2 : goal.invariant_of-self-in_err-push-2
invariant_of-self-in_err-push-2 c =
    let own = with_captured (kept_of c.self.inside) c.capture.new.captured.items c.self.invariant c.capture.ensures.extends
    (c.capture.ensures.sound (length c.self.inside.texts) c.self.invariant.0.0.locals c.self.invariant.1.of_captured) in
    let before : c.len-first.result ≡ length c.self.inside.captured.items = search rules in
    let after : c.len.result ≡ length c.capture.new.captured.items = search rules in
    let within : c.len-first.result + c.in-Some.found.now.captures ≤ length c.capture.new.captured.items =
    omega (arith, before, after, length_grows c.self.inside.captured.items c.capture.new.captured.items c.capture.ensures.extends, c.if-len-first.false) in
    let made = with_closure (record (kept_of c.self.inside) { captured = c.capture.new.captured.items }) _ own within in
    rw (c.in_err-push-2.ensures.err, c.in_ok-push.ensures.items) made

pub invariant_of-self-2 : goal.invariant_of-self-2
invariant_of-self-2 c =
    let own = with_captured (kept_of c.self.inside) c.capture.new.captured.items c.self.invariant c.capture.ensures.extends
    (c.capture.ensures.sound (length c.self.inside.texts) c.self.invariant.0.0.locals c.self.invariant.1.of_captured) in
    let before : c.len-first.result ≡ length c.self.inside.captured.items = search rules in
    let after : c.len.result ≡ length c.capture.new.captured.items = search rules in
    let within : c.len-first.result + c.in-Some.found.now.captures ≤ length c.capture.new.captured.items =
    omega (arith, before, after, length_grows c.self.inside.captured.items c.capture.new.captured.items c.capture.ensures.extends, c.if-len-first.false) in
    let made = with_closure (record (kept_of c.self.inside) { captured = c.capture.new.captured.items }) _ own within in
    rw (c.in_ok-push-2.ensures.ok, c.in_ok-push.ensures.items) (pushes _ _ _ c.self.inside.activations made.0 tt, made.1)
