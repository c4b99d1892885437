use Rattle.std.proofs.Common.{rules, ◌≡◌, ◌∙◌, ℕ, ap, arith, length, subst, sym, take}
use Rattle.vx_machine.specs.declared.runs.Ending.TheVariants as endings
use Rattle.vx_machine.specs.Meaning.{Kept}
use Rattle.vx_machine.proofs.Running.{Gone, as_lines, ends_finding, ends_lacking, ends_over, ends_so, ends_stopped, first_lines, gone_one}
use Rattle.vx_machine.proofs.Views.{kept_of}
use Rattle.vx_machine.proofs.machine.Machine.go.Goals as goal

pub returns-in-Over : goal.returns-in-Over
returns-in-Over c = ends_over c.args.ready.now c.args.n c.loop-done.done c.args.self.now c.loop-done.self c.step.new.self c.loop-done.invariant
    c.loop-done-test.true (record { later = c.step.ensures.later; does = λ all covers. rw c.in-Over.is at (c.in_ok-step.ensures.does all covers) })

pub returns-in-Stops : goal.returns-in-Stops
returns-in-Stops c =
    rw c.into_inner.ensures
    (ends_stopped c.args.ready.now c.args.n c.loop-done.done c.args.self.now c.loop-done.self c.step.new.self c.in-Stops.error c.loop-done.invariant
    c.loop-done-test.true (record { later = c.step.ensures.later; does = λ all covers. rw c.in-Stops.is at (c.in_ok-step.ensures.does all covers) }))

pub returns-in-Lacks : goal.returns-in-Lacks
returns-in-Lacks c =
    let count : c.len-count.result ≡ length c.self.inside.lines.items = search rules in
    let cut : first_lines (kept_of c.self.inside) (kept_of c.self-in-loop-done.inside) ≡ c.truncate.new.self.items =
    sym (c.truncate.ensures.items ∙ ap (λ n. take n c.self-in-loop-done.inside.lines.items) count) in
    let lines : first_lines c.loop-done.self c.step.new.self ≡ c.truncate.new.self.items =
    ap (λ (m : Kept). first_lines m c.step.new.self) (sym c.self.view_is)
    ∙ ap (λ (m : Kept). first_lines (kept_of c.self.inside) m) (sym c.self-in-loop-done.view_is) ∙ cut in
    as_lines c.args.ready.now c.args.n c.args.self.now endings.Stuck (first_lines c.loop-done.self c.step.new.self) c.truncate.new.self.items lines
    (ends_lacking c.args.ready.now c.args.n c.loop-done.done c.args.self.now c.loop-done.self c.step.new.self c.loop-done.invariant c.loop-done-test.true
    (record { later = c.step.ensures.later; does = λ all covers. rw c.in-Lacks.is at (c.in_ok-step.ensures.does all covers) }))

pub returns-in-Finds : goal.returns-in-Finds
returns-in-Finds c =
    let count : c.len-count.result ≡ length c.self.inside.lines.items = search rules in
    let cut : first_lines (kept_of c.self.inside) (kept_of c.self-in-loop-done.inside) ≡ c.truncate-in-Finds.new.self.items =
    sym (c.truncate-in-Finds.ensures.items ∙ ap (λ n. take n c.self-in-loop-done.inside.lines.items) count) in
    let lines : first_lines c.loop-done.self c.step.new.self ≡ c.truncate-in-Finds.new.self.items =
    ap (λ (m : Kept). first_lines m c.step.new.self) (sym c.self.view_is)
    ∙ ap (λ (m : Kept). first_lines (kept_of c.self.inside) m) (sym c.self-in-loop-done.view_is) ∙ cut in
    as_lines c.args.ready.now c.args.n c.args.self.now endings.Stuck (first_lines c.loop-done.self c.step.new.self) c.truncate-in-Finds.new.self.items lines
    (ends_finding c.args.ready.now c.args.n c.loop-done.done c.args.self.now c.loop-done.self c.step.new.self c.loop-done.invariant c.loop-done-test.true
    (record { later = c.step.ensures.later; does = λ all covers. rw c.in-Finds.is at (c.in_ok-step.ensures.does all covers) }))

pub loop-done-preserved : goal.loop-done-preserved
loop-done-preserved c =
    gone_one c.args.ready.now c.args.n c.loop-done.done c.args.self.now c.loop-done.self c.step.new.self c.loop-done.invariant
    c.loop-done-test.true c.step.ensures.later (λ all covers. rw c.in-On.is at (c.in_ok-step.ensures.does all covers))

pub returns : goal.returns
returns c =
    let all : c.loop-done.done ≡ c.args.n = omega (arith, c.loop-done-test.false, c.loop-done.auto.done-end) in
    ends_so c.args.ready.now c.args.n c.args.self.now c.loop-done.self c.look.new.self c.look.result
    (subst (λ (k : ℕ). Gone c.args.ready.now c.args.n k c.args.self.now c.loop-done.self) all c.loop-done.invariant) c.look.ensures
