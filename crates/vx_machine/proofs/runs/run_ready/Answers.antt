use Rattle.std.proofs.Common.{◌∙◌, ◌-◌, ◌<◌, ap, arith}
use Rattle.vx_machine.specs.Meaning.{Kept}
use Rattle.vx_machine.specs.Running.{report_with}
use Rattle.vx_machine.proofs.Running.{ends_reported, first_kept, lacks_first, none_first, runs_first, stops_first}
use Rattle.vx_machine.proofs.runs.run_ready.Goals as goal

pub returns-then-n-eq0 : goal.returns-then-n-eq0
returns-then-n-eq0 c =
    rw c.new-none.ensures
    (none_first c.args.ready.now c.args.n c.in-Runs.activations c.in_ok-objects.objects.items (rw c.in-Runs.is at c.in_ok-begin.ensures.means)
    (rw (c.as_slice.ensures, c.image-image.ensures.image) at c.in_ok-objects.ensures.means) c.if-n-eq0.true)

pub returns-in-Lacks : goal.returns-in-Lacks
returns-in-Lacks c = rw c.new-none.ensures (lacks_first c.args.ready.now c.args.n (rw c.in-Lacks.is at c.in_ok-begin.ensures.means))

pub returns-in-Stops : goal.returns-in-Stops
returns-in-Stops c =
    stops_first c.args.ready.now c.args.n c.in-Stops.error c.stopped.result (rw c.in-Stops.is at c.in_ok-begin.ensures.means)
    (rw c.new-none.ensures at c.stopped.ensures.zero) (rw c.new-none.ensures at c.stopped.ensures.more)

pub returns-in_ok-ending-in-Runs : goal.returns-in_ok-ending-in-Runs
returns-in_ok-ending-in-Runs c =
    let some : 0 < c.args.n = omega (arith, c.if-n-eq0.false) in
    runs_first c.args.ready.now c.args.n c.in-Runs.activations c.in_ok-objects.objects.items c.reported.result
    (rw c.in-Runs.is at c.in_ok-begin.ensures.means)
    (rw (c.as_slice.ensures, c.image-image.ensures.image) at c.in_ok-objects.ensures.means) some
    (ends_reported c.args.ready.now (c.args.n - 1) (first_kept c.in-Runs.activations c.in_ok-objects.objects.items) c.go.new.self c.go.result
    c.in_ok-ending-in-Runs.ending c.reported.result c.in_ok-ending-in-Runs.was
    (rw (c.new.ensures.items, c.new-in-Runs.ensures.items, c.new-in-Runs-2.ensures.items, c.new-in-Runs-3.ensures, c.new-in-Runs-4.ensures.items) at
    c.go.ensures)
    (c.reported.ensures ∙ ap (report_with c.in_ok-ending-in-Runs.ending) (c.from_vec.ensures ∙ ap (λ (m : Kept). m.lines) c.machine.view_is)))

pub invariant_of-machine : goal.invariant_of-machine
invariant_of-machine c = (
  (rw c.in-Runs.is at c.in_ok-begin.ensures.sound) _ _,
  record {
    of_objects = c.in_ok-objects.ensures.sound _;
    of_cells = rw c.new.ensures.items tt;
    of_closures = rw c.new-in-Runs.ensures.items tt;
    of_captured = rw c.new-in-Runs-2.ensures.items tt;
  },
)
