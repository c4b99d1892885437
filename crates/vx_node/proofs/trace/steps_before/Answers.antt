use Rattle.std.proofs.Common.{◌≡◌, ℕ, ◌+◌, ◌-◌, ◌/◌, length, Some, refl, sym, ◌∙◌, arith}
use Rattle.std.specs.List.{slice_get}
use Rattle.std.proofs.lemmas.Option.{slice_get_read}
use Rattle.vx_node.proofs.Placing.{all_before, none_behind, lt_less}
use Rattle.vx_node.proofs.trace.steps_before.Goals as goal

pub loop-low-preserved-then-goes_before : goal.loop-low-preserved-then-goes_before
loop-low-preserved-then-goes_before c =
    let middle : ℕ = c.loop-low.low + (c.loop-low.high - c.loop-low.low) / 2 in
    let e : slice_get c.args.steps.now middle ≡ Some c.index-steps-middle.result =
    slice_get_read c.args.steps.now (length c.args.steps.now) middle c.index-steps-middle.result refl (omega arith) c.index-steps-middle.is in
    record {
      within = omega arith;
      before = all_before c.args.steps.now c.requires c.args.node.now middle c.index-steps-middle.result e
          (lt_less c.index-steps-middle.result c.args.node.now (sym c.goes_before.ensures ∙ c.if-goes_before.true));
      behind = c.loop-low.invariant.behind;
    }

pub loop-low-preserved : goal.loop-low-preserved
loop-low-preserved c =
    let middle : ℕ = c.loop-low.low + (c.loop-low.high - c.loop-low.low) / 2 in
    let e : slice_get c.args.steps.now middle ≡ Some c.index-steps-middle.result =
    slice_get_read c.args.steps.now (length c.args.steps.now) middle c.index-steps-middle.result refl (omega arith) c.index-steps-middle.is in
    record {
      within = omega arith;
      before = c.loop-low.invariant.before;
      behind = none_behind c.args.steps.now c.requires c.args.node.now middle c.index-steps-middle.result e (sym c.goes_before.ensures ∙ c.if-goes_before.false);
    }

pub returns : goal.returns
returns c = record {
  within = omega arith;
  front = c.loop-low.invariant.before;
  behind = λ at step l e. c.loop-low.invariant.behind at step (omega arith) e;
}
