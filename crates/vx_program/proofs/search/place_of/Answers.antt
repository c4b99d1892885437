use Rattle.std.proofs.Common.{◌≡◌, ℕ, ◌+◌, ◌-◌, ◌/◌, length, Some, refl, sym, ◌∙◌, arith}
use Rattle.std.specs.List.{slice_get}
use Rattle.std.proofs.lemmas.Option.{slice_get_read}
use Rattle.vx_program.specs.Lookups.{sought}
use Rattle.vx_program.proofs.Sought.{all_before, all_behind}
use Rattle.vx_program.proofs.search.place_of.Goals as goal

pub loop-low-preserved-then-goes_before : goal.loop-low-preserved-then-goes_before
loop-low-preserved-then-goes_before c =
    let middle : ℕ = c.loop-low.low + (c.loop-low.high - c.loop-low.low) / 2 in
    let e : slice_get c.args.decls.now middle ≡ Some c.index-decls-middle.result =
    slice_get_read c.args.decls.now (length c.args.decls.now) middle c.index-decls-middle.result refl (omega arith) c.index-decls-middle.is in
    record {
      within = omega arith;
      before = all_before c.args.decls.now c.requires (sought c.args.what.now) middle c.index-decls-middle.result (e, sym c.goes_before.ensures ∙ c.if-goes_before.true);
      behind = c.loop-low.invariant.behind;
    }

pub loop-low-preserved : goal.loop-low-preserved
loop-low-preserved c =
    let middle : ℕ = c.loop-low.low + (c.loop-low.high - c.loop-low.low) / 2 in
    let e : slice_get c.args.decls.now middle ≡ Some c.index-decls-middle.result =
    slice_get_read c.args.decls.now (length c.args.decls.now) middle c.index-decls-middle.result refl (omega arith) c.index-decls-middle.is in
    record {
      within = omega arith;
      before = c.loop-low.invariant.before;
      behind = all_behind c.args.decls.now c.requires (sought c.args.what.now) middle c.index-decls-middle.result (e, sym c.goes_before.ensures ∙ c.if-goes_before.false);
    }

pub returns : goal.returns
returns c = record {
  within = omega arith;
  front = c.loop-low.invariant.before;
  behind = λ at decl l e. c.loop-low.invariant.behind at decl (omega arith) e;
}
