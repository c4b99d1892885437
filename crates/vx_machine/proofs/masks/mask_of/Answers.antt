use Rattle.std.proofs.Common.{◌≡◌, ℕ, ◌+◌, ◌-◌, ◌/◌, Some, sym, ⊎_elim, slice_index_or, arith}
use Rattle.std.specs.Prelude.{slice_get}
use Rattle.std.proofs.lemmas.Bool.{cases_lt}
use Rattle.std.proofs.lemmas.Option.{slice_get-get_or}
use Rattle.vx_format.specs.declared.image.ClassMask.{ClassMask}
use Rattle.vx_machine.proofs.Rising.{found, not_found, lower, higher}
use Rattle.vx_machine.proofs.masks.mask_of.Goals as goal

pub returns-then-symbol-class : goal.returns-then-symbol-class
returns-then-symbol-class c =
    let middle : ℕ = c.loop-low.low + (c.loop-low.high - c.loop-low.low) / 2 in
    let e : ClassMask = slice_index_or c.args.entries.now middle (record { symbol = 0; mask = 0 }) in
    let at : slice_get c.args.entries.now middle ≡ Some e = slice_get-get_or c.args.entries.now middle _
    (omega (arith, c.loop-low.invariant.within, c.loop-low-test.true)) in
    sym (found c.args.default c.args.class c.args.entries.now middle e at c.if-symbol-class.true
    (λ j a lt here is. omega (arith, is, c.requires j middle a e lt here at, c.if-symbol-class.true)))

pub loop-low-preserved-then-symbol-class-2 : goal.loop-low-preserved-then-symbol-class-2
loop-low-preserved-then-symbol-class-2 c =
    let middle : ℕ = c.loop-low.low + (c.loop-low.high - c.loop-low.low) / 2 in
    let at : slice_get c.args.entries.now middle ≡ Some (slice_index_or c.args.entries.now middle (record { symbol = 0; mask = 0 })) =
    slice_get-get_or c.args.entries.now middle _ (omega (arith, c.loop-low.invariant.within, c.loop-low-test.true)) in
    record {
      within = c.loop-low.invariant.within;
      below = lower c.args.entries.now c.requires middle _ c.args.class at c.if-symbol-class-2.true;
      above = c.loop-low.invariant.above;
    }

pub loop-low-preserved : goal.loop-low-preserved
loop-low-preserved c =
    let middle : ℕ = c.loop-low.low + (c.loop-low.high - c.loop-low.low) / 2 in
    let e : ClassMask = slice_index_or c.args.entries.now middle (record { symbol = 0; mask = 0 }) in
    let at : slice_get c.args.entries.now middle ≡ Some e = slice_get-get_or c.args.entries.now middle _
    (omega (arith, c.loop-low.invariant.within, c.loop-low-test.true)) in
    record {
      within = omega (arith, c.loop-low.invariant.within, c.loop-low-test.true);
      below = c.loop-low.invariant.below;
      above = higher c.args.entries.now c.requires middle e c.args.class at
          (⊎_elim (λ lt. lt) (λ le. absurd (c.if-symbol-class.false (omega (arith, le, c.if-symbol-class-2.false)))) (cases_lt c.args.class e.symbol));
    }

pub returns : goal.returns
returns c = sym (not_found c.args.default c.args.class c.args.entries.now
    (λ j a here is. ⊎_elim
    (λ lt. let r : ⊥ = omega (arith, is, c.loop-low.invariant.below j a lt here) in r)
    (λ le. let r : ⊥ = omega (arith, is, c.loop-low.invariant.above j a (omega (arith, le, c.loop-low-test.false)) here) in r)
    (cases_lt j c.loop-low.low)))
