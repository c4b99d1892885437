use Rattle.std.proofs.Common.{arith, refl, length}
use Rattle.vx_format.specs.Numbers.{number_of}
use Rattle.vx_image.proofs.Values.{fits, one_more, more_fits}
use Rattle.vx_image.proofs.cursor.value_of.Goals as goal

pub loop-b-init : goal.loop-b-init
unfolding number_of
loop-b-init c = record { value = refl; below = omega arith }

pub overflow_mul-n : goal.overflow_mul-n
overflow_mul-n c = let f = fits c.loop-b.b-index c.loop-b.n
    (length c.args.bytes.now) c.loop-b.invariant.below c.loop-b-test.true c.requires in omega (arith, f)

pub overflow_add-n : goal.overflow_add-n
overflow_add-n c = let f = fits c.loop-b.b-index c.loop-b.n
    (length c.args.bytes.now) c.loop-b.invariant.below c.loop-b-test.true c.requires in let b = c.type_inv.bytes c.loop-b.b-index in
    omega (arith, f, b)

pub loop-b-preserved : goal.loop-b-preserved
loop-b-preserved c = record {
  value = one_more c.args.bytes.now c.loop-b.b-index c.loop-b.n c.loop-b-test.true c.loop-b.invariant.value;
  below = more_fits c.loop-b.b-index c.loop-b.n _ c.loop-b.invariant.below (let b = c.type_inv.bytes c.loop-b.b-index in omega (arith, b));
}
