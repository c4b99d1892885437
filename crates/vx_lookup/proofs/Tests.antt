-- Tests by what joins them.
use Rattle.std.proofs.Common.{◌≡◌, ◌&&◌, ◌||◌, not, List, refl}
use Rattle.vx_syntax.specs.declared.decl.Decl.{Decl}
use Rattle.vx_syntax.specs.declared.test.Test.{Test}
use Rattle.vx_syntax.specs.declared.test.Test.TheVariants as t
use Rattle.vx_syntax.specs.declared.test.Test.TheBlock.{shape-the_row-Test-0, hidden-the_row-Test-0}
use denote.Hole.Carrier.{hidden}
use Rattle.vx_model.specs.declared.value.Value.{Value}
use Rattle.vx_model.specs.declared.value.Heap.{Heap}
use Rattle.vx_model.specs.Holds.{is_true}

pub ands : (program : List Decl) (heap : Heap) (value : Value) (a b : Test) →
    is_true program heap value (t.And a b) ≡ (is_true program heap value a && is_true program heap value b)
unfolding shape-the_row-Test-0 hidden-the_row-Test-0 hidden
ands program heap value a b = refl

pub ors : (program : List Decl) (heap : Heap) (value : Value) (a b : Test) →
    is_true program heap value (t.Or a b) ≡ (is_true program heap value a || is_true program heap value b)
unfolding shape-the_row-Test-0 hidden-the_row-Test-0 hidden
ors program heap value a b = refl

pub negates : (program : List Decl) (heap : Heap) (value : Value) (a : Test) → is_true program heap value (t.Not a) ≡ not (is_true program heap value a)
unfolding shape-the_row-Test-0 hidden-the_row-Test-0 hidden
negates program heap value a = refl
