-- The units that are written out, computed.
use Rattle.std.proofs.Common.{refl}
use denote.Hole.Carrier.{hidden}
use Rattle.vx_format.specs.Numbers.{number}
use Rattle.vx_syntax.specs.declared.test.Test.TheBlock.{hidden-the_row-Test-0}
use Rattle.vx_compilation.specs.declared.tree.Act.TheBlock.{hidden-the_row-Part-1, hidden-the_row-Act-2}
use Rattle.vx_units.specs.Samples.{UnitsAreSpelled}

pub units_spelled : UnitsAreSpelled
unfolding number hidden hidden-the_row-Test-0 hidden-the_row-Part-1 hidden-the_row-Act-2
units_spelled = record {
  shape = refl;
  no_slots = refl;
  test = refl;
  names = refl;
  table = refl;
  no_methods = refl;
  code = refl;
  no_code = refl;
}
