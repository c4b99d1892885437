-- Which way a walk goes.
use Rattle.vx_answers.specs.OrderRows as rows
use Rattle.vx_walks.specs.declared.ways.Way.{Way}
use Rattle.vx_walks.specs.declared.ways.Way.TheVariants as w

abbrev pub way_of : Way → rows.Way
way_of w.Upward = rows.upward
way_of w.Downward = rows.downward
