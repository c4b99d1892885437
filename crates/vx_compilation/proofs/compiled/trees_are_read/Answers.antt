use Rattle.vx_compilation.proofs.TreeCourses.{trees_are_read}
use Rattle.vx_compilation.proofs.compiled.trees_are_read.Goals as goal

pub returns : goal.returns
returns c = trees_are_read
