use Rattle.vx_compilation.proofs.Whole.{trees_mean}
use Rattle.vx_compilation.proofs.compiled.trees_mean_the_program.Goals as goal

pub returns : goal.returns
returns c = trees_mean
