use Rattle.vx_compilation.proofs.Whole.{compiled_code_means}
use Rattle.vx_compilation.proofs.compiled.compiled_code_means_the_program.Goals as goal

pub returns : goal.returns
returns c = compiled_code_means
