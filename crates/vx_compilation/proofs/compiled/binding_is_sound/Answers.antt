use Rattle.vx_compilation.proofs.BindingSound.{binding_is_sound}
use Rattle.vx_compilation.proofs.compiled.binding_is_sound.Goals as goal

pub returns : goal.returns
returns c = binding_is_sound
