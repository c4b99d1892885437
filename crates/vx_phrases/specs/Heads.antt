-- How many formals and specialisers the heads of methods have.
use Rattle.std.specs.Prelude.{◌≡◌, ◌<◌, ◌≤◌, length}
use Rattle.vx_syntax.specs.Expressions.{max_arguments}
use Rattle.vx_phrases.specs.declared.decl_state.Head.{Head}

-- One formal more is within what a method may have.
pub record IsOpen (head : Head) : Type 0 where
  pub few : length head.formals < max_arguments
  pub specialised : length head.specialisers ≡ length head.formals

-- The method has no more arguments than a message.
abbrev pub IsWhole : Head → Type 0
IsWhole head = length head.specialisers ≤ max_arguments
