-- What bytes would mean if tokens might lie at any depth.
use Rattle.std.specs.Prelude.{ℕ, List}
use Rattle.vx_reader.specs.declared.command.Command.{Command}
use Rattle.vx_reader.specs.Tokens.{tokens}
use Rattle.vx_reader.specs.Commands.{IsCommand}
use Rattle.vx_reader.specs.Reads.{AreSmall}

-- The tokens of the bytes mean the command, and no number of them is too large: how deep they lie is not asked.
pub record WouldMean (bytes : List ℕ) (v : Command) : Type 0 where
  pub command : IsCommand (tokens bytes) v
  pub small : AreSmall (tokens bytes)
