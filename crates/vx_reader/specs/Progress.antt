-- One token more, as the reader goes on with it.
use Rattle.std.specs.Prelude.{◌≡◌, ℕ, ◌≤◌, ◌^◌, ◌-◌, if◌then◌else◌, List, ◌∷◌, Err}
use Rattle.vx_syntax.specs.declared.token.Token.{Token}
use Rattle.vx_syntax.specs.declared.token.Token.TheVariants as k
use Rattle.vx_syntax.specs.Depth.{max_depth}
use Rattle.vx_reader.specs.declared.token.Placed.{Placed}
use Rattle.vx_reader.specs.declared.command.ReadFault.{ReadFault}
use Rattle.vx_reader.specs.declared.command.ReadFault.TheVariants as f
use Rattle.vx_reader.specs.declared.reader.Progress.{Progress}
use Rattle.vx_reader.specs.OpenLevels.{all, Adds}
use Rattle.vx_reader.specs.Reads.{is_large_token, reading}

-- the greatest number of the language in place of a larger one
abbrev pub fitted : Token → Token
fitted token = if is_large_token token then k.Number (2 ^ 127 - 1) else token

-- The reader goes on from where the token leads.
pub record Follows (before : Progress) (placed : Placed) (next : Progress) : Type 0 where
  pub adds : Adds next.levels
  pub low : next.levels.depth ≤ max_depth
  pub reads : (len : ℕ) (rest : List Placed) → reading len before.state (all before.levels) (placed ∷ rest) ≡ reading len next.state (all next.levels) rest

-- The reader answers the fault, whatever tokens follow, unless memory ran out.
abbrev pub Refuses : Progress → Placed → ReadFault → Type 0
Refuses before placed f.OutOfMemory = Unit {0}
Refuses before placed fault = (len : ℕ) (rest : List Placed) → reading len before.state (all before.levels) (placed ∷ rest) ≡ Err fault
