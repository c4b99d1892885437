-- How a block is read: as the command that its tokens mean, or with the fault that comes first.
use Rattle.std.specs.Prelude.{◌≡◌, ℕ, ◌+◌, ◌<◌, ◌≤◌, nat_lt, Bool, true, false, if◌then◌else◌, ◌⊎◌, List, [], ◌∷◌, ◌++◌, length, take, slice_get, Option, Some, None, Result, Ok, Err}
use Rattle.std.specs.List.{AllByRecursion}
use Rattle.vx_syntax.specs.declared.token.Token.{Token}
use Rattle.vx_syntax.specs.declared.token.Token.TheVariants as k
use Rattle.vx_syntax.specs.Words.{is_large}
use Rattle.vx_syntax.specs.Depth.{max_depth, first_levels, counted, depth, levels_after, IsShallow}
use Rattle.vx_program.specs.Apply.{IsWritable}
use Rattle.vx_reader.specs.declared.token.Placed.{Placed}
use Rattle.vx_reader.specs.declared.command.TheConstants.{MOST_RUN, MOST_MEAN}
use Rattle.vx_reader.specs.declared.command.Command.{Command}
use Rattle.vx_reader.specs.declared.command.Command.TheVariants as c
use Rattle.vx_reader.specs.declared.command.ReadFault.{ReadFault}
use Rattle.vx_reader.specs.declared.command.ReadFault.TheVariants as f
use Rattle.vx_reader.specs.declared.state.State.{State}
use Rattle.vx_reader.specs.declared.state.State.TheVariants as st
use Rattle.vx_reader.specs.Tokens.{placed_tokens, without_places}
use Rattle.vx_reader.specs.Commands.{IsCommand, GoesOn}
use Rattle.vx_reader.specs.CommandMachine.{command_step, command_finished}

-- whether the token is a number above those of the language
abbrev pub is_large_token : Token → Bool
is_large_token (k.Number n) = is_large n
is_large_token token = false

-- no number of the tokens is too large
abbrev pub AreSmall : List Token → Type 0
AreSmall ts = AllByRecursion (λ token. is_large_token token ≡ false) ts

-- No command begins with the tokens.
abbrev pub IsStuck : List Token → Type 0
IsStuck ts = (more : List Token) (v : Command) → IsCommand (ts ++ more) v → ⊥

-- Nothing is wrong with so many of the tokens: some command begins with them, none of them lies too deep, and no number of them is too large.
pub record IsFine (ts : List Token) (count : ℕ) : Type 0 where
  pub within : count ≤ length ts
  pub goes_on : GoesOn (take count ts)
  pub shallow : IsShallow first_levels (take count ts)
  pub small : AreSmall (take count ts)

-- the token that begins at this place, and how many stand before it, with which nothing is wrong
pub record IsAt (placed : List Placed) (place : ℕ) : Type 0 where
  pub count : ℕ
  pub token : Token
  pub is : slice_get placed count ≡ Some (record { token = token; place = place })
  pub before : IsFine (without_places placed) count

-- the tokens up to that one
abbrev pub up_to : (placed : List Placed) (place : ℕ) → IsAt placed place → List Token
up_to placed place at = take (at.count + 1) (without_places placed)

-- the token at this place is none with which a command goes on
pub record IsSyntaxAt (placed : List Placed) (place : ℕ) : Type 0 where
  pub at : IsAt placed place
  pub here : IsStuck (up_to placed place at)

-- tokens are wanting
pub record IsWanting (ts : List Token) : Type 0 where
  pub before : IsFine ts (length ts)
  pub none : (v : Command) → IsCommand ts v → ⊥

pub record IsTooDeepAt (placed : List Placed) (place : ℕ) : Type 0 where
  pub at : IsAt placed place
  pub here : GoesOn (up_to placed place at)
  pub deep : max_depth < depth (levels_after first_levels (up_to placed place at))

pub record IsTooLargeAt (placed : List Placed) (place : ℕ) : Type 0 where
  pub at : IsAt placed place
  pub here : GoesOn (up_to placed place at)
  pub shallow : depth (levels_after first_levels (up_to placed place at)) ≤ max_depth
  pub large : is_large_token at.token ≡ true

-- The tokens mean the command, none of them lies too deep, and no number of them is too large.
pub record Means (ts : List Token) (v : Command) : Type 0 where
  pub command : IsCommand ts v
  pub shallow : IsShallow first_levels ts
  pub small : AreSmall ts

-- The answer is how a block of so many bytes with these tokens is read.
abbrev pub AreRead : List Placed → ℕ → Result Command ReadFault → Type 0
AreRead placed len (Ok v) = Means (without_places placed) v
AreRead placed len (Err (f.Syntax place)) = IsSyntaxAt placed place ⊎ (IsWanting (without_places placed) × (place ≡ len))
AreRead placed len (Err (f.TooDeep place)) = IsTooDeepAt placed place
AreRead placed len (Err (f.NumberTooLarge place)) = IsTooLargeAt placed place
AreRead placed len (Err f.OutOfMemory) = ⊥

-- The answer is how the block is read.
abbrev pub Reads : List ℕ → Result Command ReadFault → Type 0
Reads bytes answer = AreRead (placed_tokens bytes) (length bytes) answer

-- The answer is how the block is read, unless memory ran out.
abbrev pub Says : List ℕ → Result Command ReadFault → Type 0
Says bytes (Err f.OutOfMemory) = Unit {0}
Says bytes answer = Reads bytes answer

-- An edit can be written, and the numbers of the other commands are within their limits.
abbrev pub IsUsable : Command → Type 0
IsUsable (c.Edit edit) = IsWritable edit.changes
IsUsable (c.Run n) = n ≤ MOST_RUN
IsUsable (c.Mean n) = n ≤ MOST_MEAN
IsUsable command = Unit {0}

-- what the reader answers at the end of a block of so many bytes
abbrev pub ended : ℕ → Option Command → Result Command ReadFault
ended len (Some v) = Ok v
ended len None = Err (f.Syntax len)

-- what the reader answers from a state and levels on, token by token: `Syntax` first, then `TooDeep`, then `NumberTooLarge`
abbrev pub reading : ℕ → State → List ℕ → List Placed → Result Command ReadFault
reading len state levels [] = ended len (command_finished state)
reading len state levels (placed ∷ rest) = elim (command_step state placed.token) [
  | None ↦ Err (f.Syntax placed.place)
  | Some next ↦
      if nat_lt max_depth (depth (counted levels placed.token)) then Err (f.TooDeep placed.place) else
      if is_large_token placed.token then Err (f.NumberTooLarge placed.place) else
      reading len next (counted levels placed.token) rest
]

-- what the reader answers to a block
unfoldable pub answer : List ℕ → Result Command ReadFault
answer bytes = reading (length bytes) st.Start first_levels (placed_tokens bytes)
