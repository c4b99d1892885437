-- The grammar of commands: which tokens are which command.
use Rattle.std.specs.Prelude.{ℕ, ◌≤◌, List, [], ◌∷◌, ◌++◌, codes}
use Rattle.std.specs.List.{AllByRecursion}
use Rattle.vx_syntax.specs.declared.token.Token.{Token}
use Rattle.vx_syntax.specs.declared.token.Token.TheVariants as k
use Rattle.vx_syntax.specs.Words.{IsToken}
use Rattle.vx_syntax.specs.Expressions.{Bytes}
use Rattle.vx_program.specs.declared.edit.Change.{Change}
use Rattle.vx_program.specs.Changes.{IsEdit}
use Rattle.vx_reader.specs.declared.command.TheConstants.{MOST_RUN, MOST_MEAN}
use Rattle.vx_reader.specs.declared.command.Command.{Command}
use Rattle.vx_reader.specs.declared.command.Command.TheVariants as c

-- the words that ask for something; elsewhere they are names
abbrev pub run_word : Bytes
run_word = codes "run"

abbrev pub mean_word : Bytes
mean_word = codes "mean"

abbrev pub image_word : Bytes
image_word = codes "image"

abbrev pub why_word : Bytes
why_word = codes "why"

abbrev pub list_word : Bytes
list_word = codes "list"

abbrev pub journal_word : Bytes
journal_word = codes "journal"

-- command = (nothing) | changes | "run" number | "mean" number | "image" | "why" | "list" | "journal"
pub data IsCommand : List Token → Command → Type 0 where
  blank : IsCommand [] c.Blank
  edit : {ts : List Token} {changes : List Change} → IsEdit ts changes → IsCommand ts (c.Edit (record { changes = changes }))
  run : (n : ℕ) → n ≤ MOST_RUN → IsCommand (k.Word run_word ∷ k.Number n ∷ []) (c.Run n)
  mean : (n : ℕ) → n ≤ MOST_MEAN → IsCommand (k.Word mean_word ∷ k.Number n ∷ []) (c.Mean n)
  image : IsCommand (k.Word image_word ∷ []) c.Image
  why : IsCommand (k.Word why_word ∷ []) c.Why
  list : IsCommand (k.Word list_word ∷ []) c.List
  journal : IsCommand (k.Word journal_word ∷ []) c.Journal

-- Some command begins with the tokens.
pub record GoesOn (ts : List Token) : Type 0 where
  pub more : List Token
  pub command : Command
  pub each : AllByRecursion IsToken more
  pub means : IsCommand (ts ++ more) command
