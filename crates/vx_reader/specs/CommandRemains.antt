-- What each state of the reader of commands wants: `CommandRemains s ts c` says that the tokens ts complete the state, and
-- that the whole means c.
use Rattle.std.specs.Prelude.{ℕ, ◌≤◌, Bool, List, [], ◌∷◌, ◌++◌, Option, Some, None}
use Rattle.vx_syntax.specs.declared.token.Token.{Token}
use Rattle.vx_syntax.specs.declared.token.Token.TheVariants as k
use Rattle.vx_syntax.specs.declared.decl.Decl.{Decl}
use Rattle.vx_names.specs.declared.key.DeclKey.{DeclKey}
use Rattle.vx_program.specs.declared.edit.Change.{Change}
use Rattle.vx_program.specs.declared.edit.Change.TheVariants.{Drop}
use Rattle.vx_program.specs.Changes.{declared, IsDecls, IsKeys, IsChanges}
use Rattle.vx_phrases.specs.declared.decl_state.DeclState.{DeclState}
use Rattle.vx_phrases.specs.declared.key_state.KeyState.{KeyState}
use Rattle.vx_phrases.specs.DeclRemains.{DeclRemains}
use Rattle.vx_phrases.specs.KeyRemains.{KeyRemains}
use Rattle.vx_reader.specs.declared.command.TheConstants.{MOST_RUN, MOST_MEAN}
use Rattle.vx_reader.specs.declared.command.Command.{Command}
use Rattle.vx_reader.specs.declared.command.Command.TheVariants as c
use Rattle.vx_reader.specs.declared.state.State.{State}
use Rattle.vx_reader.specs.declared.state.State.TheVariants as st
use Rattle.vx_reader.specs.Commands.{IsCommand}

-- behind whole changes
pub data AfterChange : List Change → List Token → Command → Type 0 where
  over : {changes : List Change} → AfterChange changes [] (c.Edit (record { changes = changes }))
  change : {before after : List Change} {ts : List Token} → IsChanges before ts [] after → AfterChange before ts (c.Edit (record { changes = after }))

-- behind a declaration, whose change is the last of these
pub data AfterDecl : Bool → List Change → List Token → Command → Type 0 where
  decls : {put : Bool} {before after : List Change} {ts us : List Token} {v : Command} → IsDecls put before ts us after → AfterChange after us v →
      AfterDecl put before ts v
  no_decls : {put : Bool} {before : List Change} {ts : List Token} {v : Command} → AfterChange before ts v → AfterDecl put before ts v

-- behind a key, whose change is the last of these
pub data AfterKey : List Change → List Token → Command → Type 0 where
  keys : {before after : List Change} {ts us : List Token} {v : Command} → IsKeys before ts us after → AfterChange after us v → AfterKey before ts v
  no_keys : {before : List Change} {ts : List Token} {v : Command} → AfterChange before ts v → AfterKey before ts v

pub data CommandRemains : State → List Token → Command → Type 0 where
  wants_command : {ts : List Token} {v : Command} → IsCommand ts v → CommandRemains st.Start ts v
  wants_run : {n : ℕ} → n ≤ MOST_RUN → CommandRemains st.Run (k.Number n ∷ []) (c.Run n)
  wants_mean : {n : ℕ} → n ≤ MOST_MEAN → CommandRemains st.Mean (k.Number n ∷ []) (c.Mean n)
  is_over : {v : Command} → CommandRemains (st.Over v) [] v
  in_decl : {put : Bool} {before : List Change} {state : DeclState} {ts us : List Token} {decl : Decl} {v : Command} → DeclRemains state ts us decl →
      AfterDecl put (before ++ declared put decl ∷ []) us v → CommandRemains (st.Declaring put before state) ts v
  in_key : {before : List Change} {state : KeyState} {ts us : List Token} {key : DeclKey} {v : Command} → KeyRemains state ts us key →
      AfterKey (before ++ Drop key ∷ []) us v → CommandRemains (st.Dropping before state) ts v

-- what completes the state where a token leads
abbrev pub CommandMoves : Option State → List Token → Command → Type 0
CommandMoves None ts v = ⊥
CommandMoves (Some state) ts v = CommandRemains state ts v
