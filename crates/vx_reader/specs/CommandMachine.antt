-- The reader of commands, token by token.
use Rattle.std.specs.Prelude.{nat_le, Bool, true, false, if◌then◌else◌, List, [], ◌∷◌, ◌++◌, Option, Some, None}
use Rattle.std.specs.Str.{bytes_eq}
use Rattle.vx_syntax.specs.declared.token.Token.{Token}
use Rattle.vx_syntax.specs.declared.token.Token.TheVariants as k
use Rattle.vx_syntax.specs.declared.token.Keyword.TheVariants as w
use Rattle.vx_syntax.specs.declared.decl.Decl.{Decl}
use Rattle.vx_names.specs.declared.key.DeclKey.{DeclKey}
use Rattle.vx_syntax.specs.Expressions.{Bytes, is_among}
use Rattle.vx_syntax.specs.Declarations.{add_word, put_word, drop_word}
use Rattle.vx_syntax.specs.Depth.{changing_words}
use Rattle.vx_program.specs.declared.edit.Change.{Change}
use Rattle.vx_program.specs.declared.edit.Change.TheVariants.{Drop}
use Rattle.vx_program.specs.Changes.{declared}
use Rattle.vx_phrases.specs.declared.decl_state.DeclState.{DeclState}
use Rattle.vx_phrases.specs.declared.key_state.KeyState.{KeyState}
use Rattle.vx_phrases.specs.DeclMachine.{decl_begun, decl_step, decl_finished}
use Rattle.vx_phrases.specs.KeyMachine.{key_begun, key_step, key_finished}
use Rattle.vx_reader.specs.declared.command.TheConstants.{MOST_RUN, MOST_MEAN}
use Rattle.vx_reader.specs.declared.command.Command.{Command}
use Rattle.vx_reader.specs.declared.command.Command.TheVariants as c
use Rattle.vx_reader.specs.declared.state.State.{State}
use Rattle.vx_reader.specs.declared.state.State.TheVariants as st
use Rattle.vx_reader.specs.Commands.{run_word, mean_word, image_word, why_word, list_word, journal_word}

-- a word that begins a change, behind these changes
abbrev pub changing : List Change → Bytes → Option State
changing before x =
    if bytes_eq x add_word then Some (st.Declaring false before decl_begun) else
    if bytes_eq x put_word then Some (st.Declaring true before decl_begun) else
    if bytes_eq x drop_word then Some (st.Dropping before key_begun) else None

-- a word that begins a command which is no edit
abbrev pub asking : Bytes → Option State
asking x =
    if bytes_eq x run_word then Some st.Run else
    if bytes_eq x mean_word then Some st.Mean else
    if bytes_eq x image_word then Some (st.Over c.Image) else
    if bytes_eq x why_word then Some (st.Over c.Why) else
    if bytes_eq x list_word then Some (st.Over c.List) else
    if bytes_eq x journal_word then Some (st.Over c.Journal) else None

abbrev pub started : Token → Option State
started (k.Word x) = if is_among changing_words x then changing [] x else asking x
started token = None

abbrev pub run_for : Token → Option State
run_for (k.Number n) = if nat_le n MOST_RUN then Some (st.Over (c.Run n)) else None
run_for token = None

abbrev pub mean_for : Token → Option State
mean_for (k.Number n) = if nat_le n MOST_MEAN then Some (st.Over (c.Mean n)) else None
mean_for token = None

-- whether the token begins a declaration, a key or a change
abbrev pub opens : Token → Bool
opens (k.Word x) = is_among changing_words x
opens (k.Keyword w.Object) = true
opens (k.Keyword w.Predicate) = true
opens (k.Keyword w.Var) = true
opens (k.Keyword w.Field) = true
opens (k.Keyword w.Method) = true
opens token = false

abbrev pub in_decl : Bool → List Change → Option DeclState → Option State
in_decl put before None = None
in_decl put before (Some state) = Some (st.Declaring put before state)

abbrev pub in_key : List Change → Option KeyState → Option State
in_key before None = None
in_key before (Some state) = Some (st.Dropping before state)

-- a token that begins a declaration or a change, behind a declaration
abbrev pub after_decl : Bool → List Change → Token → Option State
after_decl put before (k.Word x) = changing before x
after_decl put before token = in_decl put before (decl_step decl_begun token)

-- a token that begins a key or a change, behind a key
abbrev pub after_key : List Change → Token → Option State
after_key before (k.Word x) = changing before x
after_key before token = in_key before (key_step key_begun token)

-- a token in a declaration, or behind it where it is whole
abbrev pub declaring : Bool → Bool → List Change → DeclState → Option Decl → Token → Option State
declaring true put before state (Some decl) token = after_decl put (before ++ declared put decl ∷ []) token
declaring opening put before state whole token = in_decl put before (decl_step state token)

abbrev pub dropping : Bool → List Change → KeyState → Option DeclKey → Token → Option State
dropping true before state (Some key) token = after_key (before ++ Drop key ∷ []) token
dropping opening before state whole token = in_key before (key_step state token)

-- the state after a token, if some command goes on with it
unfoldable pub command_step : State → Token → Option State
command_step st.Start token = started token
command_step st.Run token = run_for token
command_step st.Mean token = mean_for token
command_step (st.Over command) token = None
command_step (st.Declaring put before state) token = declaring (opens token) put before state (decl_finished state) token
command_step (st.Dropping before state) token = dropping (opens token) before state (key_finished state) token

abbrev pub with_decl : Bool → List Change → Option Decl → Option Command
with_decl put before None = None
with_decl put before (Some decl) = Some (c.Edit (record { changes = before ++ declared put decl ∷ [] }))

abbrev pub with_key : List Change → Option DeclKey → Option Command
with_key before None = None
with_key before (Some key) = Some (c.Edit (record { changes = before ++ Drop key ∷ [] }))

-- the command that is read, where it may end there
unfoldable pub command_finished : State → Option Command
command_finished st.Start = Some c.Blank
command_finished st.Run = None
command_finished st.Mean = None
command_finished (st.Over command) = Some command
command_finished (st.Declaring put before state) = with_decl put before (decl_finished state)
command_finished (st.Dropping before state) = with_key before (key_finished state)

-- the state after some tokens
abbrev pub run_from : State → List Token → Option State
run_from state [] = Some state
run_from state (token ∷ ts) = elim (command_step state token) [ None ↦ None | Some next ↦ run_from next ts ]
