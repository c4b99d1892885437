-- The reader of keys, token by token.
use Rattle.std.specs.Prelude.{◌+◌, nat_le, false, if◌then◌else◌, [], ◌∷◌, ◌++◌, length, Option, Some, None, List}
use Rattle.vx_names.specs.declared.operator.Operator.{Operator}
use Rattle.vx_names.specs.declared.key.DeclKey.{DeclKey}
use Rattle.vx_names.specs.declared.key.FieldKey.{FieldKey}
use Rattle.vx_names.specs.declared.key.DeclKey.TheVariants as y
use Rattle.vx_names.specs.Operator.{spelling}
use Rattle.vx_syntax.specs.declared.token.Token.{Token}
use Rattle.vx_syntax.specs.declared.token.Token.TheVariants as k
use Rattle.vx_syntax.specs.declared.token.Keyword.TheVariants as w
use Rattle.vx_syntax.specs.declared.token.Mark.TheVariants as m
use Rattle.vx_syntax.specs.Expressions.{Bytes, max_field_bytes}
use Rattle.vx_syntax.specs.Declarations.{may_go_on, field_key, method_key}
use Rattle.vx_phrases.specs.declared.key_state.KeyMessage.{KeyMessage}
use Rattle.vx_phrases.specs.declared.key_state.KeyMessage.TheVariants as ms
use Rattle.vx_phrases.specs.declared.key_state.KeyState.{KeyState}
use Rattle.vx_phrases.specs.declared.key_state.KeyState.TheVariants as st

abbrev pub key_begins : Token → Option KeyState
key_begins (k.Keyword w.Object) = Some st.Object
key_begins (k.Keyword w.Predicate) = Some st.Predicate
key_begins (k.Keyword w.Field) = Some st.Field
key_begins (k.Keyword w.Method) = Some st.Method
key_begins token = None

abbrev pub object : Token → Option KeyState
object (k.Word x) = Some (st.Whole (y.Object x))
object token = None

abbrev pub predicate : Token → Option KeyState
predicate (k.Word x) = Some (st.Whole (y.Predicate x))
predicate token = None

abbrev pub field_name : Bytes → Option KeyState
field_name x = if nat_le (length x) max_field_bytes then Some (st.FieldNamed x) else None

abbrev pub field : Token → Option KeyState
field (k.Word x) = field_name x
field token = None

abbrev pub field_named : Bytes → Token → Option KeyState
field_named x (k.Mark m.Open) = Some (st.FieldOpen x)
field_named x token = None

abbrev pub field_open : Bytes → Token → Option KeyState
field_open x (k.Mark m.At) = Some (st.FieldAt x)
field_open x token = None

abbrev pub field_at : Bytes → Token → Option KeyState
field_at x (k.Word holder) = Some (st.FieldHolder (field_key x holder))
field_at x token = None

abbrev pub field_holder : FieldKey → Token → Option KeyState
field_holder key (k.Mark m.Close) = Some (st.Whole (y.Field key))
field_holder key token = None

abbrev pub method : Token → Option KeyState
method (k.Word x) = Some (st.MethodNamed x)
method (k.Operator op) = Some (st.MethodSign op)
method token = None

abbrev pub method_named : Bytes → Token → Option KeyState
method_named x (k.Mark m.Open) = Some (st.MethodOpen x)
method_named x token = None

abbrev pub method_sign : Operator → Token → Option KeyState
method_sign op (k.Mark m.Open) = Some (st.Specialiser (ms.Sign op))
method_sign op token = None

abbrev pub method_whole : Bytes → List Bytes → KeyState
method_whole x specialisers = st.Whole (y.Method (method_key x specialisers))

abbrev pub method_open : Bytes → Token → Option KeyState
method_open x (k.Mark m.Close) = Some (method_whole x [])
method_open x (k.Mark m.At) = Some (st.At (ms.Named x []))
method_open x token = None

abbrev pub specialiser : KeyMessage → Token → Option KeyState
specialiser message (k.Mark m.At) = Some (st.At message)
specialiser message token = None

abbrev pub at : KeyMessage → Token → Option KeyState
at message (k.Word x) = Some (st.Specialised message x)
at message token = None

-- the key that is whole with one more specialiser, the last
abbrev pub with_last : KeyMessage → Bytes → Option KeyState
with_last (ms.Named x given) specialiser = Some (method_whole x (given ++ specialiser ∷ []))
with_last (ms.Sign op) specialiser = None
with_last (ms.Half op first) specialiser = Some (method_whole (spelling op) (first ∷ specialiser ∷ []))

-- the message with one more specialiser, where still more may follow
abbrev pub with_next : KeyMessage → Bytes → Option KeyMessage
with_next (ms.Named x given) specialiser = if may_go_on false (length given + 1) then Some (ms.Named x (given ++ specialiser ∷ [])) else None
with_next (ms.Sign op) specialiser = Some (ms.Half op specialiser)
with_next (ms.Half op first) specialiser = None

abbrev pub specialiser_next : Option KeyMessage → Option KeyState
specialiser_next None = None
specialiser_next (Some message) = Some (st.Specialiser message)

abbrev pub specialised : KeyMessage → Bytes → Token → Option KeyState
specialised message x (k.Mark m.Close) = with_last message x
specialised message x (k.Mark m.Comma) = specialiser_next (with_next message x)
specialised message x token = None

-- nothing of a key is read
abbrev pub key_begun : KeyState
key_begun = st.Begun

-- the state after a token, if a key goes on with it
unfoldable pub key_step : KeyState → Token → Option KeyState
key_step st.Begun token = key_begins token
key_step st.Object token = object token
key_step st.Predicate token = predicate token
key_step st.Field token = field token
key_step (st.FieldNamed x) token = field_named x token
key_step (st.FieldOpen x) token = field_open x token
key_step (st.FieldAt x) token = field_at x token
key_step (st.FieldHolder key) token = field_holder key token
key_step st.Method token = method token
key_step (st.MethodNamed x) token = method_named x token
key_step (st.MethodSign op) token = method_sign op token
key_step (st.MethodOpen x) token = method_open x token
key_step (st.Specialiser message) token = specialiser message token
key_step (st.At message) token = at message token
key_step (st.Specialised message x) token = specialised message x token
key_step (st.Whole key) token = None

-- the key that is read, where it may end there
unfoldable pub key_finished : KeyState → Option DeclKey
key_finished (st.Whole key) = Some key
key_finished state = None
