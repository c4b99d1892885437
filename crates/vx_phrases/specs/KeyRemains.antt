-- What each state of the reader of keys wants: `KeyRemains s ts us v` says that the tokens ts begin with what completes the
-- state, the whole key means v, and the tokens us follow it.
use Rattle.std.specs.Prelude.{◌≡◌, ◌≤◌, List, [], ◌∷◌, length, Some}
use Rattle.vx_names.specs.declared.operator.Operator.{Operator}
use Rattle.vx_names.specs.declared.key.FieldKey.{FieldKey}
use Rattle.vx_names.specs.declared.key.DeclKey.{DeclKey}
use Rattle.vx_names.specs.declared.key.DeclKey.TheVariants as y
use Rattle.vx_syntax.specs.declared.token.Token.{Token}
use Rattle.vx_syntax.specs.declared.token.Token.TheVariants as k
use Rattle.vx_syntax.specs.declared.token.Keyword.TheVariants as w
use Rattle.vx_syntax.specs.declared.token.Mark.TheVariants as m
use Rattle.vx_syntax.specs.Expressions.{Bytes, max_field_bytes}
use Rattle.vx_syntax.specs.Declarations.{field_key, method_key}
use Rattle.vx_phrases.specs.declared.key_state.KeyMessage.{KeyMessage}
use Rattle.vx_phrases.specs.declared.key_state.KeyMessage.TheVariants as ms
use Rattle.vx_phrases.specs.declared.key_state.KeyState.{KeyState}
use Rattle.vx_phrases.specs.declared.key_state.KeyState.TheVariants as st
use Rattle.vx_phrases.specs.KeyMachine.{with_last, with_next}

pub data KeyRemains : KeyState → List Token → List Token → DeclKey → Type 0 where
  object : {ts us : List Token} {v : DeclKey} → KeyRemains st.Object ts us v → KeyRemains st.Begun (k.Keyword w.Object ∷ ts) us v
  predicate : {ts us : List Token} {v : DeclKey} → KeyRemains st.Predicate ts us v → KeyRemains st.Begun (k.Keyword w.Predicate ∷ ts) us v
  field : {ts us : List Token} {v : DeclKey} → KeyRemains st.Field ts us v → KeyRemains st.Begun (k.Keyword w.Field ∷ ts) us v
  method : {ts us : List Token} {v : DeclKey} → KeyRemains st.Method ts us v → KeyRemains st.Begun (k.Keyword w.Method ∷ ts) us v
  wants_object : {x : Bytes} {us : List Token} → KeyRemains st.Object (k.Word x ∷ us) us (y.Object x)
  wants_predicate : {x : Bytes} {us : List Token} → KeyRemains st.Predicate (k.Word x ∷ us) us (y.Predicate x)
  wants_field : {x : Bytes} {ts us : List Token} {v : DeclKey} → length x ≤ max_field_bytes → KeyRemains (st.FieldNamed x) ts us v →
      KeyRemains st.Field (k.Word x ∷ ts) us v
  wants_open : {x : Bytes} {ts us : List Token} {v : DeclKey} → KeyRemains (st.FieldOpen x) ts us v →
      KeyRemains (st.FieldNamed x) (k.Mark m.Open ∷ ts) us v
  wants_at : {x : Bytes} {ts us : List Token} {v : DeclKey} → KeyRemains (st.FieldAt x) ts us v →
      KeyRemains (st.FieldOpen x) (k.Mark m.At ∷ ts) us v
  wants_holder : {x holder : Bytes} {ts us : List Token} {v : DeclKey} → KeyRemains (st.FieldHolder (field_key x holder)) ts us v →
      KeyRemains (st.FieldAt x) (k.Word holder ∷ ts) us v
  wants_close : {key : FieldKey} {us : List Token} → KeyRemains (st.FieldHolder key) (k.Mark m.Close ∷ us) us (y.Field key)
  wants_name : {x : Bytes} {ts us : List Token} {v : DeclKey} → KeyRemains (st.MethodNamed x) ts us v → KeyRemains st.Method (k.Word x ∷ ts) us v
  wants_operator : {op : Operator} {ts us : List Token} {v : DeclKey} → KeyRemains (st.MethodSign op) ts us v →
      KeyRemains st.Method (k.Operator op ∷ ts) us v
  wants_specialisers : {x : Bytes} {ts us : List Token} {v : DeclKey} → KeyRemains (st.MethodOpen x) ts us v →
      KeyRemains (st.MethodNamed x) (k.Mark m.Open ∷ ts) us v
  wants_two : {op : Operator} {ts us : List Token} {v : DeclKey} → KeyRemains (st.Specialiser (ms.Sign op)) ts us v →
      KeyRemains (st.MethodSign op) (k.Mark m.Open ∷ ts) us v
  of_none : {x : Bytes} {us : List Token} → KeyRemains (st.MethodOpen x) (k.Mark m.Close ∷ us) us (y.Method (method_key x []))
  of_some : {x : Bytes} {ts us : List Token} {v : DeclKey} → KeyRemains (st.At (ms.Named x [])) ts us v →
      KeyRemains (st.MethodOpen x) (k.Mark m.At ∷ ts) us v
  wants_sign : {message : KeyMessage} {ts us : List Token} {v : DeclKey} → KeyRemains (st.At message) ts us v →
      KeyRemains (st.Specialiser message) (k.Mark m.At ∷ ts) us v
  wants_specialiser : {message : KeyMessage} {x : Bytes} {ts us : List Token} {v : DeclKey} → KeyRemains (st.Specialised message x) ts us v →
      KeyRemains (st.At message) (k.Word x ∷ ts) us v
  last_specialiser : {message : KeyMessage} {x : Bytes} {next : KeyState} {ts us : List Token} {v : DeclKey} → with_last message x ≡ Some next →
      KeyRemains next ts us v → KeyRemains (st.Specialised message x) (k.Mark m.Close ∷ ts) us v
  next_specialiser : {message next : KeyMessage} {x : Bytes} {ts us : List Token} {v : DeclKey} → with_next message x ≡ Some next →
      KeyRemains (st.Specialiser next) ts us v → KeyRemains (st.Specialised message x) (k.Mark m.Comma ∷ ts) us v
  is_whole : {us : List Token} {v : DeclKey} → KeyRemains (st.Whole v) us us v
