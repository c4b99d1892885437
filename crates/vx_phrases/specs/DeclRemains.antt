-- What each state of the reader of declarations wants: `DeclRemains s ts us v` says that the tokens ts begin with what completes
-- the state, the whole declaration means v, and the tokens us follow it.
use Rattle.std.specs.Prelude.{◌≡◌, ℕ, pos, neg_ℤ, ◌≤◌, Bool, true, false, List, [], ◌∷◌, length, Option, Some, None}
use Rattle.vx_names.specs.declared.operator.Operator.{Operator}
use Rattle.vx_names.specs.declared.key.FieldKey.{FieldKey}
use Rattle.vx_syntax.specs.declared.token.Token.{Token}
use Rattle.vx_syntax.specs.declared.token.Token.TheVariants as k
use Rattle.vx_syntax.specs.declared.token.Keyword.TheVariants as w
use Rattle.vx_syntax.specs.declared.token.Mark.TheVariants as m
use Rattle.vx_syntax.specs.declared.expr.Stmt.{Stmt}
use Rattle.vx_syntax.specs.declared.test.Test.{Test}
use Rattle.vx_syntax.specs.declared.decl.Start.{Start}
use Rattle.vx_syntax.specs.declared.decl.Start.TheVariants as s
use Rattle.vx_syntax.specs.declared.decl.Decl.{Decl}
use Rattle.vx_syntax.specs.declared.decl.Decl.TheVariants as d
use Rattle.vx_syntax.specs.Expressions.{Bytes, is_bound, max_field_bytes, IsBody}
use Rattle.vx_syntax.specs.Tests.{IsTest}
use Rattle.vx_syntax.specs.Declarations.{any, formal_scope, field_key, IsBegun, IsStart, IsNames, IsParents}
use Rattle.vx_bodies.specs.declared.state.State.{State}
use Rattle.vx_bodies.specs.Remains.{Remains}
use Rattle.vx_phrases.specs.declared.test_state.TestState.{TestState}
use Rattle.vx_phrases.specs.declared.decl_state.NamesState.{NamesState}
use Rattle.vx_phrases.specs.declared.decl_state.NamesState.TheVariants as n
use Rattle.vx_phrases.specs.declared.decl_state.FieldState.{FieldState}
use Rattle.vx_phrases.specs.declared.decl_state.FieldState.TheVariants as f
use Rattle.vx_phrases.specs.declared.decl_state.Head.{Head}
use Rattle.vx_phrases.specs.declared.decl_state.Message.{Message}
use Rattle.vx_phrases.specs.declared.decl_state.Message.TheVariants as ms
use Rattle.vx_phrases.specs.declared.decl_state.MethodState.{MethodState}
use Rattle.vx_phrases.specs.declared.decl_state.MethodState.TheVariants as mt
use Rattle.vx_phrases.specs.declared.decl_state.DeclState.{DeclState}
use Rattle.vx_phrases.specs.declared.decl_state.DeclState.TheVariants as st
use Rattle.vx_phrases.specs.TestRemains.{TestRemains}
use Rattle.vx_phrases.specs.DeclMachine.{head_of, given, with_last, with_next, method_with}

-- after names that are read, or where one is wanted
pub data NamesRemain : NamesState → List Token → List Token → List Bytes → Type 0 where
  wanted : {given xs : List Bytes} {ts us : List Token} → IsNames given ts us xs → NamesRemain (n.Wanted given) ts us xs
  over : {given : List Bytes} {us : List Token} → NamesRemain (n.Given given) us us given
  more : {given xs : List Bytes} {ts us : List Token} → IsNames given ts us xs → NamesRemain (n.Given given) (k.Mark m.Comma ∷ ts) us xs

-- the field that is read, by whether it may change
pub data FieldRemains (changeable : Bool) : FieldState → List Token → List Token → Decl → Type 0 where
  wants_name : {x : Bytes} {ts us : List Token} {v : Decl} → length x ≤ max_field_bytes → FieldRemains changeable (f.Named x) ts us v →
      FieldRemains changeable f.Begun (k.Word x ∷ ts) us v
  wants_open : {x : Bytes} {ts us : List Token} {v : Decl} → FieldRemains changeable (f.Open x) ts us v →
      FieldRemains changeable (f.Named x) (k.Mark m.Open ∷ ts) us v
  no_formal : {x : Bytes} {ts us : List Token} {v : Decl} → FieldRemains changeable (f.At x) ts us v →
      FieldRemains changeable (f.Open x) (k.Mark m.At ∷ ts) us v
  formal : {x y : Bytes} {ts us : List Token} {v : Decl} → FieldRemains changeable (f.Formal x) ts us v →
      FieldRemains changeable (f.Open x) (k.Word y ∷ ts) us v
  wants_at : {x : Bytes} {ts us : List Token} {v : Decl} → FieldRemains changeable (f.At x) ts us v →
      FieldRemains changeable (f.Formal x) (k.Mark m.At ∷ ts) us v
  wants_holder : {x holder : Bytes} {ts us : List Token} {v : Decl} → FieldRemains changeable (f.Holder (field_key x holder)) ts us v →
      FieldRemains changeable (f.At x) (k.Word holder ∷ ts) us v
  wants_close : {key : FieldKey} {ts us : List Token} {v : Decl} → FieldRemains changeable (f.Held key) ts us v →
      FieldRemains changeable (f.Holder key) (k.Mark m.Close ∷ ts) us v
  may_begin : {key : FieldKey} {start : Start} {ts us : List Token} → IsBegun ts us start →
      FieldRemains changeable (f.Held key) ts us (d.Field key start changeable)
  wants_start : {key : FieldKey} {start : Start} {ts us : List Token} → IsStart ts us start →
      FieldRemains changeable (f.Becomes key) ts us (d.Field key start changeable)
  wants_number : {key : FieldKey} {n : ℕ} {us : List Token} →
      FieldRemains changeable (f.Signed key) (k.Number n ∷ us) us (d.Field key (s.Int (neg_ℤ (pos n))) changeable)

pub data MethodRemains : MethodState → List Token → List Token → Decl → Type 0 where
  wants_name : {x : Bytes} {ts us : List Token} {v : Decl} → MethodRemains (mt.Named x) ts us v → MethodRemains mt.Begun (k.Word x ∷ ts) us v
  wants_operator : {op : Operator} {ts us : List Token} {v : Decl} → MethodRemains (mt.Sign op) ts us v →
      MethodRemains mt.Begun (k.Operator op ∷ ts) us v
  wants_open : {x : Bytes} {ts us : List Token} {v : Decl} → MethodRemains (mt.Open x) ts us v →
      MethodRemains (mt.Named x) (k.Mark m.Open ∷ ts) us v
  wants_two : {op : Operator} {ts us : List Token} {v : Decl} → MethodRemains (mt.Formal (ms.Sign op)) ts us v →
      MethodRemains (mt.Sign op) (k.Mark m.Open ∷ ts) us v
  of_none : {x : Bytes} {ts us : List Token} {v : Decl} → MethodRemains (mt.Formed (head_of x)) ts us v →
      MethodRemains (mt.Open x) (k.Mark m.Close ∷ ts) us v
  of_some : {x : Bytes} {ts us : List Token} {v : Decl} → MethodRemains (mt.Formal (ms.Named (head_of x))) ts us v → MethodRemains (mt.Open x) ts us v
  has_name : {message : Message} {x : Bytes} {ts us : List Token} {v : Decl} → is_bound (formal_scope (given message)) x ≡ false →
      MethodRemains (mt.FormalNamed message x) ts us v → MethodRemains (mt.Formal message) (k.Word x ∷ ts) us v
  no_name : {message : Message} {ts us : List Token} {v : Decl} → MethodRemains (mt.At message None) ts us v →
      MethodRemains (mt.Formal message) (k.Mark m.At ∷ ts) us v
  unspecialised : {message : Message} {x : Bytes} {ts us : List Token} {v : Decl} → MethodRemains (mt.Specialised message (Some x) any) ts us v →
      MethodRemains (mt.FormalNamed message x) ts us v
  specialised : {message : Message} {x : Bytes} {ts us : List Token} {v : Decl} → MethodRemains (mt.At message (Some x)) ts us v →
      MethodRemains (mt.FormalNamed message x) (k.Mark m.At ∷ ts) us v
  wants_specialiser : {message : Message} {x : Option Bytes} {specialiser : Bytes} {ts us : List Token} {v : Decl} →
      MethodRemains (mt.Specialised message x specialiser) ts us v → MethodRemains (mt.At message x) (k.Word specialiser ∷ ts) us v
  last_formal : {message : Message} {head : Head} {x : Option Bytes} {specialiser : Bytes} {ts us : List Token} {v : Decl} →
      with_last message x specialiser ≡ Some head → MethodRemains (mt.Formed head) ts us v →
      MethodRemains (mt.Specialised message x specialiser) (k.Mark m.Close ∷ ts) us v
  next_formal : {message next : Message} {x : Option Bytes} {specialiser : Bytes} {ts us : List Token} {v : Decl} →
      with_next message x specialiser ≡ Some next → MethodRemains (mt.Formal next) ts us v →
      MethodRemains (mt.Specialised message x specialiser) (k.Mark m.Comma ∷ ts) us v
  wants_body : {head : Head} {body : List Stmt} {ts us : List Token} → IsBody (formal_scope head.formals) ts (k.Mark m.CloseBlock ∷ us) body →
      MethodRemains (mt.Formed head) (k.Mark m.OpenBlock ∷ ts) us (method_with head body)

pub data DeclRemains : DeclState → List Token → List Token → Decl → Type 0 where
  object : {ts us : List Token} {v : Decl} → DeclRemains st.Object ts us v → DeclRemains st.Begun (k.Keyword w.Object ∷ ts) us v
  predicate : {ts us : List Token} {v : Decl} → DeclRemains st.Predicate ts us v → DeclRemains st.Begun (k.Keyword w.Predicate ∷ ts) us v
  var_field : {ts us : List Token} {v : Decl} → DeclRemains st.Var ts us v → DeclRemains st.Begun (k.Keyword w.Var ∷ ts) us v
  field : {ts us : List Token} {v : Decl} → FieldRemains false f.Begun ts us v → DeclRemains st.Begun (k.Keyword w.Field ∷ ts) us v
  method : {ts us : List Token} {v : Decl} → MethodRemains mt.Begun ts us v → DeclRemains st.Begun (k.Keyword w.Method ∷ ts) us v
  wants_object : {x : Bytes} {ts us : List Token} {v : Decl} → DeclRemains (st.ObjectNamed x) ts us v → DeclRemains st.Object (k.Word x ∷ ts) us v
  may_inherit : {x : Bytes} {parents : List Bytes} {ts us : List Token} → IsParents ts us parents →
      DeclRemains (st.ObjectNamed x) ts us (d.Object x parents)
  wants_parents : {x : Bytes} {parents : List Bytes} {state : NamesState} {ts us : List Token} → NamesRemain state ts us parents →
      DeclRemains (st.Parents x state) ts us (d.Object x parents)
  wants_predicate : {x : Bytes} {ts us : List Token} {v : Decl} → DeclRemains (st.PredicateNamed x) ts us v →
      DeclRemains st.Predicate (k.Word x ∷ ts) us v
  wants_isa : {x : Bytes} {ts us : List Token} {v : Decl} → DeclRemains (st.PredicateParents x (n.Wanted [])) ts us v →
      DeclRemains (st.PredicateNamed x) (k.Keyword w.Isa ∷ ts) us v
  wants_when : {x : Bytes} {parents : List Bytes} {test : Test} {state : NamesState} {ts vs us : List Token} →
      NamesRemain state ts (k.Keyword w.When ∷ vs) parents → IsTest vs us test → DeclRemains (st.PredicateParents x state) ts us (d.Predicate x parents test)
  wants_test : {x : Bytes} {parents : List Bytes} {test : Test} {state : TestState} {ts us : List Token} → TestRemains state ts us test →
      DeclRemains (st.PredicateTest x parents state) ts us (d.Predicate x parents test)
  wants_field : {ts us : List Token} {v : Decl} → FieldRemains true f.Begun ts us v → DeclRemains st.Var (k.Keyword w.Field ∷ ts) us v
  in_field : {changeable : Bool} {state : FieldState} {ts us : List Token} {v : Decl} → FieldRemains changeable state ts us v →
      DeclRemains (st.Field changeable state) ts us v
  in_method : {state : MethodState} {ts us : List Token} {v : Decl} → MethodRemains state ts us v → DeclRemains (st.Method state) ts us v
  in_body : {head : Head} {body : List Stmt} {state : State} {ts us : List Token} → Remains state ts us body →
      DeclRemains (st.Body head state) ts us (method_with head body)
  is_whole : {us : List Token} {v : Decl} → DeclRemains (st.Whole v) us us v
