-- Each state of the reader of declarations can be completed, and each step brings at most one name into scope.
use Rattle.std.proofs.Common.{◌<◌, ◌^◌, Bool, true, pos, neg_ℤ, List, [], ◌∷◌, ◌++◌, length, Option, Some, None, refl, arith}
use Rattle.std.specs.List.{AllByRecursion}
use Rattle.vx_names.specs.declared.key.FieldKey.{FieldKey}
use Rattle.vx_syntax.specs.declared.token.Token.{Token}
use Rattle.vx_syntax.specs.declared.token.Token.TheVariants as k
use Rattle.vx_syntax.specs.declared.token.Keyword.TheVariants as w
use Rattle.vx_syntax.specs.declared.token.Mark.TheVariants as mark
use Rattle.vx_syntax.specs.declared.expr.Stmt.{Stmt}
use Rattle.vx_syntax.specs.declared.decl.Start.TheVariants as s
use Rattle.vx_syntax.specs.declared.decl.Decl.{Decl}
use Rattle.vx_syntax.specs.declared.decl.Decl.TheVariants as d
use Rattle.vx_syntax.specs.Words.{IsToken}
use Rattle.vx_syntax.specs.Expressions as e
use Rattle.vx_syntax.specs.Expressions.{Bytes, Scope, with_formals}
use Rattle.vx_syntax.specs.Declarations as g
use Rattle.vx_syntax.specs.Declarations.{any, named, formal_scope}
use Rattle.vx_bodies.specs.declared.state.State.{State}
use Rattle.vx_bodies.specs.Machine.{scope_of}
use Rattle.vx_bodies.specs.Remains.{Remains}
use Rattle.vx_phrases.specs.declared.decl_state.NamesState.{NamesState}
use Rattle.vx_phrases.specs.declared.decl_state.NamesState.TheVariants as n
use Rattle.vx_phrases.specs.declared.decl_state.FieldState.{FieldState}
use Rattle.vx_phrases.specs.declared.decl_state.FieldState.TheVariants as f
use Rattle.vx_phrases.specs.declared.decl_state.Head.{Head}
use Rattle.vx_phrases.specs.declared.decl_state.Message.{Message}
use Rattle.vx_phrases.specs.declared.decl_state.Message.TheVariants as ms
use Rattle.vx_phrases.specs.declared.decl_state.MethodState.{MethodState}
use Rattle.vx_phrases.specs.declared.decl_state.MethodState.TheVariants as mt
use Rattle.vx_phrases.specs.declared.decl_state.DeclState.{DeclState}
use Rattle.vx_phrases.specs.declared.decl_state.DeclState.TheVariants as st
use Rattle.vx_phrases.specs.Laws.{Completion}
use Rattle.vx_phrases.specs.declared.test_state.TestState.{TestState}
use Rattle.vx_phrases.specs.TestMachine.{test_begun}
use Rattle.vx_names.specs.Operator.{spelling}
use Rattle.vx_phrases.specs.DeclMachine as m
use Rattle.vx_phrases.specs.DeclMachine.{decl_step, names_in, given}
use Rattle.vx_phrases.specs.DeclRemains as r
use Rattle.vx_phrases.specs.DeclRemains.{NamesRemain, FieldRemains, MethodRemains, DeclRemains}
use Rattle.vx_phrases.proofs.TestFinish as tests
use Rattle.vx_phrases.proofs.Completions.{then_token, also, letter, letter_is_word}

-- tokens that finish a body
abbrev pub BodyFinishes : Type 0
BodyFinishes = (state : State) → length (scope_of state) < 2 ^ 64 →
    (more : List Token) × (c : List Stmt) × AllByRecursion IsToken more × ((us : List Token) → Remains state (more ++ us) us c)

whole : (v : Decl) → Completion (DeclRemains (st.Whole v))
whole v = record { tokens = []; value = v; each = tt; completes = λ us. r.is_whole }

object_finish : (x : Bytes) → Completion (DeclRemains (st.ObjectNamed x))
object_finish x = record { tokens = []; value = d.Object x (any ∷ []); each = tt; completes = λ us. r.may_inherit g.only_any }

parents_finish : (x : Bytes) (state : NamesState) → Completion (DeclRemains (st.Parents x state))
parents_finish x (n.Wanted given) =
    record { tokens = k.Word letter ∷ []; value = d.Object x (given ++ letter ∷ []); each = (letter_is_word, tt); completes = λ us. r.wants_parents (r.wanted (g.last_name letter)) }
parents_finish x (n.Given given) = record { tokens = []; value = d.Object x given; each = tt; completes = λ us. r.wants_parents r.over }

predicate_finish : (x : Bytes) (state : NamesState) → Completion (DeclRemains (st.PredicateParents x state))
predicate_finish x (n.Wanted given) =
    let found = tests.finish test_begun in
    record {
      tokens = k.Word letter ∷ k.Keyword w.When ∷ found.tokens;
      value = d.Predicate x (given ++ letter ∷ []) found.value;
      each = (letter_is_word, (tt, found.each));
      completes = λ us. r.wants_when (r.wanted (g.last_name letter)) ((tests.begins _ _ _).0 (found.completes us));
    }
predicate_finish x (n.Given given) =
    let found = tests.finish test_begun in
    record {
      tokens = k.Keyword w.When ∷ found.tokens;
      value = d.Predicate x given found.value;
      each = (tt, found.each);
      completes = λ us. r.wants_when r.over ((tests.begins _ _ _).0 (found.completes us));
    }

held_finish : (changeable : Bool) (key : FieldKey) → Completion (FieldRemains changeable (f.Held key))
held_finish changeable key = record { tokens = []; value = d.Field key s.Nil changeable; each = tt; completes = λ us. r.may_begin g.not_begun }

holder_finish : (changeable : Bool) (key : FieldKey) → Completion (FieldRemains changeable (f.Holder key))
holder_finish changeable key = then_token (k.Mark mark.Close) tt (λ ts us v h. r.wants_close h) (held_finish changeable key)

at_finish : (changeable : Bool) (x : Bytes) → Completion (FieldRemains changeable (f.At x))
at_finish changeable x = then_token (k.Word letter) letter_is_word (λ ts us v h. r.wants_holder h) (holder_finish changeable (g.field_key x letter))

name_finish : (changeable : Bool) (x : Bytes) → Completion (FieldRemains changeable (f.Named x))
name_finish changeable x =
    then_token (k.Mark mark.Open) tt (λ ts us v h. r.wants_open h) (then_token (k.Mark mark.At) tt (λ ts us v h. r.no_formal h) (at_finish changeable x))

field_finish : (changeable : Bool) (state : FieldState) → Completion (FieldRemains changeable state)
field_finish changeable f.Begun = then_token (k.Word letter) letter_is_word (λ ts us v h. r.wants_name (omega arith) h) (name_finish changeable letter)
field_finish changeable (f.Named x) = name_finish changeable x
field_finish changeable (f.Open x) = then_token (k.Mark mark.At) tt (λ ts us v h. r.no_formal h) (at_finish changeable x)
field_finish changeable (f.Formal x) = then_token (k.Mark mark.At) tt (λ ts us v h. r.wants_at h) (at_finish changeable x)
field_finish changeable (f.At x) = at_finish changeable x
field_finish changeable (f.Holder key) = holder_finish changeable key
field_finish changeable (f.Held key) = held_finish changeable key
field_finish changeable (f.Becomes key) =
    record { tokens = k.Number 0 ∷ []; value = d.Field key (s.Int (pos 0)) changeable; each = (omega arith, tt); completes = λ us. r.wants_start (g.number 0) }
field_finish changeable (f.Signed key) =
    record { tokens = k.Number 0 ∷ []; value = d.Field key (s.Int (neg_ℤ (pos 0))) changeable; each = (omega arith, tt); completes = λ us. r.wants_number }

formed_finish : (head : Head) → Completion (MethodRemains (mt.Formed head))
formed_finish head =
    record { tokens = k.Mark mark.OpenBlock ∷ k.Mark mark.CloseBlock ∷ []; value = m.method_with head []; each = (tt, (tt, tt)); completes = λ us. r.wants_body e.empty }

-- a formal without a name, and what follows it
nameless_finish : (message : Message) → Completion (MethodRemains (mt.Specialised message None letter)) → Completion (MethodRemains (mt.Formal message))
nameless_finish message found =
    then_token (k.Mark mark.At) tt (λ ts us v h. r.no_name h) (then_token (k.Word letter) letter_is_word (λ ts us v h. r.wants_specialiser h) found)

specialised_finish : (message : Message) (x : Option Bytes) (specialiser : Bytes) → Completion (MethodRemains (mt.Specialised message x specialiser))
specialised_finish (ms.Named head) x specialiser =
    then_token (k.Mark mark.Close) tt (λ ts us v h. r.last_formal refl h) (formed_finish (m.with_formal head x specialiser))
specialised_finish (ms.Half op y first) x specialiser =
    then_token (k.Mark mark.Close) tt (λ ts us v h. r.last_formal refl h)
    (formed_finish (record { name = spelling op; formals = y ∷ x ∷ []; specialisers = first ∷ specialiser ∷ [] }))
specialised_finish (ms.Sign op) x specialiser =
    then_token (k.Mark mark.Comma) tt (λ ts us v h. r.next_formal refl h)
    (nameless_finish (ms.Half op x specialiser)
    (then_token (k.Mark mark.Close) tt (λ ts us v h. r.last_formal refl h)
    (formed_finish (record { name = spelling op; formals = x ∷ None ∷ []; specialisers = specialiser ∷ letter ∷ [] }))))

formal_finish : (message : Message) → Completion (MethodRemains (mt.Formal message))
formal_finish message = nameless_finish message (specialised_finish message None letter)

open_finish : (x : Bytes) → Completion (MethodRemains (mt.Open x))
open_finish x = then_token (k.Mark mark.Close) tt (λ ts us v h. r.of_none h) (formed_finish (m.head_of x))

named_finish : (x : Bytes) → Completion (MethodRemains (mt.Named x))
named_finish x = then_token (k.Mark mark.Open) tt (λ ts us v h. r.wants_open h) (open_finish x)

method_finish : (state : MethodState) → Completion (MethodRemains state)
method_finish mt.Begun = then_token (k.Word letter) letter_is_word (λ ts us v h. r.wants_name h) (named_finish letter)
method_finish (mt.Named x) = named_finish x
method_finish (mt.Sign op) = then_token (k.Mark mark.Open) tt (λ ts us v h. r.wants_two h) (formal_finish (ms.Sign op))
method_finish (mt.Open x) = open_finish x
method_finish (mt.Formal message) = formal_finish message
method_finish (mt.FormalNamed message x) = also (λ ts us v h. r.unspecialised h) (specialised_finish message (Some x) any)
method_finish (mt.At message x) = then_token (k.Word letter) letter_is_word (λ ts us v h. r.wants_specialiser h) (specialised_finish message x letter)
method_finish (mt.Specialised message x specialiser) = specialised_finish message x specialiser
method_finish (mt.Formed head) = formed_finish head

body_finish : BodyFinishes → (head : Head) (state : State) → length (scope_of state) < 2 ^ 64 → Completion (DeclRemains (st.Body head state))
body_finish body head state few =
    let found = body state few in
    record { tokens = found.0; value = m.method_with head found.1; each = found.2; completes = λ us. r.in_body (found.3 us) }

test_finish : (x : Bytes) (parents : List Bytes) (state : TestState) → Completion (DeclRemains (st.PredicateTest x parents state))
test_finish x parents state =
    let found = tests.finish state in
    record { tokens = found.tokens; value = d.Predicate x parents found.value; each = found.each; completes = λ us. r.wants_test (found.completes us) }

predicate_named_finish : (x : Bytes) → Completion (DeclRemains (st.PredicateNamed x))
predicate_named_finish x = then_token (k.Keyword w.Isa) tt (λ ts us v h. r.wants_isa h) (predicate_finish x (n.Wanted []))

-- Each state can be completed, as long as its names leave one free.
pub finish : BodyFinishes → (s : DeclState) → names_in s < 2 ^ 64 → Completion (DeclRemains s)
unfolding names_in
finish body st.Begun few =
    then_token (k.Keyword w.Object) tt (λ ts us v h. r.object h) (then_token (k.Word letter) letter_is_word (λ ts us v h. r.wants_object h) (object_finish letter))
finish body st.Object few = then_token (k.Word letter) letter_is_word (λ ts us v h. r.wants_object h) (object_finish letter)
finish body (st.ObjectNamed x) few = object_finish x
finish body (st.Parents x state) few = parents_finish x state
finish body st.Predicate few = then_token (k.Word letter) letter_is_word (λ ts us v h. r.wants_predicate h) (predicate_named_finish letter)
finish body (st.PredicateNamed x) few = predicate_named_finish x
finish body (st.PredicateParents x state) few = predicate_finish x state
finish body (st.PredicateTest x parents state) few = test_finish x parents state
finish body st.Var few = then_token (k.Keyword w.Field) tt (λ ts us v h. r.wants_field h) (field_finish true f.Begun)
finish body (st.Field changeable state) few = also (λ ts us v h. r.in_field h) (field_finish changeable state)
finish body (st.Method state) few = also (λ ts us v h. r.in_method h) (method_finish state)
finish body (st.Body head state) few = body_finish body head state few
finish body (st.Whole decl) few = whole decl
