-- Where declarations end, and what their reader never goes on with.
use Rattle.std.proofs.Common.{◌≡◌, ℕ, Bool, true, false, List, [], ◌∷◌, Option, Some, None, refl, sym, subst, ap, is_none}
use Rattle.std.specs.Str.{bytes_eq}
use Rattle.std.proofs.lemmas.Slice.Eq.{bytes_eq-Decides}
use Rattle.vx_names.specs.declared.key.FieldKey.{FieldKey}
use Rattle.vx_syntax.specs.declared.token.Token.{Token}
use Rattle.vx_syntax.specs.declared.token.Token.TheVariants as k
use Rattle.vx_syntax.specs.declared.token.Keyword.TheVariants as w
use Rattle.vx_syntax.specs.declared.token.Mark.TheVariants as mark
use Rattle.vx_syntax.specs.declared.expr.Stmt.{Stmt}
use Rattle.vx_syntax.specs.declared.test.Test.{Test}
use Rattle.vx_syntax.specs.declared.decl.Start.TheVariants as s
use Rattle.vx_syntax.specs.declared.decl.Decl.{Decl}
use Rattle.vx_syntax.specs.declared.decl.Decl.TheVariants as d
use Rattle.vx_syntax.specs.Expressions.{Bytes, is_among}
use Rattle.vx_syntax.specs.Tests.{and_word, or_word}
use Rattle.vx_syntax.specs.Declarations as g
use Rattle.vx_syntax.specs.Declarations.{any, named, formal_scope}
use Rattle.vx_bodies.specs.declared.state.State.{State}
use Rattle.vx_bodies.specs.declared.state.Next.{Next}
use Rattle.vx_bodies.specs.declared.state.Next.TheVariants.{Stuck, On, Done}
use Rattle.vx_bodies.specs.Machine.{step}
use Rattle.vx_bodies.specs.Remains.{Remains}
use Rattle.vx_phrases.specs.declared.test_state.TestState.{TestState}
use Rattle.vx_phrases.specs.declared.test_state.TestState.TheVariants as ts
use Rattle.vx_phrases.specs.declared.decl_state.NamesState.{NamesState}
use Rattle.vx_phrases.specs.declared.decl_state.NamesState.TheVariants as n
use Rattle.vx_phrases.specs.declared.decl_state.FieldState.{FieldState}
use Rattle.vx_phrases.specs.declared.decl_state.FieldState.TheVariants as f
use Rattle.vx_phrases.specs.declared.decl_state.Head.{Head}
use Rattle.vx_phrases.specs.declared.decl_state.Message.{Message}
use Rattle.vx_phrases.specs.declared.decl_state.MethodState.{MethodState}
use Rattle.vx_phrases.specs.declared.decl_state.MethodState.TheVariants as mt
use Rattle.vx_phrases.specs.declared.decl_state.DeclState.{DeclState}
use Rattle.vx_phrases.specs.declared.decl_state.DeclState.TheVariants as st
use Rattle.vx_phrases.specs.declared.test_state.Pending.{Pending}
use Rattle.vx_phrases.specs.TestMachine as test_machine
use Rattle.vx_phrases.specs.TestMachine.{test_step, test_finished}
use Rattle.vx_phrases.specs.DeclMachine as m
use Rattle.vx_phrases.specs.DeclMachine.{decl_step, decl_finished, names_in, given}
use Rattle.vx_phrases.specs.DeclRemains as r
use Rattle.vx_phrases.specs.DeclRemains.{NamesRemain, FieldRemains, MethodRemains, DeclRemains}
use Rattle.vx_phrases.proofs.TestFinish as tests

test_ends : (x : Bytes) (parents : List Bytes) (state : TestState) (us : List Token) (v : Decl) (test : Option Test) → test_finished state ≡ test →
    m.with_test x parents test ≡ Some v → DeclRemains (st.PredicateTest x parents state) us us v
test_ends x parents state us v (Some test) is means =
    let same : d.Predicate x parents test ≡ v = cc in
    subst (λ y. DeclRemains (st.PredicateTest x parents state) us us y) same (r.wants_test (tests.ends state us test is))
test_ends x parents state us v None is means = absurd (cc)

pub ends : (s : DeclState) (us : List Token) (v : Decl) → decl_finished s ≡ Some v → DeclRemains s us us v
unfolding decl_finished
ends (st.ObjectNamed x) us v is =
    let same : d.Object x (any ∷ []) ≡ v = cc in
    subst (λ y. DeclRemains (st.ObjectNamed x) us us y) same (r.may_inherit g.only_any)
ends (st.Parents x (n.Given parents)) us v is =
    let same : d.Object x parents ≡ v = cc in
    subst (λ y. DeclRemains (st.Parents x (n.Given parents)) us us y) same (r.wants_parents r.over)
ends (st.PredicateTest x parents state) us v is = test_ends x parents state us v _ refl is
ends (st.Field changeable (f.Held key)) us v is =
    let same : d.Field key s.Nil changeable ≡ v = cc in
    subst (λ y. DeclRemains (st.Field changeable (f.Held key)) us us y) same (r.in_field (r.may_begin g.not_begun))
ends (st.Whole decl) us v is =
    let same : decl ≡ v = cc in
    subst (λ y. DeclRemains (st.Whole decl) us us y) same r.is_whole
ends _ us v is = absurd (cc)

no_names : {given xs : List Bytes} {us : List Token} → g.IsNames given [] us xs → ⊥
no_names h = elim h [ ]

no_start : {us : List Token} {start : _} → g.IsStart [] us start → ⊥
no_start h = elim h [ ]

no_formal : {message : Message} {us : List Token} {v : Decl} → MethodRemains (mt.Formal message) [] us v → ⊥
no_formal h = elim h [ ]

nothing_specialised : {message : Message} {x : Option Bytes} {specialiser : Bytes} {us : List Token} {v : Decl} →
    MethodRemains (mt.Specialised message x specialiser) [] us v → ⊥
nothing_specialised h = elim h [ ]

no_method : {state : MethodState} {us : List Token} {v : Decl} → MethodRemains state [] us v → ⊥
no_method (r.of_some h) = no_formal h
no_method (r.unspecialised h) = nothing_specialised h

field_end : (changeable : Bool) (state : FieldState) (us : List Token) (v : Decl) → FieldRemains changeable state [] us v →
    (us ≡ []) × (decl_finished (st.Field changeable state) ≡ Some v)
unfolding decl_finished
field_end changeable _ us v (r.may_begin g.not_begun) = (refl, refl)
field_end changeable _ us v (r.wants_start h) = absurd (no_start h)

parents_end : (x : Bytes) (state : NamesState) (us : List Token) (xs : List Bytes) → NamesRemain state [] us xs →
    (us ≡ []) × (decl_finished (st.Parents x state) ≡ Some (d.Object x xs))
unfolding decl_finished
parents_end x _ us xs r.over = (refl, refl)
parents_end x _ us xs (r.wanted h) = absurd (no_names h)

no_when : {state : NamesState} {us : List Token} {xs : List Bytes} → NamesRemain state [] (k.Keyword w.When ∷ us) xs → ⊥
no_when (r.wanted h) = no_names h

-- nothing completes a body
abbrev pub BodyWants : Type 0
BodyWants = (state : State) (us : List Token) (c : List Stmt) → Remains state [] us c → ⊥

pub at_end : BodyWants → (s : DeclState) (us : List Token) (v : Decl) → DeclRemains s [] us v → (us ≡ []) × (decl_finished s ≡ Some v)
unfolding decl_finished
at_end body _ us v (r.may_inherit g.only_any) = (refl, refl)
at_end body _ us v (r.wants_parents {x} {parents} {state} h) = parents_end x state us parents h
at_end body _ us v (r.wants_when h one) = absurd (no_when h)
at_end body _ us v (r.wants_test {x} {parents} {test} {state} h) =
    let found = tests.at_end state us test h in
    (found.0, subst (λ o. m.with_test x parents o ≡ Some (d.Predicate x parents test)) (sym found.1) refl)
at_end body _ us v (r.in_field {changeable} {state} h) = field_end changeable state us v h
at_end body _ us v (r.in_method h) = absurd (no_method h)
at_end body _ us v (r.in_body {body = c} {state} h) = absurd (body state us c h)
at_end body _ us v r.is_whole = (refl, refl)

-- whether a body goes on with a number does not depend on the number
abbrev pub BodyNumbers : Type 0
BodyNumbers = (state : State) (i j : ℕ) → step state (k.Number i) ≡ Stuck → step state (k.Number j) ≡ Stuck

alike : (head : Head) (a b : Next) → (a ≡ Stuck → b ≡ Stuck) → (b ≡ Stuck → a ≡ Stuck) → is_none (m.in_body head a) ≡ is_none (m.in_body head b)
alike head Stuck b forth back = ap (λ next. is_none (m.in_body head next)) (sym (forth refl))
alike head (On x) Stuck forth back = ap (λ next. is_none (m.in_body head next)) (back refl)
alike head (On x) (On y) forth back = refl
alike head (On x) (Done y) forth back = refl
alike head (Done x) Stuck forth back = ap (λ next. is_none (m.in_body head next)) (back refl)
alike head (Done x) (On y) forth back = refl
alike head (Done x) (Done y) forth back = refl

tests_alike : (x : Bytes) (parents : List Bytes) (a b : Option TestState) → is_none a ≡ is_none b → is_none (m.in_test x parents a) ≡ is_none (m.in_test x parents b)
tests_alike x parents None None is = refl
tests_alike x parents (Some a) (Some b) is = refl
tests_alike x parents None (Some b) is = absurd (cc)
tests_alike x parents (Some a) None is = absurd (cc)

names_alike : (x : Bytes) (state : NamesState) (i j : ℕ) → is_none (m.predicate_parents x state (k.Number i)) ≡ is_none (m.predicate_parents x state (k.Number j))
names_alike x (n.Wanted given) i j = refl
names_alike x (n.Given given) i j = refl

parents_alike : (x : Bytes) (state : NamesState) (i j : ℕ) → is_none (m.in_parents x (m.names state (k.Number i))) ≡ is_none (m.in_parents x (m.names state (k.Number j)))
parents_alike x (n.Wanted given) i j = refl
parents_alike x (n.Given given) i j = refl

fields_alike : (changeable : Bool) (state : FieldState) (i j : ℕ) → is_none (m.field changeable state (k.Number i)) ≡ is_none (m.field changeable state (k.Number j))
fields_alike changeable f.Begun i j = refl
fields_alike changeable (f.Named x) i j = refl
fields_alike changeable (f.Open x) i j = refl
fields_alike changeable (f.Formal x) i j = refl
fields_alike changeable (f.At x) i j = refl
fields_alike changeable (f.Holder key) i j = refl
fields_alike changeable (f.Held key) i j = refl
fields_alike changeable (f.Becomes key) i j = refl
fields_alike changeable (f.Signed key) i j = refl

methods_alike : (state : MethodState) (i j : ℕ) → is_none (m.method state (k.Number i)) ≡ is_none (m.method state (k.Number j))
methods_alike mt.Begun i j = refl
methods_alike (mt.Named x) i j = refl
methods_alike (mt.Sign op) i j = refl
methods_alike (mt.Open x) i j = refl
methods_alike (mt.Formal message) i j = refl
methods_alike (mt.FormalNamed message x) i j = refl
methods_alike (mt.At message x) i j = refl
methods_alike (mt.Specialised message x specialiser) i j = refl
methods_alike (mt.Formed head) i j = refl

pub takes_number : BodyNumbers → (s : DeclState) (i j : ℕ) → is_none (decl_step s (k.Number i)) ≡ is_none (decl_step s (k.Number j))
unfolding decl_step
takes_number body st.Begun i j = refl
takes_number body st.Object i j = refl
takes_number body (st.ObjectNamed x) i j = refl
takes_number body (st.Parents x state) i j = parents_alike x state i j
takes_number body st.Predicate i j = refl
takes_number body (st.PredicateNamed x) i j = refl
takes_number body (st.PredicateParents x state) i j = names_alike x state i j
takes_number body (st.PredicateTest x parents state) i j = tests_alike x parents _ _ (tests.takes_number state i j)
takes_number body st.Var i j = refl
takes_number body (st.Field changeable state) i j = fields_alike changeable state i j
takes_number body (st.Method state) i j = methods_alike state i j
takes_number body (st.Body head state) i j = alike head _ _ (body state i j) (body state j i)
takes_number body (st.Whole decl) i j = refl

test_of : (x : Bytes) (parents : List Bytes) (test : Option Test) (v : Decl) → m.with_test x parents test ≡ Some v → (found : Test) × (test ≡ Some found)
test_of x parents (Some test) v is = (test, refl)
test_of x parents None v is = absurd (cc)

joined_over : (before : Option Test) (brackets : List Pending) (a : Test) (t : Token) (next : DeclState) → m.decl_begins t ≡ Some next →
    test_machine.joined before brackets a t ≡ None
joined_over before brackets a (k.Word x) next is = absurd (cc)
joined_over before brackets a (k.Mark mark.Close) next is = absurd (cc)
joined_over before brackets a _ next is = refl

test_over : (state : TestState) (test : Test) (t : Token) (next : DeclState) → test_finished state ≡ Some test → m.decl_begins t ≡ Some next → test_step state t ≡ None
unfolding test_step test_finished
test_over (ts.Joined before brackets a) test t next whole is = joined_over before brackets a t next is
test_over _ test t next whole is = absurd (cc)

object_over : (x : Bytes) (t : Token) (next : DeclState) → m.decl_begins t ≡ Some next → m.object_named x t ≡ None
object_over x (k.Keyword w.Isa) next is = absurd (cc)
object_over x _ next is = refl

parents_over : (given : List Bytes) (t : Token) (next : DeclState) → m.decl_begins t ≡ Some next → m.names (n.Given given) t ≡ None
parents_over given (k.Mark mark.Comma) next is = absurd (cc)
parents_over given _ next is = refl

field_over : (changeable : Bool) (key : FieldKey) (t : Token) (next : DeclState) → m.decl_begins t ≡ Some next → m.field changeable (f.Held key) t ≡ None
field_over changeable key (k.Mark mark.Becomes) next is = absurd (cc)
field_over changeable key _ next is = refl

-- Where a declaration may end, it does not go on with what begins one.
pub over : (s : DeclState) (v : Decl) (t : Token) (next : DeclState) → decl_finished s ≡ Some v → m.decl_begins t ≡ Some next → decl_step s t ≡ None
unfolding decl_step decl_finished
over (st.ObjectNamed x) v t next whole is = object_over x t next is
over (st.Parents x (n.Given given)) v t next whole is = ap (m.in_parents x) (parents_over given t next is)
over (st.PredicateTest x parents state) v t next whole is =
    let found = test_of x parents (test_finished state) v whole in
    ap (m.in_test x parents) (test_over state found.0 t next found.1 is)
over (st.Field changeable (f.Held key)) v t next whole is = field_over changeable key t next is
over (st.Whole decl) v t next whole is = refl
over _ v t next whole is = absurd (cc)

-- whether a word joins tests
abbrev joins : Bytes → Bool
joins x = is_among (and_word ∷ or_word ∷ []) x

unjoined : (x : Bytes) (a b : Bool) → bytes_eq x and_word ≡ a → bytes_eq x or_word ≡ b → joins x ≡ false → (a ≡ false) × (b ≡ false)
unjoined x true b is also free = absurd (among (subst (λ y. joins y ≡ false) ((bytes_eq-Decides x and_word).0 is) free))
  where
    among : joins and_word ≡ false → ⊥
    among e = cc
unjoined x false true is also free = absurd (among (subst (λ y. joins y ≡ false) ((bytes_eq-Decides x or_word).0 also) free))
  where
    among : joins or_word ≡ false → ⊥
    among e = cc
unjoined x false false is also free = (refl, refl)

joined_by : (before : Option Test) (brackets : List Pending) (a : Test) (x : Bytes) → joins x ≡ false → test_machine.joining_word before brackets a x ≡ None
joined_by before brackets a x free =
    let both = unjoined x _ _ refl refl free in
    rw (both.0, both.1) refl

word_over : (state : TestState) (test : Test) (x : Bytes) → test_finished state ≡ Some test → joins x ≡ false → test_step state (k.Word x) ≡ None
unfolding test_step test_finished
word_over (ts.Joined before brackets a) test x whole free = joined_by before brackets a x free
word_over _ test x whole free = absurd (cc)

-- Where a declaration may end, it goes on with no word but `and` and `or`.
pub words_over : (s : DeclState) (v : Decl) (x : Bytes) → decl_finished s ≡ Some v → joins x ≡ false → decl_step s (k.Word x) ≡ None
unfolding decl_step decl_finished
words_over (st.ObjectNamed x) v y whole free = refl
words_over (st.Parents x (n.Given parents)) v y whole free = refl
words_over (st.PredicateTest x parents state) v y whole free =
    let found = test_of x parents (test_finished state) v whole in
    ap (m.in_test x parents) (word_over state found.0 y found.1 free)
words_over (st.Field changeable (f.Held key)) v y whole free = refl
words_over (st.Whole decl) v y whole free = refl
words_over _ v y whole free = absurd (cc)
