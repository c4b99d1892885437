-- What completes a state of the reader of declarations before a token completes the next state after it, or the declaration is
-- whole.
use Rattle.std.proofs.Common.{◌≡◌, ◌↔◌, ◌≤◌, Bool, true, false, ◌⊎◌, inl, inr, List, [], ◌∷◌, length, Option, Some, None, refl, sym, subst, ◌∙◌, le-leb, if◌then◌else◌, ◌||◌}
use Rattle.std.specs.Str.{bytes_eq}
use Rattle.std.proofs.Math.Bool.{or-false}
use Rattle.vx_syntax.specs.Tests.{IsTest}
use Rattle.vx_syntax.specs.declared.token.Token.{Token}
use Rattle.vx_syntax.specs.declared.token.Token.TheVariants as k
use Rattle.vx_syntax.specs.declared.token.Keyword.TheVariants as w
use Rattle.vx_syntax.specs.declared.token.Mark.TheVariants as mark
use Rattle.vx_syntax.specs.declared.expr.Stmt.{Stmt}
use Rattle.vx_syntax.specs.declared.test.Test.{Test}
use Rattle.vx_syntax.specs.declared.decl.Decl.{Decl}
use Rattle.vx_syntax.specs.declared.decl.Decl.TheVariants as d
use Rattle.vx_syntax.specs.Expressions.{Bytes, Scope, is_bound, is_among, with_formals, max_field_bytes, IsBody}
use Rattle.vx_syntax.specs.Declarations as g
use Rattle.vx_syntax.specs.Declarations.{any, named, formal_scope}
use Rattle.vx_bodies.specs.declared.state.State.{State}
use Rattle.vx_bodies.specs.declared.state.Next.{Next}
use Rattle.vx_bodies.specs.declared.state.Next.TheVariants.{Stuck, On, Done}
use Rattle.vx_bodies.specs.Machine.{begun, step}
use Rattle.vx_bodies.specs.Remains as body
use Rattle.vx_bodies.specs.Remains.{Remains}
use Rattle.vx_phrases.specs.declared.test_state.TestState.{TestState}
use Rattle.vx_phrases.specs.declared.decl_state.NamesState.{NamesState}
use Rattle.vx_phrases.specs.declared.decl_state.NamesState.TheVariants as n
use Rattle.vx_phrases.specs.declared.decl_state.FieldState.{FieldState}
use Rattle.vx_phrases.specs.declared.decl_state.FieldState.TheVariants as f
use Rattle.vx_phrases.specs.declared.decl_state.Head.{Head}
use Rattle.vx_phrases.specs.declared.decl_state.Message.{Message}
use Rattle.vx_phrases.specs.declared.decl_state.Message.TheVariants as ms
use Rattle.vx_phrases.specs.declared.decl_state.MethodState.{MethodState}
use Rattle.vx_phrases.specs.declared.decl_state.MethodState.TheVariants as mt
use Rattle.vx_phrases.specs.declared.decl_state.DeclState.{DeclState}
use Rattle.vx_phrases.specs.declared.decl_state.DeclState.TheVariants as st
use Rattle.vx_phrases.specs.Laws.{Moves}
use Rattle.vx_phrases.specs.TestMachine.{test_step, test_finished}
use Rattle.vx_phrases.specs.TestRemains.{TestRemains}
use Rattle.vx_phrases.specs.DeclMachine as m
use Rattle.vx_phrases.specs.DeclMachine.{decl_step, decl_finished, given}
use Rattle.vx_phrases.specs.DeclRemains as r
use Rattle.vx_phrases.specs.DeclRemains.{NamesRemain, FieldRemains, MethodRemains, DeclRemains}
use Rattle.vx_phrases.proofs.TestComplete as tests
use Rattle.vx_phrases.proofs.TestFinish.{begins}

-- a body goes on with each token that may finish it
abbrev pub BodyIsComplete : Type 0
BodyIsComplete = (s : State) (t : Token) (ts us : List Token) (c : List Stmt) → Remains s (t ∷ ts) us c → body.Moves (step s t) ts us c

-- what begins a body is a body
abbrev pub BodyBegins : Type 0
BodyBegins = (scope : Scope) (ts us : List Token) (c : List Stmt) → Remains (begun scope) ts us c ↔ IsBody scope ts (k.Mark mark.CloseBlock ∷ us) c

-- a state goes on with the token, or ends before it
abbrev GoesOrEnds : Option DeclState → Option Decl → Token → List Token → List Token → Decl → Type 0
GoesOrEnds next finished t ts us v = Moves DeclRemains next ts us v ⊎ ((us ≡ t ∷ ts) × (finished ≡ Some v))

by_names : {state : NamesState} {t : Token} {ts us : List Token} {xs : List Bytes} → NamesRemain state (t ∷ ts) us xs →
    Moves NamesRemain (m.names state t) ts us xs ⊎ ((us ≡ t ∷ ts) × (state ≡ n.Given xs))
by_names (r.wanted (g.last_name x)) = inl r.over
by_names (r.wanted (g.next_name x xs)) = inl (r.more xs)
by_names r.over = inr (refl, refl)
by_names (r.more xs) = inl (r.wanted xs)

-- the names of an object's parents
by_parents : (x : Bytes) (state : NamesState) (t : Token) (ts us : List Token) (xs : List Bytes) →
    Moves NamesRemain (m.names state t) ts us xs ⊎ ((us ≡ t ∷ ts) × (state ≡ n.Given xs)) →
    GoesOrEnds (m.in_parents x (m.names state t)) (decl_finished (st.Parents x state)) t ts us (d.Object x xs)
unfolding decl_finished
by_parents x state t ts us xs (inl h) =
    inl ((elim (m.names state t) as (λ next. Moves NamesRemain next ts us xs → Moves DeclRemains (m.in_parents x next) ts us (d.Object x xs)) [
      | None ↦ λ h. absurd h
      | Some next ↦ λ h. r.wants_parents h
    ]) h)
by_parents x state t ts us xs (inr (is, given)) =
    inr (is, subst (λ s. decl_finished (st.Parents x s) ≡ Some (d.Object x xs)) (sym given) refl)

-- `when` is no name among parents
not_when : (x : Bytes) (state : NamesState) (t : Token) (ts us : List Token) (v : Decl) → Moves DeclRemains (m.in_predicate x (m.names state t)) ts us v →
    Moves DeclRemains (m.predicate_parents x state t) ts us v
not_when x (n.Given given) (k.Keyword w.When) ts us v h = absurd h
not_when x _ _ ts us v h = h

-- where the names of a predicate's parents are over
abbrev AtWhen : Bytes → List Bytes → List Token → Decl → List Token → Type 0
AtWhen x xs us v [] = ⊥
AtWhen x xs us v (t ∷ ts) = Moves DeclRemains (m.predicate_parents x (n.Given xs) t) ts us v

by_when : (x : Bytes) (state : NamesState) (t : Token) (ts vs us : List Token) (xs : List Bytes) (test : Test) → IsTest vs us test →
    Moves NamesRemain (m.names state t) ts (k.Keyword w.When ∷ vs) xs ⊎ ((k.Keyword w.When ∷ vs ≡ t ∷ ts) × (state ≡ n.Given xs)) →
    Moves DeclRemains (m.predicate_parents x state t) ts us (d.Predicate x xs test)
by_when x state t ts vs us xs test one (inl h) =
    not_when x state t ts us (d.Predicate x xs test)
    ((elim (m.names state t) as (λ next. Moves NamesRemain next ts (k.Keyword w.When ∷ vs) xs → Moves DeclRemains (m.in_predicate x next) ts us (d.Predicate x xs test)) [
      | None ↦ λ h. absurd h
      | Some next ↦ λ h. r.wants_when h one
    ]) h)
by_when x state t ts vs us xs test one (inr (is, given)) =
    subst (λ s. Moves DeclRemains (m.predicate_parents x s t) ts us (d.Predicate x xs test)) (sym given)
    (subst (AtWhen x xs us (d.Predicate x xs test)) is (r.wants_test ((begins vs us test).1 one)))

by_test : (x : Bytes) (parents : List Bytes) (state : TestState) (t : Token) (ts us : List Token) (test : Test) →
    Moves TestRemains (test_step state t) ts us test ⊎ ((us ≡ t ∷ ts) × (test_finished state ≡ Some test)) →
    GoesOrEnds (m.in_test x parents (test_step state t)) (decl_finished (st.PredicateTest x parents state)) t ts us (d.Predicate x parents test)
unfolding decl_finished
by_test x parents state t ts us test (inl h) =
    inl ((elim (test_step state t) as (λ next. Moves TestRemains next ts us test → Moves DeclRemains (m.in_test x parents next) ts us (d.Predicate x parents test)) [
      | None ↦ λ h. absurd h
      | Some next ↦ λ h. r.wants_test h
    ]) h)
by_test x parents state t ts us test (inr (is, whole)) =
    inr (is, subst (λ o. m.with_test x parents o ≡ Some (d.Predicate x parents test)) (sym whole) refl)

by_field_name : (changeable : Bool) (x : Bytes) (ts us : List Token) (v : Decl) → length x ≤ max_field_bytes → FieldRemains changeable (f.Named x) ts us v →
    Moves DeclRemains (m.field_name changeable x) ts us v
by_field_name changeable x ts us v short h =
    subst (λ b. Moves DeclRemains (if b then Some (st.Field changeable (f.Named x)) else None) ts us v) (sym (le-leb _ _ short)) (r.in_field h)

by_field : (changeable : Bool) (state : FieldState) (t : Token) (ts us : List Token) (v : Decl) → FieldRemains changeable state (t ∷ ts) us v →
    GoesOrEnds (m.field changeable state t) (decl_finished (st.Field changeable state)) t ts us v
unfolding decl_finished
by_field changeable _ t ts us v (r.wants_name {x} short h) = inl (by_field_name changeable x ts us v short h)
by_field changeable _ t ts us v (r.wants_open h) = inl (r.in_field h)
by_field changeable _ t ts us v (r.no_formal h) = inl (r.in_field h)
by_field changeable _ t ts us v (r.formal h) = inl (r.in_field h)
by_field changeable _ t ts us v (r.wants_at h) = inl (r.in_field h)
by_field changeable _ t ts us v (r.wants_holder h) = inl (r.in_field h)
by_field changeable _ t ts us v (r.wants_close h) = inl (r.in_field h)
by_field changeable _ t ts us v (r.may_begin g.not_begun) = inr (refl, refl)
by_field changeable _ t ts us v (r.may_begin (g.begun start)) = inl (r.in_field (r.wants_start start))
by_field changeable _ t ts us v (r.wants_start g.nil) = inl r.is_whole
by_field changeable _ t ts us v (r.wants_start g.true_start) = inl r.is_whole
by_field changeable _ t ts us v (r.wants_start g.false_start) = inl r.is_whole
by_field changeable _ t ts us v (r.wants_start (g.number n)) = inl r.is_whole
by_field changeable _ t ts us v (r.wants_start (g.negative n)) = inl (r.in_field r.wants_number)
by_field changeable _ t ts us v (r.wants_start (g.string bytes)) = inl r.is_whole
by_field changeable _ t ts us v r.wants_number = inl r.is_whole

other_order : (a b c : Bool) → (a || (b || c)) ≡ ((b || a) || c)
other_order true true c = refl
other_order true false c = refl
other_order false true c = refl
other_order false false c = refl

bound_among : (scope : Scope) (xs : List Bytes) (x : Bytes) → is_bound (with_formals scope xs) x ≡ (is_among xs x || is_bound scope x)
bound_among scope [] x = refl
bound_among scope (y ∷ xs) x = bound_among ((y, false) ∷ scope) xs x ∙ other_order (is_among xs x) (bytes_eq y x) (is_bound scope x)

-- The names that formals bring into scope are theirs.
pub bound_by_formals : (formals : List (Option Bytes)) (x : Bytes) → is_bound (formal_scope formals) x ≡ is_among (named formals) x
bound_by_formals formals x = bound_among [] (named formals) x ∙ or-false _

by_formal_name : (message : Message) (x : Bytes) (ts us : List Token) (v : Decl) → is_bound (formal_scope (given message)) x ≡ false →
    MethodRemains (mt.FormalNamed message x) ts us v → Moves DeclRemains (m.formal_name message x) ts us v
by_formal_name message x ts us v new h =
    subst (λ b. Moves DeclRemains (if b then None else Some (st.Method (mt.FormalNamed message x))) ts us v)
    (sym (sym (bound_by_formals (given message) x) ∙ new)) (r.in_method h)

by_formal : (message : Message) (t : Token) (ts us : List Token) (v : Decl) → MethodRemains (mt.Formal message) (t ∷ ts) us v →
    Moves DeclRemains (m.formal message t) ts us v
by_formal message t ts us v (r.has_name {x = x} new h) = by_formal_name message x ts us v new h
by_formal message t ts us v (r.no_name h) = r.in_method h

by_specialised : (message : Message) (x : Option Bytes) (specialiser : Bytes) (t : Token) (ts us : List Token) (v : Decl) →
    MethodRemains (mt.Specialised message x specialiser) (t ∷ ts) us v → Moves DeclRemains (m.specialised message x specialiser t) ts us v
by_specialised message x specialiser t ts us v (r.last_formal is h) = subst (λ o. Moves DeclRemains (m.formed o) ts us v) (sym is) (r.in_method h)
by_specialised message x specialiser t ts us v (r.next_formal is h) = subst (λ o. Moves DeclRemains (m.formal_next o) ts us v) (sym is) (r.in_method h)

not_at : (message : Message) (x : Bytes) (t : Token) (ts us : List Token) (v : Decl) → Moves DeclRemains (m.specialised message (Some x) any t) ts us v →
    Moves DeclRemains (m.formal_named message x t) ts us v
not_at message x (k.Mark mark.At) ts us v h = absurd h
not_at message x _ ts us v h = h

not_close : (x : Bytes) (t : Token) (ts us : List Token) (v : Decl) → Moves DeclRemains (m.formal (ms.Named (m.head_of x)) t) ts us v →
    Moves DeclRemains (m.first_formal x t) ts us v
not_close x (k.Mark mark.Close) ts us v h = absurd h
not_close x _ ts us v h = h

by_method : BodyBegins → (state : MethodState) (t : Token) (ts us : List Token) (v : Decl) → MethodRemains state (t ∷ ts) us v →
    Moves DeclRemains (m.method state t) ts us v
by_method body _ t ts us v (r.wants_name h) = r.in_method h
by_method body _ t ts us v (r.wants_operator h) = r.in_method h
by_method body _ t ts us v (r.wants_open h) = r.in_method h
by_method body _ t ts us v (r.wants_two h) = r.in_method h
by_method body _ t ts us v (r.of_none h) = r.in_method h
by_method body _ t ts us v (r.of_some {x} h) = not_close x t ts us v (by_formal _ t ts us v h)
by_method body _ t ts us v (r.has_name {message} new h) = by_formal message _ ts us v (r.has_name new h)
by_method body _ t ts us v (r.no_name h) = r.in_method h
by_method body _ t ts us v (r.unspecialised {message} {x} h) = not_at message x t ts us v (by_specialised message (Some x) any t ts us v h)
by_method body _ t ts us v (r.specialised h) = r.in_method h
by_method body _ t ts us v (r.wants_specialiser h) = r.in_method h
by_method body _ t ts us v (r.last_formal {message} {x = x} {specialiser} is h) = by_specialised message x specialiser _ ts us v (r.last_formal is h)
by_method body _ t ts us v (r.next_formal {message} {x = x} {specialiser} is h) = by_specialised message x specialiser _ ts us v (r.next_formal is h)
by_method body _ t ts us v (r.wants_body {head} {body = c} one) = r.in_body ((body (formal_scope head.formals) ts us c).1 one)

by_body : (head : Head) (next : Next) (ts us : List Token) (c : List Stmt) → body.Moves next ts us c →
    Moves DeclRemains (m.in_body head next) ts us (m.method_with head c)
by_body head (On state) ts us c h = r.in_body h
by_body head (Done whole) ts us c (at, is) =
    subst (λ l. DeclRemains (st.Whole (m.method_with head whole.0)) ts l (m.method_with head c)) at
    (subst (λ b. DeclRemains (st.Whole (m.method_with head whole.0)) ts ts (m.method_with head b)) is r.is_whole)
by_body head Stuck ts us c h = absurd h

pub complete : BodyIsComplete → BodyBegins → (s : DeclState) (t : Token) (ts us : List Token) (v : Decl) → DeclRemains s (t ∷ ts) us v →
    Moves DeclRemains (decl_step s t) ts us v ⊎ ((us ≡ t ∷ ts) × (decl_finished s ≡ Some v))
unfolding decl_step decl_finished
complete goes start _ t ts us v (r.object h) = inl h
complete goes start _ t ts us v (r.predicate h) = inl h
complete goes start _ t ts us v (r.var_field h) = inl h
complete goes start _ t ts us v (r.field h) = inl (r.in_field h)
complete goes start _ t ts us v (r.method h) = inl (r.in_method h)
complete goes start _ t ts us v (r.wants_object h) = inl h
complete goes start _ t ts us v (r.may_inherit g.only_any) = inr (refl, refl)
complete goes start _ t ts us v (r.may_inherit (g.isa xs)) = inl (r.wants_parents (r.wanted xs))
complete goes start _ t ts us v (r.wants_parents {x} {parents} {state} h) = by_parents x state t ts us parents (by_names h)
complete goes start _ t ts us v (r.wants_predicate h) = inl h
complete goes start _ t ts us v (r.wants_isa h) = inl h
complete goes start _ t ts us v (r.wants_when {x} {parents} {test} {state} {vs = vs} h one) = inl (by_when x state t ts vs us parents test one (by_names h))
complete goes start _ t ts us v (r.wants_test {x} {parents} {test} {state} h) = by_test x parents state t ts us test (tests.complete state t ts us test h)
complete goes start _ t ts us v (r.wants_field h) = inl (r.in_field h)
complete goes start _ t ts us v (r.in_field {changeable} {state} h) = by_field changeable state t ts us v h
complete goes start _ t ts us v (r.in_method {state} h) = inl (by_method start state t ts us v h)
complete goes start _ t ts us v (r.in_body {head} {body = c} {state} h) = inl (by_body head (step state t) ts us c (goes state t ts us c h))
complete goes start _ t ts us v r.is_whole = inr (refl, refl)
