-- What completes the state where a token leads the reader of declarations completes, with the token in front, the state before.
use Rattle.std.proofs.Common.{◌≡◌, Bool, true, false, List, [], ◌∷◌, length, Option, Some, None, refl, sym, subst, ◌∙◌, leb-true, if◌then◌else◌, nat_le}
use Rattle.std.specs.Str.{bytes_eq}
use Rattle.std.proofs.lemmas.Slice.Eq.{bytes_eq-Decides}
use Rattle.vx_names.specs.declared.operator.Operator.TheVariants as o
use Rattle.vx_syntax.specs.declared.decl.Start.TheVariants as s
use Rattle.vx_names.specs.declared.key.FieldKey.{FieldKey}
use Rattle.vx_syntax.specs.declared.token.Token.{Token}
use Rattle.vx_syntax.specs.declared.token.Token.TheVariants as k
use Rattle.vx_syntax.specs.declared.token.Keyword.TheVariants as w
use Rattle.vx_syntax.specs.declared.token.Mark.TheVariants as mark
use Rattle.vx_syntax.specs.declared.expr.Stmt.{Stmt}
use Rattle.vx_syntax.specs.declared.decl.Decl.{Decl}
use Rattle.vx_syntax.specs.declared.decl.Decl.TheVariants as d
use Rattle.vx_syntax.specs.Expressions.{Bytes, is_among, max_field_bytes}
use Rattle.vx_syntax.specs.Declarations as g
use Rattle.vx_syntax.specs.Declarations.{any, named, formal_scope, nil_word, true_word, false_word}
use Rattle.vx_bodies.specs.declared.state.State.{State}
use Rattle.vx_bodies.specs.declared.state.Next.{Next}
use Rattle.vx_bodies.specs.declared.state.Next.TheVariants.{Stuck, On, Done}
use Rattle.vx_bodies.specs.Machine.{step}
use Rattle.vx_bodies.specs.Remains as body
use Rattle.vx_bodies.specs.Remains.{Remains}
use Rattle.vx_phrases.specs.declared.test_state.TestState.{TestState}
use Rattle.vx_phrases.specs.declared.decl_state.NamesState.{NamesState}
use Rattle.vx_phrases.specs.declared.decl_state.NamesState.TheVariants as n
use Rattle.vx_phrases.specs.declared.decl_state.FieldState.{FieldState}
use Rattle.vx_phrases.specs.declared.decl_state.FieldState.TheVariants as f
use Rattle.vx_phrases.specs.declared.decl_state.Head.{Head}
use Rattle.vx_phrases.specs.declared.decl_state.Message.{Message}
use Rattle.vx_phrases.specs.declared.decl_state.Message.TheVariants as ms
use Rattle.vx_phrases.specs.declared.decl_state.MethodState.{MethodState}
use Rattle.vx_phrases.specs.declared.decl_state.MethodState.TheVariants as mt
use Rattle.vx_phrases.specs.declared.decl_state.DeclState.{DeclState}
use Rattle.vx_phrases.specs.declared.decl_state.DeclState.TheVariants as st
use Rattle.vx_phrases.specs.Laws.{Moves}
use Rattle.vx_phrases.specs.TestMachine.{test_step}
use Rattle.vx_phrases.specs.TestRemains.{TestRemains}
use Rattle.vx_phrases.specs.DeclMachine as m
use Rattle.vx_phrases.specs.DeclMachine.{decl_step, decl_finished, given}
use Rattle.vx_phrases.specs.DeclRemains as r
use Rattle.vx_phrases.specs.DeclRemains.{NamesRemain, FieldRemains, MethodRemains, DeclRemains}
use Rattle.vx_phrases.proofs.TestSound as tests
use Rattle.vx_phrases.proofs.DeclComplete.{BodyBegins, bound_by_formals}
use Rattle.vx_phrases.proofs.TestFinish.{begins}

-- a token that leads on in a body stands before what finishes it
abbrev pub BodyIsSound : Type 0
BodyIsSound = (s : State) (t : Token) (ts us : List Token) (c : List Stmt) → body.Moves (step s t) ts us c → Remains s (t ∷ ts) us c

of_names : (state : NamesState) (t : Token) (ts us : List Token) (xs : List Bytes) → Moves NamesRemain (m.names state t) ts us xs → NamesRemain state (t ∷ ts) us xs
of_names (n.Wanted given) (k.Word x) ts us xs r.over = r.wanted (g.last_name x)
of_names (n.Wanted given) (k.Word x) ts us xs (r.more rest) = r.wanted (g.next_name x rest)
of_names (n.Given given) (k.Mark mark.Comma) ts us xs (r.wanted rest) = r.more rest
of_names _ _ ts us xs h = absurd h

of_parents : (x : Bytes) (state : NamesState) (t : Token) (ts us : List Token) (v : Decl) (next : Option NamesState) → m.names state t ≡ next →
    Moves DeclRemains (m.in_parents x next) ts us v → DeclRemains (st.Parents x state) (t ∷ ts) us v
of_parents x state t ts us _ (Some next) is (r.wants_parents {parents = xs} h) =
    r.wants_parents (of_names state t ts us xs (subst (λ o. Moves NamesRemain o ts us xs) (sym is) h))
of_parents x state t ts us v None is h = absurd h

of_when : (x : Bytes) (state : NamesState) (t : Token) (ts us : List Token) (v : Decl) (next : Option NamesState) → m.names state t ≡ next →
    Moves DeclRemains (m.in_predicate x next) ts us v → DeclRemains (st.PredicateParents x state) (t ∷ ts) us v
of_when x state t ts us _ (Some next) is (r.wants_when {parents = xs} {vs = vs} h one) =
    r.wants_when (of_names state t ts (k.Keyword w.When ∷ vs) xs (subst (λ o. Moves NamesRemain o ts (k.Keyword w.When ∷ vs) xs) (sym is) h)) one
of_when x state t ts us v None is h = absurd h

of_predicate : (x : Bytes) (state : NamesState) (t : Token) (ts us : List Token) (v : Decl) → Moves DeclRemains (m.predicate_parents x state t) ts us v →
    DeclRemains (st.PredicateParents x state) (t ∷ ts) us v
of_predicate x (n.Given given) (k.Keyword w.When) ts us _ (r.wants_test {test = test} h) = r.wants_when r.over ((begins ts us test).0 h)
of_predicate x state t ts us v h = of_when x state t ts us v _ refl h

of_test : (x : Bytes) (parents : List Bytes) (state : TestState) (t : Token) (ts us : List Token) (v : Decl) (next : Option TestState) → test_step state t ≡ next →
    Moves DeclRemains (m.in_test x parents next) ts us v → DeclRemains (st.PredicateTest x parents state) (t ∷ ts) us v
of_test x parents state t ts us _ (Some next) is (r.wants_test {test = test} h) =
    r.wants_test (tests.sound state t ts us test (subst (λ o. Moves TestRemains o ts us test) (sym is) h))
of_test x parents state t ts us v None is h = absurd h

of_field_name : (changeable : Bool) (x : Bytes) (ts us : List Token) (v : Decl) (b : Bool) → nat_le (length x) max_field_bytes ≡ b →
    Moves DeclRemains (if b then Some (st.Field changeable (f.Named x)) else None) ts us v → FieldRemains changeable f.Begun (k.Word x ∷ ts) us v
of_field_name changeable x ts us v true short (r.in_field h) = r.wants_name (leb-true _ _ short) h
of_field_name changeable x ts us v false short h = absurd h

of_start : (key : FieldKey) (changeable : Bool) (x : Bytes) (ts us : List Token) (v : Decl) (a b c : Bool) →
    bytes_eq x nil_word ≡ a → bytes_eq x true_word ≡ b → bytes_eq x false_word ≡ c →
    Moves DeclRemains (m.started key changeable (if a then Some s.Nil else if b then Some s.True else if c then Some s.False else None)) ts us v →
    FieldRemains changeable (f.Becomes key) (k.Word x ∷ ts) us v
of_start key changeable x ts us _ true b c is_nil is_true is_false r.is_whole =
    subst (λ y. FieldRemains changeable (f.Becomes key) (k.Word y ∷ ts) ts (d.Field key s.Nil changeable)) (sym ((bytes_eq-Decides x nil_word).0 is_nil)) (r.wants_start g.nil)
of_start key changeable x ts us _ false true c is_nil is_true is_false r.is_whole =
    subst (λ y. FieldRemains changeable (f.Becomes key) (k.Word y ∷ ts) ts (d.Field key s.True changeable)) (sym ((bytes_eq-Decides x true_word).0 is_true)) (r.wants_start g.true_start)
of_start key changeable x ts us _ false false true is_nil is_true is_false r.is_whole =
    subst (λ y. FieldRemains changeable (f.Becomes key) (k.Word y ∷ ts) ts (d.Field key s.False changeable)) (sym ((bytes_eq-Decides x false_word).0 is_false)) (r.wants_start g.false_start)
of_start key changeable x ts us v false false false is_nil is_true is_false h = absurd h

of_field : (changeable : Bool) (state : FieldState) (t : Token) (ts us : List Token) (v : Decl) → Moves DeclRemains (m.field changeable state t) ts us v →
    FieldRemains changeable state (t ∷ ts) us v
of_field changeable f.Begun (k.Word x) ts us v h = of_field_name changeable x ts us v _ refl h
of_field changeable (f.Named x) (k.Mark mark.Open) ts us v (r.in_field h) = r.wants_open h
of_field changeable (f.Open x) (k.Mark mark.At) ts us v (r.in_field h) = r.no_formal h
of_field changeable (f.Open x) (k.Word y) ts us v (r.in_field h) = r.formal h
of_field changeable (f.Formal x) (k.Mark mark.At) ts us v (r.in_field h) = r.wants_at h
of_field changeable (f.At x) (k.Word holder) ts us v (r.in_field h) = r.wants_holder h
of_field changeable (f.Holder key) (k.Mark mark.Close) ts us v (r.in_field h) = r.wants_close h
of_field changeable (f.Held key) (k.Mark mark.Becomes) ts us _ (r.in_field (r.wants_start start)) = r.may_begin (g.begun start)
of_field changeable (f.Becomes key) (k.Word x) ts us v h = of_start key changeable x ts us v _ _ _ refl refl refl h
of_field changeable (f.Becomes key) (k.Number n) ts us _ r.is_whole = r.wants_start (g.number n)
of_field changeable (f.Becomes key) (k.Text bytes) ts us _ r.is_whole = r.wants_start (g.string bytes)
of_field changeable (f.Becomes key) (k.Operator o.Minus) _ us _ (r.in_field (r.wants_number {n = n})) = r.wants_start (g.negative n)
of_field changeable (f.Signed key) (k.Number n) ts us _ r.is_whole = r.wants_number
of_field changeable _ _ ts us v h = absurd h

of_formal_name : (message : Message) (x : Bytes) (ts us : List Token) (v : Decl) (b : Bool) → is_among (named (given message)) x ≡ b →
    Moves DeclRemains (if b then None else Some (st.Method (mt.FormalNamed message x))) ts us v → MethodRemains (mt.Formal message) (k.Word x ∷ ts) us v
of_formal_name message x ts us v false new (r.in_method h) = r.has_name (bound_by_formals (given message) x ∙ new) h
of_formal_name message x ts us v true new h = absurd h

of_formal : (message : Message) (t : Token) (ts us : List Token) (v : Decl) → Moves DeclRemains (m.formal message t) ts us v → MethodRemains (mt.Formal message) (t ∷ ts) us v
of_formal message (k.Word x) ts us v h = of_formal_name message x ts us v _ refl h
of_formal message (k.Mark mark.At) ts us v (r.in_method h) = r.no_name h
of_formal message _ ts us v h = absurd h

of_first_formal : (x : Bytes) (t : Token) (ts us : List Token) (v : Decl) → Moves DeclRemains (m.first_formal x t) ts us v → MethodRemains (mt.Open x) (t ∷ ts) us v
of_first_formal x (k.Mark mark.Close) ts us v (r.in_method h) = r.of_none h
of_first_formal x t ts us v h = r.of_some (of_formal (ms.Named (m.head_of x)) t ts us v h)

of_last : (message : Message) (x : Option Bytes) (specialiser : Bytes) (ts us : List Token) (v : Decl) (head : Option Head) → m.with_last message x specialiser ≡ head →
    Moves DeclRemains (m.formed head) ts us v → MethodRemains (mt.Specialised message x specialiser) (k.Mark mark.Close ∷ ts) us v
of_last message x specialiser ts us v (Some head) is (r.in_method h) = r.last_formal is h
of_last message x specialiser ts us v None is h = absurd h

of_next : (message : Message) (x : Option Bytes) (specialiser : Bytes) (ts us : List Token) (v : Decl) (next : Option Message) → m.with_next message x specialiser ≡ next →
    Moves DeclRemains (m.formal_next next) ts us v → MethodRemains (mt.Specialised message x specialiser) (k.Mark mark.Comma ∷ ts) us v
of_next message x specialiser ts us v (Some next) is (r.in_method h) = r.next_formal is h
of_next message x specialiser ts us v None is h = absurd h

of_specialised : (message : Message) (x : Option Bytes) (specialiser : Bytes) (t : Token) (ts us : List Token) (v : Decl) →
    Moves DeclRemains (m.specialised message x specialiser t) ts us v → MethodRemains (mt.Specialised message x specialiser) (t ∷ ts) us v
of_specialised message x specialiser (k.Mark mark.Close) ts us v h = of_last message x specialiser ts us v _ refl h
of_specialised message x specialiser (k.Mark mark.Comma) ts us v h = of_next message x specialiser ts us v _ refl h
of_specialised message x specialiser _ ts us v h = absurd h

of_formal_named : (message : Message) (x : Bytes) (t : Token) (ts us : List Token) (v : Decl) → Moves DeclRemains (m.formal_named message x t) ts us v →
    MethodRemains (mt.FormalNamed message x) (t ∷ ts) us v
of_formal_named message x (k.Mark mark.At) ts us v (r.in_method h) = r.specialised h
of_formal_named message x t ts us v h = r.unspecialised (of_specialised message (Some x) any t ts us v h)

of_method : BodyBegins → (state : MethodState) (t : Token) (ts us : List Token) (v : Decl) → Moves DeclRemains (m.method state t) ts us v →
    MethodRemains state (t ∷ ts) us v
of_method start mt.Begun (k.Word x) ts us v (r.in_method h) = r.wants_name h
of_method start mt.Begun (k.Operator op) ts us v (r.in_method h) = r.wants_operator h
of_method start (mt.Named x) (k.Mark mark.Open) ts us v (r.in_method h) = r.wants_open h
of_method start (mt.Sign op) (k.Mark mark.Open) ts us v (r.in_method h) = r.wants_two h
of_method start (mt.Open x) t ts us v h = of_first_formal x t ts us v h
of_method start (mt.Formal message) t ts us v h = of_formal message t ts us v h
of_method start (mt.FormalNamed message x) t ts us v h = of_formal_named message x t ts us v h
of_method start (mt.At message x) (k.Word specialiser) ts us v (r.in_method h) = r.wants_specialiser h
of_method start (mt.Specialised message x specialiser) t ts us v h = of_specialised message x specialiser t ts us v h
of_method start (mt.Formed head) (k.Mark mark.OpenBlock) ts us _ (r.in_body {body = c} h) = r.wants_body ((start (formal_scope head.formals) ts us c).0 h)
of_method start _ _ ts us v h = absurd h

of_body : BodyIsSound → (head : Head) (state : State) (t : Token) (ts us : List Token) (v : Decl) (next : Next) → step state t ≡ next →
    Moves DeclRemains (m.in_body head next) ts us v → DeclRemains (st.Body head state) (t ∷ ts) us v
of_body stands head state t ts us _ (On next) is (r.in_body {body = c} h) = r.in_body (stands state t ts us c (subst (λ o. body.Moves o ts us c) (sym is) h))
of_body stands head state t ts us _ (Done whole) is r.is_whole =
    r.in_body (stands state t ts ts whole.0 (subst (λ o. body.Moves o ts ts whole.0) (sym is) (refl, refl)))
of_body stands head state t ts us v Stuck is h = absurd h

of_begins : (t : Token) (ts us : List Token) (v : Decl) → Moves DeclRemains (m.decl_begins t) ts us v → DeclRemains st.Begun (t ∷ ts) us v
of_begins (k.Keyword w.Object) ts us v h = r.object h
of_begins (k.Keyword w.Predicate) ts us v h = r.predicate h
of_begins (k.Keyword w.Var) ts us v h = r.var_field h
of_begins (k.Keyword w.Field) ts us v (r.in_field h) = r.field h
of_begins (k.Keyword w.Method) ts us v (r.in_method h) = r.method h
of_begins _ ts us v h = absurd h

parents_then : {x : Bytes} {ts us : List Token} {v : Decl} → DeclRemains (st.Parents x (n.Wanted [])) ts us v → DeclRemains (st.ObjectNamed x) (k.Keyword w.Isa ∷ ts) us v
parents_then (r.wants_parents (r.wanted xs)) = r.may_inherit (g.isa xs)

pub sound : BodyIsSound → BodyBegins → (s : DeclState) (t : Token) (ts us : List Token) (v : Decl) → Moves DeclRemains (decl_step s t) ts us v →
    DeclRemains s (t ∷ ts) us v
unfolding decl_step
sound stands start st.Begun t ts us v h = of_begins t ts us v h
sound stands start st.Object (k.Word x) ts us v h = r.wants_object h
sound stands start (st.ObjectNamed x) (k.Keyword w.Isa) ts us v h = parents_then h
sound stands start (st.Parents x state) t ts us v h = of_parents x state t ts us v _ refl h
sound stands start st.Predicate (k.Word x) ts us v h = r.wants_predicate h
sound stands start (st.PredicateNamed x) (k.Keyword w.Isa) ts us v h = r.wants_isa h
sound stands start (st.PredicateParents x state) t ts us v h = of_predicate x state t ts us v h
sound stands start (st.PredicateTest x parents state) t ts us v h = of_test x parents state t ts us v _ refl h
sound stands start st.Var (k.Keyword w.Field) ts us v (r.in_field h) = r.wants_field h
sound stands start (st.Field changeable state) t ts us v h = r.in_field (of_field changeable state t ts us v h)
sound stands start (st.Method state) t ts us v h = r.in_method (of_method start state t ts us v h)
sound stands start (st.Body head state) t ts us v h = of_body stands head state t ts us v _ refl h
sound stands start _ _ ts us v h = absurd h
