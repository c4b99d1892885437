-- Each step of the reader of declarations brings at most one name into scope.
use Rattle.std.proofs.Common.{◌≡◌, ◌≤◌, ◌+◌, ℕ, Bool, true, false, List, [], ◌∷◌, length, Option, Some, None, refl, subst, arith, if◌then◌else◌, length-append}
use Rattle.vx_names.specs.declared.operator.Operator.TheVariants as o
use Rattle.vx_names.specs.declared.key.FieldKey.{FieldKey}
use Rattle.vx_syntax.specs.declared.token.Token.{Token}
use Rattle.vx_syntax.specs.declared.token.Token.TheVariants as k
use Rattle.vx_syntax.specs.declared.token.Keyword.TheVariants as w
use Rattle.vx_syntax.specs.declared.token.Mark.TheVariants as mark
use Rattle.vx_syntax.specs.declared.decl.Start.{Start}
use Rattle.vx_syntax.specs.Expressions.{Bytes, Scope, with_formals}
use Rattle.vx_syntax.specs.Declarations.{any, named, formal_scope}
use Rattle.vx_bodies.specs.declared.state.State.{State}
use Rattle.vx_bodies.specs.declared.state.Next.{Next}
use Rattle.vx_bodies.specs.declared.state.Next.TheVariants.{Stuck, On, Done}
use Rattle.vx_bodies.specs.Machine.{begun, step, scope_of}
use Rattle.vx_phrases.specs.declared.test_state.TestState.{TestState}
use Rattle.vx_phrases.specs.declared.decl_state.NamesState.{NamesState}
use Rattle.vx_phrases.specs.declared.decl_state.NamesState.TheVariants as n
use Rattle.vx_phrases.specs.declared.decl_state.FieldState.{FieldState}
use Rattle.vx_phrases.specs.declared.decl_state.FieldState.TheVariants as f
use Rattle.vx_phrases.specs.declared.decl_state.Head.{Head}
use Rattle.vx_phrases.specs.declared.decl_state.Message.{Message}
use Rattle.vx_phrases.specs.declared.decl_state.Message.TheVariants as ms
use Rattle.vx_phrases.specs.declared.decl_state.MethodState.{MethodState}
use Rattle.vx_phrases.specs.declared.decl_state.MethodState.TheVariants as mt
use Rattle.vx_phrases.specs.declared.decl_state.DeclState.{DeclState}
use Rattle.vx_phrases.specs.declared.decl_state.DeclState.TheVariants as st
use Rattle.vx_phrases.specs.TestMachine.{test_step}
use Rattle.vx_phrases.specs.DeclMachine as m
use Rattle.vx_phrases.specs.DeclMachine.{decl_step, names_in, given}

-- a body begins with the names that are in scope around it
abbrev pub BodyNames : Type 0
BodyNames = (scope : Scope) → length (scope_of (begun scope)) ≡ length scope

-- a step in a body brings at most one name
abbrev pub BodyGrows : Type 0
BodyGrows = (state next : State) (token : Token) → step state token ≡ On next → length (scope_of next) ≤ length (scope_of state) + 1

-- a state with at most one name more
record IsLittleMore (n : ℕ) (s : DeclState) : Type 0 where
  few : names_in s ≤ n + 1

abbrev Grows : ℕ → Option DeclState → Type 0
Grows n None = Unit {0}
Grows n (Some s) = IsLittleMore n s

begins_grow : (n : ℕ) (t : Token) → Grows n (m.decl_begins t)
unfolding names_in
begins_grow n (k.Keyword w.Object) = record { few = omega arith }
begins_grow n (k.Keyword w.Predicate) = record { few = omega arith }
begins_grow n (k.Keyword w.Var) = record { few = omega arith }
begins_grow n (k.Keyword w.Field) = record { few = omega arith }
begins_grow n (k.Keyword w.Method) = record { few = omega arith }
begins_grow n _ = tt

parents_grow : (n : ℕ) (x : Bytes) (next : Option NamesState) → Grows n (m.in_parents x next)
unfolding names_in
parents_grow n x (Some next) = record { few = omega arith }
parents_grow n x None = tt

in_predicate_grows : (n : ℕ) (x : Bytes) (next : Option NamesState) → Grows n (m.in_predicate x next)
unfolding names_in
in_predicate_grows n x (Some next) = record { few = omega arith }
in_predicate_grows n x None = tt

predicate_grows : (most : ℕ) (x : Bytes) (state : NamesState) (t : Token) → Grows most (m.predicate_parents x state t)
unfolding names_in
predicate_grows most x (n.Given given) (k.Keyword w.When) = record { few = omega arith }
predicate_grows most x state t = in_predicate_grows most x (m.names state t)

tests_grow : (n : ℕ) (x : Bytes) (parents : List Bytes) (next : Option TestState) → Grows n (m.in_test x parents next)
unfolding names_in
tests_grow n x parents (Some next) = record { few = omega arith }
tests_grow n x parents None = tt

if_some : (n : ℕ) (b : Bool) (s : DeclState) → IsLittleMore n s → Grows n (if b then Some s else None)
if_some n true s h = h
if_some n false s h = tt

if_none : (n : ℕ) (b : Bool) (s : DeclState) → IsLittleMore n s → Grows n (if b then None else Some s)
if_none n true s h = tt
if_none n false s h = h

started_grows : (n : ℕ) (key : FieldKey) (changeable : Bool) (start : Option Start) → Grows n (m.started key changeable start)
unfolding names_in
started_grows n key changeable (Some start) = record { few = omega arith }
started_grows n key changeable None = tt

field_grows : (n : ℕ) (changeable : Bool) (state : FieldState) (t : Token) → Grows n (m.field changeable state t)
unfolding names_in
field_grows n changeable f.Begun (k.Word x) = if_some n _ _ (record { few = omega arith })
field_grows n changeable (f.Named x) (k.Mark mark.Open) = record { few = omega arith }
field_grows n changeable (f.Open x) (k.Mark mark.At) = record { few = omega arith }
field_grows n changeable (f.Open x) (k.Word y) = record { few = omega arith }
field_grows n changeable (f.Formal x) (k.Mark mark.At) = record { few = omega arith }
field_grows n changeable (f.At x) (k.Word holder) = record { few = omega arith }
field_grows n changeable (f.Holder key) (k.Mark mark.Close) = record { few = omega arith }
field_grows n changeable (f.Held key) (k.Mark mark.Becomes) = record { few = omega arith }
field_grows n changeable (f.Becomes key) (k.Word x) = started_grows n key changeable (m.start_word x)
field_grows n changeable (f.Becomes key) (k.Number i) = record { few = omega arith }
field_grows n changeable (f.Becomes key) (k.Text bytes) = record { few = omega arith }
field_grows n changeable (f.Becomes key) (k.Operator o.Minus) = record { few = omega arith }
field_grows n changeable (f.Signed key) (k.Number i) = record { few = omega arith }
field_grows n changeable _ _ = tt

formals_length : (scope : Scope) (xs : List Bytes) → length (with_formals scope xs) ≡ length scope + length xs
formals_length scope [] = omega arith
formals_length scope (x ∷ xs) = let h = formals_length ((x, false) ∷ scope) xs in omega (arith, h)

named_length : (formals : List (Option Bytes)) → length (named formals) ≤ length formals
named_length [] = omega arith
named_length (Some x ∷ formals) = let h = named_length formals in omega (arith, h)
named_length (None ∷ formals) = let h = named_length formals in omega (arith, h)

last_grows : (message : Message) (x : Option Bytes) (specialiser : Bytes) → Grows (length (given message) + 1) (m.formed (m.with_last message x specialiser))
unfolding names_in
last_grows (ms.Named head) x specialiser = record { few = omega (arith, length-append head.formals (x ∷ [])) }
last_grows (ms.Sign op) x specialiser = tt
last_grows (ms.Half op y first) x specialiser = record { few = omega arith }

next_if : (head : Head) (x : Option Bytes) (specialiser : Bytes) (b : Bool) →
    Grows (length head.formals + 1) (m.formal_next (if b then Some (ms.Named (m.with_formal head x specialiser)) else None))
unfolding names_in
next_if head x specialiser true = record { few = omega (arith, length-append head.formals (x ∷ [])) }
next_if head x specialiser false = tt

next_grows : (message : Message) (x : Option Bytes) (specialiser : Bytes) → Grows (length (given message) + 1) (m.formal_next (m.with_next message x specialiser))
unfolding names_in
next_grows (ms.Named head) x specialiser = next_if head x specialiser _
next_grows (ms.Sign op) x specialiser = record { few = omega arith }
next_grows (ms.Half op y first) x specialiser = tt

specialised_grows : (message : Message) (x : Option Bytes) (specialiser : Bytes) (t : Token) → Grows (length (given message) + 1) (m.specialised message x specialiser t)
specialised_grows message x specialiser (k.Mark mark.Close) = last_grows message x specialiser
specialised_grows message x specialiser (k.Mark mark.Comma) = next_grows message x specialiser
specialised_grows message x specialiser _ = tt

formal_named_grows : (message : Message) (x : Bytes) (t : Token) → Grows (length (given message) + 1) (m.formal_named message x t)
unfolding names_in
formal_named_grows message x (k.Mark mark.At) = record { few = omega arith }
formal_named_grows message x t = specialised_grows message (Some x) any t

formal_grows : (message : Message) (t : Token) → Grows (length (given message)) (m.formal message t)
unfolding names_in
formal_grows message (k.Word x) = if_none _ _ _ (record { few = omega arith })
formal_grows message (k.Mark mark.At) = record { few = omega arith }
formal_grows message _ = tt

first_grows : (x : Bytes) (t : Token) → Grows 0 (m.first_formal x t)
unfolding names_in
first_grows x (k.Mark mark.Close) = record { few = omega arith }
first_grows x t = formal_grows (ms.Named (m.head_of x)) t

method_grows : BodyNames → (state : MethodState) (t : Token) → Grows (m.names_in_method state) (m.method state t)
unfolding names_in
method_grows body mt.Begun (k.Word x) = record { few = omega arith }
method_grows body mt.Begun (k.Operator op) = record { few = omega arith }
method_grows body (mt.Named x) (k.Mark mark.Open) = record { few = omega arith }
method_grows body (mt.Sign op) (k.Mark mark.Open) = record { few = omega arith }
method_grows body (mt.Open x) t = first_grows x t
method_grows body (mt.Formal message) t = formal_grows message t
method_grows body (mt.FormalNamed message x) t = formal_named_grows message x t
method_grows body (mt.At message x) (k.Word specialiser) = record { few = omega arith }
method_grows body (mt.Specialised message x specialiser) t = specialised_grows message x specialiser t
method_grows body (mt.Formed head) (k.Mark mark.OpenBlock) =
    let begins = body (formal_scope head.formals) in
    let all = formals_length [] (named head.formals) in
    let few = named_length head.formals in
    record { few = omega (arith, begins, all, few) }
method_grows body _ _ = tt

body_grows : BodyGrows → (head : Head) (state : State) (t : Token) (next : Next) → step state t ≡ next → Grows (length (scope_of state)) (m.in_body head next)
unfolding names_in
body_grows body head state t (On next) is = record { few = body state next t is }
body_grows body head state t (Done whole) is = record { few = omega arith }
body_grows body head state t Stuck is = tt

grows_by : BodyNames → BodyGrows → (s : DeclState) (t : Token) → Grows (names_in s) (decl_step s t)
unfolding names_in decl_step
grows_by names body st.Begun t = begins_grow _ t
grows_by names body st.Object (k.Word x) = record { few = omega arith }
grows_by names body (st.ObjectNamed x) (k.Keyword w.Isa) = record { few = omega arith }
grows_by names body (st.Parents x state) t = parents_grow _ x (m.names state t)
grows_by names body st.Predicate (k.Word x) = record { few = omega arith }
grows_by names body (st.PredicateNamed x) (k.Keyword w.Isa) = record { few = omega arith }
grows_by names body (st.PredicateParents x state) t = predicate_grows _ x state t
grows_by names body (st.PredicateTest x parents state) t = tests_grow _ x parents (test_step state t)
grows_by names body st.Var (k.Keyword w.Field) = record { few = omega arith }
grows_by names body (st.Field changeable state) t = field_grows _ changeable state t
grows_by names body (st.Method state) t = method_grows names state t
grows_by names body (st.Body head state) t = body_grows body head state t _ refl
grows_by names body _ _ = tt

-- A step brings at most one name into scope.
pub grows : BodyNames → BodyGrows → (s next : DeclState) (t : Token) → decl_step s t ≡ Some next → names_in next ≤ names_in s + 1
grows names body s next t is = few (subst (λ o. Grows (names_in s) o) is (grows_by names body s t))
  where
    few : {n : ℕ} {s : DeclState} → IsLittleMore n s → names_in s ≤ n + 1
    few h = h.few
