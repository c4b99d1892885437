-- The reader of declarations, token by token.
use Rattle.std.specs.Prelude.{ℕ, pos, neg_ℤ, ◌+◌, nat_le, Bool, true, false, if◌then◌else◌, List, [], ◌∷◌, ◌++◌, length, Option, Some, None}
use Rattle.std.specs.Str.{bytes_eq}
use Rattle.vx_names.specs.declared.operator.Operator.TheVariants as o
use Rattle.vx_names.specs.declared.key.FieldKey.{FieldKey}
use Rattle.vx_names.specs.Operator.{spelling}
use Rattle.vx_syntax.specs.declared.token.Token.{Token}
use Rattle.vx_syntax.specs.declared.token.Token.TheVariants as k
use Rattle.vx_syntax.specs.declared.token.Keyword.TheVariants as w
use Rattle.vx_syntax.specs.declared.token.Mark.TheVariants as m
use Rattle.vx_syntax.specs.declared.expr.Stmt.{Stmt}
use Rattle.vx_syntax.specs.declared.test.Test.{Test}
use Rattle.vx_syntax.specs.declared.decl.Start.{Start}
use Rattle.vx_syntax.specs.declared.decl.Start.TheVariants as s
use Rattle.vx_syntax.specs.declared.decl.Decl.{Decl}
use Rattle.vx_syntax.specs.declared.decl.Decl.TheVariants as d
use Rattle.vx_syntax.specs.Expressions.{Bytes, is_among, max_field_bytes}
use Rattle.vx_syntax.specs.Declarations.{any, nil_word, true_word, false_word, named, formal_scope, may_go_on, field_key, method_of}
use Rattle.vx_bodies.specs.declared.state.Next.{Next}
use Rattle.vx_bodies.specs.declared.state.Next.TheVariants.{Stuck, On, Done}
use Rattle.vx_bodies.specs.Machine.{begun, step, scope_of}
use Rattle.vx_phrases.specs.declared.test_state.TestState.{TestState}
use Rattle.vx_phrases.specs.declared.decl_state.NamesState.{NamesState}
use Rattle.vx_phrases.specs.declared.decl_state.NamesState.TheVariants as n
use Rattle.vx_phrases.specs.declared.decl_state.FieldState.{FieldState}
use Rattle.vx_phrases.specs.declared.decl_state.FieldState.TheVariants as f
use Rattle.vx_phrases.specs.declared.decl_state.Head.{Head}
use Rattle.vx_phrases.specs.declared.decl_state.Message.{Message}
use Rattle.vx_phrases.specs.declared.decl_state.Message.TheVariants as ms
use Rattle.vx_phrases.specs.declared.decl_state.MethodState.{MethodState}
use Rattle.vx_phrases.specs.declared.decl_state.MethodState.TheVariants as mt
use Rattle.vx_phrases.specs.declared.decl_state.DeclState.{DeclState}
use Rattle.vx_phrases.specs.declared.decl_state.DeclState.TheVariants as st
use Rattle.vx_phrases.specs.TestMachine.{test_begun, test_step, test_finished}

abbrev pub with_name : List Bytes → Bytes → List Bytes
with_name given x = given ++ x ∷ []

-- names that commas separate
abbrev pub names : NamesState → Token → Option NamesState
names (n.Wanted given) (k.Word x) = Some (n.Given (with_name given x))
names (n.Given given) (k.Mark m.Comma) = Some (n.Wanted given)
names state token = None

abbrev pub decl_begins : Token → Option DeclState
decl_begins (k.Keyword w.Object) = Some st.Object
decl_begins (k.Keyword w.Predicate) = Some st.Predicate
decl_begins (k.Keyword w.Var) = Some st.Var
decl_begins (k.Keyword w.Field) = Some (st.Field false f.Begun)
decl_begins (k.Keyword w.Method) = Some (st.Method mt.Begun)
decl_begins token = None

abbrev pub object : Token → Option DeclState
object (k.Word x) = Some (st.ObjectNamed x)
object token = None

abbrev pub object_named : Bytes → Token → Option DeclState
object_named x (k.Keyword w.Isa) = Some (st.Parents x (n.Wanted []))
object_named x token = None

abbrev pub in_parents : Bytes → Option NamesState → Option DeclState
in_parents x None = None
in_parents x (Some state) = Some (st.Parents x state)

abbrev pub predicate : Token → Option DeclState
predicate (k.Word x) = Some (st.PredicateNamed x)
predicate token = None

abbrev pub predicate_named : Bytes → Token → Option DeclState
predicate_named x (k.Keyword w.Isa) = Some (st.PredicateParents x (n.Wanted []))
predicate_named x token = None

abbrev pub in_predicate : Bytes → Option NamesState → Option DeclState
in_predicate x None = None
in_predicate x (Some state) = Some (st.PredicateParents x state)

abbrev pub predicate_parents : Bytes → NamesState → Token → Option DeclState
predicate_parents x (n.Given given) (k.Keyword w.When) = Some (st.PredicateTest x given test_begun)
predicate_parents x state token = in_predicate x (names state token)

abbrev pub in_test : Bytes → List Bytes → Option TestState → Option DeclState
in_test x parents None = None
in_test x parents (Some state) = Some (st.PredicateTest x parents state)

abbrev pub var : Token → Option DeclState
var (k.Keyword w.Field) = Some (st.Field true f.Begun)
var token = None

-- a word with which a field begins
abbrev pub start_word : Bytes → Option Start
start_word x =
    if bytes_eq x nil_word then Some s.Nil else
    if bytes_eq x true_word then Some s.True else
    if bytes_eq x false_word then Some s.False else None

abbrev pub started : FieldKey → Bool → Option Start → Option DeclState
started key changeable None = None
started key changeable (Some start) = Some (st.Whole (d.Field key start changeable))

abbrev pub field_name : Bool → Bytes → Option DeclState
field_name changeable x = if nat_le (length x) max_field_bytes then Some (st.Field changeable (f.Named x)) else None

abbrev pub field : Bool → FieldState → Token → Option DeclState
field changeable f.Begun (k.Word x) = field_name changeable x
field changeable (f.Named x) (k.Mark m.Open) = Some (st.Field changeable (f.Open x))
field changeable (f.Open x) (k.Mark m.At) = Some (st.Field changeable (f.At x))
field changeable (f.Open x) (k.Word y) = Some (st.Field changeable (f.Formal x))
field changeable (f.Formal x) (k.Mark m.At) = Some (st.Field changeable (f.At x))
field changeable (f.At x) (k.Word holder) = Some (st.Field changeable (f.Holder (field_key x holder)))
field changeable (f.Holder key) (k.Mark m.Close) = Some (st.Field changeable (f.Held key))
field changeable (f.Held key) (k.Mark m.Becomes) = Some (st.Field changeable (f.Becomes key))
field changeable (f.Becomes key) (k.Word x) = started key changeable (start_word x)
field changeable (f.Becomes key) (k.Number n) = Some (st.Whole (d.Field key (s.Int (pos n)) changeable))
field changeable (f.Becomes key) (k.Text bytes) = Some (st.Whole (d.Field key (s.Text bytes) changeable))
field changeable (f.Becomes key) (k.Operator o.Minus) = Some (st.Field changeable (f.Signed key))
field changeable (f.Signed key) (k.Number n) = Some (st.Whole (d.Field key (s.Int (neg_ℤ (pos n))) changeable))
field changeable state token = None

-- a name without formals
abbrev pub head_of : Bytes → Head
head_of x = record { name = x; formals = []; specialisers = [] }

-- with one more formal
abbrev pub with_formal : Head → Option Bytes → Bytes → Head
with_formal head x specialiser = record { name = head.name; formals = head.formals ++ x ∷ []; specialisers = head.specialisers ++ specialiser ∷ [] }

-- the formals so far
abbrev pub given : Message → List (Option Bytes)
given (ms.Named head) = head.formals
given (ms.Sign op) = []
given (ms.Half op x specialiser) = x ∷ []

-- the head that is whole with one more formal, the last
abbrev pub with_last : Message → Option Bytes → Bytes → Option Head
with_last (ms.Named head) x specialiser = Some (with_formal head x specialiser)
with_last (ms.Sign op) x specialiser = None
with_last (ms.Half op y first) x specialiser = Some (record { name = spelling op; formals = y ∷ x ∷ []; specialisers = first ∷ specialiser ∷ [] })

-- the message with one more formal, where still more may follow
abbrev pub with_next : Message → Option Bytes → Bytes → Option Message
with_next (ms.Named head) x specialiser = if may_go_on false (length head.formals + 1) then Some (ms.Named (with_formal head x specialiser)) else None
with_next (ms.Sign op) x specialiser = Some (ms.Half op x specialiser)
with_next (ms.Half op y first) x specialiser = None

abbrev pub formed : Option Head → Option DeclState
formed None = None
formed (Some head) = Some (st.Method (mt.Formed head))

abbrev pub formal_next : Option Message → Option DeclState
formal_next None = None
formal_next (Some message) = Some (st.Method (mt.Formal message))

abbrev pub specialised : Message → Option Bytes → Bytes → Token → Option DeclState
specialised message x specialiser (k.Mark m.Close) = formed (with_last message x specialiser)
specialised message x specialiser (k.Mark m.Comma) = formal_next (with_next message x specialiser)
specialised message x specialiser token = None

abbrev pub formal_named : Message → Bytes → Token → Option DeclState
formal_named message x (k.Mark m.At) = Some (st.Method (mt.At message (Some x)))
formal_named message x token = specialised message (Some x) any token

abbrev pub formal_name : Message → Bytes → Option DeclState
formal_name message x = if is_among (named (given message)) x then None else Some (st.Method (mt.FormalNamed message x))

abbrev pub formal : Message → Token → Option DeclState
formal message (k.Word x) = formal_name message x
formal message (k.Mark m.At) = Some (st.Method (mt.At message None))
formal message token = None

abbrev pub first_formal : Bytes → Token → Option DeclState
first_formal x (k.Mark m.Close) = Some (st.Method (mt.Formed (head_of x)))
first_formal x token = formal (ms.Named (head_of x)) token

abbrev pub method : MethodState → Token → Option DeclState
method mt.Begun (k.Word x) = Some (st.Method (mt.Named x))
method mt.Begun (k.Operator op) = Some (st.Method (mt.Sign op))
method (mt.Named x) (k.Mark m.Open) = Some (st.Method (mt.Open x))
method (mt.Sign op) (k.Mark m.Open) = Some (st.Method (mt.Formal (ms.Sign op)))
method (mt.Open x) token = first_formal x token
method (mt.Formal message) token = formal message token
method (mt.FormalNamed message x) token = formal_named message x token
method (mt.At message x) (k.Word specialiser) = Some (st.Method (mt.Specialised message x specialiser))
method (mt.Specialised message x specialiser) token = specialised message x specialiser token
method (mt.Formed head) (k.Mark m.OpenBlock) = Some (st.Body head (begun (formal_scope head.formals)))
method state token = None

-- the method of a head and a body
abbrev pub method_with : Head → List Stmt → Decl
method_with head body = method_of head.name head.formals head.specialisers body

abbrev pub in_body : Head → Next → Option DeclState
in_body head Stuck = None
in_body head (On state) = Some (st.Body head state)
in_body head (Done body) = Some (st.Whole (method_with head body.0))

-- nothing of a declaration is read
abbrev pub decl_begun : DeclState
decl_begun = st.Begun

-- the state after a token, if a declaration goes on with it
unfoldable pub decl_step : DeclState → Token → Option DeclState
decl_step st.Begun token = decl_begins token
decl_step st.Object token = object token
decl_step (st.ObjectNamed x) token = object_named x token
decl_step (st.Parents x state) token = in_parents x (names state token)
decl_step st.Predicate token = predicate token
decl_step (st.PredicateNamed x) token = predicate_named x token
decl_step (st.PredicateParents x state) token = predicate_parents x state token
decl_step (st.PredicateTest x parents state) token = in_test x parents (test_step state token)
decl_step st.Var token = var token
decl_step (st.Field changeable state) token = field changeable state token
decl_step (st.Method state) token = method state token
decl_step (st.Body head state) token = in_body head (step state token)
decl_step (st.Whole decl) token = None

abbrev pub with_test : Bytes → List Bytes → Option Test → Option Decl
with_test x parents None = None
with_test x parents (Some test) = Some (d.Predicate x parents test)

abbrev pub whole_object : Bytes → Decl
whole_object x = d.Object x (any ∷ [])

abbrev pub whole_parents : Bytes → NamesState → Option Decl
whole_parents x (n.Given parents) = Some (d.Object x parents)
whole_parents x (n.Wanted given) = None

abbrev pub whole_field : Bool → FieldState → Option Decl
whole_field changeable (f.Held key) = Some (d.Field key s.Nil changeable)
whole_field changeable state = None

-- the declaration that is read, where it may end there
unfoldable pub decl_finished : DeclState → Option Decl
decl_finished (st.ObjectNamed x) = Some (whole_object x)
decl_finished (st.Parents x state) = whole_parents x state
decl_finished (st.PredicateTest x parents state) = with_test x parents (test_finished state)
decl_finished (st.Field changeable state) = whole_field changeable state
decl_finished (st.Whole decl) = Some decl
decl_finished state = None

-- how many names a method has brought into scope
abbrev pub names_in_method : MethodState → ℕ
names_in_method (mt.Formal message) = length (given message)
names_in_method (mt.FormalNamed message x) = length (given message) + 1
names_in_method (mt.At message x) = length (given message) + 1
names_in_method (mt.Specialised message x specialiser) = length (given message) + 1
names_in_method (mt.Formed head) = length head.formals
names_in_method state = 0

unfoldable pub names_in : DeclState → ℕ
names_in (st.Method state) = names_in_method state
names_in (st.Body head state) = length (scope_of state)
names_in state = 0
