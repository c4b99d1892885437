-- The reader of tests, token by token.
use Rattle.std.specs.Prelude.{ℕ, zero, suc, pos, neg_ℤ, nat_le, Bool, ◌&&◌, not, if◌then◌else◌, List, [], ◌∷◌, length, Option, Some, None}
use Rattle.std.specs.Str.{bytes_eq}
use Rattle.vx_names.specs.declared.operator.Operator.TheVariants as o
use Rattle.vx_syntax.specs.declared.test.Compare.{Compare}
use Rattle.vx_syntax.specs.declared.test.Test.{Test}
use Rattle.vx_syntax.specs.declared.test.Test.TheVariants as q
use Rattle.vx_syntax.specs.declared.token.Token.{Token}
use Rattle.vx_syntax.specs.declared.token.Token.TheVariants as k
use Rattle.vx_syntax.specs.declared.token.Mark.TheVariants as m
use Rattle.vx_syntax.specs.Expressions.{Bytes, is_among, max_field_bytes}
use Rattle.vx_syntax.specs.Tests.{and_word, or_word, not_word, joining_words, comparison}
use Rattle.vx_phrases.specs.declared.test_state.Pending.{Pending}
use Rattle.vx_phrases.specs.declared.test_state.TestState.{TestState}
use Rattle.vx_phrases.specs.declared.test_state.TestState.TheVariants as st

abbrev pub nothing_pending : Pending
nothing_pending = record { either = None; both = None; nots = 0 }

-- the test behind so many `not`s
abbrev pub negated : ℕ → Test → Test
negated zero a = a
negated (suc n) a = negated n (q.Not a)

abbrev pub both : Option Test → Test → Test
both None a = a
both (Some before) a = q.And before a

abbrev pub either : Option Test → Test → Test
either None a = a
either (Some before) a = q.Or before a

-- an operand that nothing joins yet is read
abbrev pub operand_read : Pending → List Pending → Test → TestState
operand_read p brackets a = st.Joined p.either brackets (both p.both (negated p.nots a))

-- whether a test may name a field so
abbrev pub is_field : Bytes → Bool
is_field x = not (is_among joining_words x) && nat_le (length x) max_field_bytes

abbrev pub one_more_not : Pending → Pending
one_more_not p = record { either = p.either; both = p.both; nots = suc p.nots }

abbrev pub operand_word : Pending → List Pending → Bytes → Option TestState
operand_word p brackets x =
    if bytes_eq x not_word then Some (st.Operand (one_more_not p) brackets) else
    if is_field x then Some (st.Field p brackets x) else None

abbrev pub operand : Pending → List Pending → Token → Option TestState
operand p brackets (k.Word x) = operand_word p brackets x
operand p brackets (k.Mark m.Open) = Some (st.Operand nothing_pending (p ∷ brackets))
operand p brackets token = None

abbrev pub compared : Pending → List Pending → Bytes → Option Compare → Option TestState
compared p brackets x None = None
compared p brackets x (Some how) = Some (st.Compared p brackets x how)

abbrev pub field : Pending → List Pending → Bytes → Token → Option TestState
field p brackets x (k.Operator op) = compared p brackets x (comparison op)
field p brackets x token = None

abbrev pub number : Pending → List Pending → Bytes → Compare → Token → Option TestState
number p brackets x how (k.Number n) = Some (operand_read p brackets (q.Compare x how (pos n)))
number p brackets x how (k.Operator o.Minus) = Some (st.Signed p brackets x how)
number p brackets x how token = None

abbrev pub signed : Pending → List Pending → Bytes → Compare → Token → Option TestState
signed p brackets x how (k.Number n) = Some (operand_read p brackets (q.Compare x how (neg_ℤ (pos n))))
signed p brackets x how token = None

abbrev pub joining_word : Option Test → List Pending → Test → Bytes → Option TestState
joining_word before brackets a x =
    if bytes_eq x and_word then Some (st.Operand (record { either = before; both = Some a; nots = 0 }) brackets) else
    if bytes_eq x or_word then Some (st.Operand (record { either = Some (either before a); both = None; nots = 0 }) brackets) else None

abbrev pub closed : List Pending → Test → Option TestState
closed [] a = None
closed (p ∷ brackets) a = Some (operand_read p brackets a)

abbrev pub joined : Option Test → List Pending → Test → Token → Option TestState
joined before brackets a (k.Word x) = joining_word before brackets a x
joined before brackets a (k.Mark m.Close) = closed brackets (either before a)
joined before brackets a token = None

-- nothing of a test is read
abbrev pub test_begun : TestState
test_begun = st.Operand nothing_pending []

-- the state after a token, if a test goes on with it
unfoldable pub test_step : TestState → Token → Option TestState
test_step (st.Operand p brackets) token = operand p brackets token
test_step (st.Field p brackets x) token = field p brackets x token
test_step (st.Compared p brackets x how) token = number p brackets x how token
test_step (st.Signed p brackets x how) token = signed p brackets x how token
test_step (st.Joined before brackets a) token = joined before brackets a token

abbrev pub whole : Option Test → List Pending → Test → Option Test
whole before [] a = Some (either before a)
whole before (p ∷ brackets) a = None

-- the test that is read, where it may end there
unfoldable pub test_finished : TestState → Option Test
test_finished (st.Joined before brackets a) = whole before brackets a
test_finished state = None
