-- What each state of the reader of tests wants: `TestRemains s ts us v` says that the tokens ts begin with what completes the
-- state, the whole test means v, and the tokens us follow it.
use Rattle.std.specs.Prelude.{◌≡◌, ℕ, pos, neg_ℤ, List, [], ◌∷◌, Option, Some}
use Rattle.vx_names.specs.declared.operator.Operator.{Operator}
use Rattle.vx_names.specs.declared.operator.Operator.TheVariants as o
use Rattle.vx_syntax.specs.declared.test.Compare.{Compare}
use Rattle.vx_syntax.specs.declared.test.Test.{Test}
use Rattle.vx_syntax.specs.declared.test.Test.TheVariants as q
use Rattle.vx_syntax.specs.declared.token.Token.{Token}
use Rattle.vx_syntax.specs.declared.token.Token.TheVariants as k
use Rattle.vx_syntax.specs.declared.token.Mark.TheVariants as m
use Rattle.vx_syntax.specs.Expressions.{Bytes}
use Rattle.vx_syntax.specs.Tests.{comparison, IsNeg, IsMoreAnds, IsMoreOrs}
use Rattle.vx_phrases.specs.declared.test_state.Pending.{Pending}
use Rattle.vx_phrases.specs.declared.test_state.TestState.{TestState}
use Rattle.vx_phrases.specs.declared.test_state.TestState.TheVariants as st
use Rattle.vx_phrases.specs.TestMachine.{both, either, negated}

mutual
  -- after comparisons that mean a, behind the test before an `or`
  pub data AfterJoined : Option Test → List Pending → Test → List Token → List Token → Test → Type 0 where
    after : {before : Option Test} {brackets : List Pending} {a x y v : Test} {ts vs ws us : List Token} →
        IsMoreAnds a ts vs x → IsMoreOrs (either before x) vs ws y → AfterTest brackets y ws us v → AfterJoined before brackets a ts us v

  -- after a test that means a, within these brackets
  pub data AfterTest : List Pending → Test → List Token → List Token → Test → Type 0 where
    is_whole : {a : Test} {us : List Token} → AfterTest [] a us us a
    closes : {p : Pending} {brackets : List Pending} {a v : Test} {ts us : List Token} →
        AfterJoined p.either brackets (both p.both (negated p.nots a)) ts us v → AfterTest (p ∷ brackets) a (k.Mark m.Close ∷ ts) us v

-- after an operand that means a
abbrev pub AfterOperand : Pending → List Pending → Test → List Token → List Token → Test → Type 0
AfterOperand p brackets a ts us v = AfterJoined p.either brackets (both p.both (negated p.nots a)) ts us v

-- an operand, and what follows it
abbrev pub WantsOperand : Pending → List Pending → List Token → List Token → Test → Type 0
WantsOperand p brackets ts us v = (vs : List Token) × (a : Test) × IsNeg ts vs a × AfterOperand p brackets a vs us v

-- a number, and what follows the comparison with it
pub data WantsNumber (p : Pending) (brackets : List Pending) (x : Bytes) (how : Compare) : List Token → List Token → Test → Type 0 where
  positive : {n : ℕ} {ts us : List Token} {v : Test} → AfterOperand p brackets (q.Compare x how (pos n)) ts us v →
      WantsNumber p brackets x how (k.Number n ∷ ts) us v
  negative : {n : ℕ} {ts us : List Token} {v : Test} → AfterOperand p brackets (q.Compare x how (neg_ℤ (pos n))) ts us v →
      WantsNumber p brackets x how (k.Operator o.Minus ∷ k.Number n ∷ ts) us v

pub data TestRemains : TestState → List Token → List Token → Test → Type 0 where
  wants_operand : {p : Pending} {brackets : List Pending} {ts us : List Token} {v : Test} → WantsOperand p brackets ts us v →
      TestRemains (st.Operand p brackets) ts us v
  wants_operator : {p : Pending} {brackets : List Pending} {x : Bytes} {how : Compare} {ts us : List Token} {v : Test} (op : Operator) →
      comparison op ≡ Some how → WantsNumber p brackets x how ts us v → TestRemains (st.Field p brackets x) (k.Operator op ∷ ts) us v
  wants_number : {p : Pending} {brackets : List Pending} {x : Bytes} {how : Compare} {ts us : List Token} {v : Test} →
      WantsNumber p brackets x how ts us v → TestRemains (st.Compared p brackets x how) ts us v
  after_sign : {p : Pending} {brackets : List Pending} {x : Bytes} {how : Compare} {n : ℕ} {ts us : List Token} {v : Test} →
      AfterOperand p brackets (q.Compare x how (neg_ℤ (pos n))) ts us v → TestRemains (st.Signed p brackets x how) (k.Number n ∷ ts) us v
  after_joined : {before : Option Test} {brackets : List Pending} {a : Test} {ts us : List Token} {v : Test} → AfterJoined before brackets a ts us v →
      TestRemains (st.Joined before brackets a) ts us v
