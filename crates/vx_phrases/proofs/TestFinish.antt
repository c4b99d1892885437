-- Where tests begin and end, and that each state of the reader of tests can be completed.
use Rattle.std.proofs.Common.{◌≡◌, ◌↔◌, ℕ, pos, neg_ℤ, List, [], ◌∷◌, Option, Some, codes, refl, subst, arith, is_none}
use Rattle.vx_names.specs.declared.operator.Operator.TheVariants as o
use Rattle.vx_syntax.specs.declared.test.Compare.{Compare}
use Rattle.vx_syntax.specs.declared.test.Compare.TheVariants as c
use Rattle.vx_syntax.specs.declared.test.Test.{Test}
use Rattle.vx_syntax.specs.declared.test.Test.TheVariants as q
use Rattle.vx_syntax.specs.declared.token.Token.{Token}
use Rattle.vx_syntax.specs.declared.token.Token.TheVariants as k
use Rattle.vx_syntax.specs.declared.token.Mark.TheVariants as mark
use Rattle.vx_syntax.specs.Words.{keyword, IsWord}
use Rattle.vx_syntax.specs.Expressions.{Bytes}
use Rattle.vx_syntax.specs.Tests as g
use Rattle.vx_syntax.specs.Tests.{IsTest}
use Rattle.vx_phrases.specs.declared.test_state.Pending.{Pending}
use Rattle.vx_phrases.specs.declared.test_state.TestState.{TestState}
use Rattle.vx_phrases.specs.declared.test_state.TestState.TheVariants as st
use Rattle.vx_phrases.specs.Laws.{Completion}
use Rattle.vx_phrases.specs.TestMachine as m
use Rattle.vx_phrases.specs.TestMachine.{test_begun, test_step, test_finished}
use Rattle.vx_phrases.specs.TestRemains as r
use Rattle.vx_phrases.specs.TestRemains.{AfterJoined, AfterTest, AfterOperand, WantsOperand, WantsNumber, TestRemains}
use Rattle.vx_phrases.proofs.TestComplete.{operand_of}
use Rattle.vx_phrases.proofs.TestSound.{test_of}

pub ends : (s : TestState) (us : List Token) (v : Test) → test_finished s ≡ Some v → TestRemains s us us v
unfolding test_finished
ends (st.Joined before [] a) us v is = let same : m.either before a ≡ v = cc in
    r.after_joined (r.after g.no_more_ands g.no_more_ors (subst (λ y. AfterTest [] (m.either before a) us us y) same r.is_whole))
ends _ us v is = absurd (cc)

no_operand : {us : List Token} {a : Test} → g.IsNeg [] us a → ⊥
no_operand h = elim h [ ]

no_number : {p : Pending} {brackets : List Pending} {x : Bytes} {how : Compare} {us : List Token} {v : Test} → WantsNumber p brackets x how [] us v → ⊥
no_number h = elim h [ ]

joined_ends : {before : Option Test} {brackets : List Pending} {a : Test} {us : List Token} {v : Test} → AfterJoined before brackets a [] us v →
    (us ≡ []) × (test_finished (st.Joined before brackets a) ≡ Some v)
unfolding test_finished
joined_ends (r.after g.no_more_ands g.no_more_ors r.is_whole) = (refl, refl)

pub at_end : (s : TestState) (us : List Token) (v : Test) → TestRemains s [] us v → (us ≡ []) × (test_finished s ≡ Some v)
at_end _ us v (r.wants_operand h) = absurd (no_operand h.2)
at_end _ us v (r.wants_number h) = absurd (no_number h)
at_end _ us v (r.after_joined h) = joined_ends h

begun : {ts us : List Token} {v : Test} → TestRemains test_begun ts us v → IsTest ts us v
begun (r.wants_operand h) = is_whole (test_of h)
  where
    is_whole : {ts us : List Token} {v : Test} → (vs : List Token) × (a : Test) × IsTest ts vs a × AfterTest [] a vs us v → IsTest ts us v
    is_whole (vs, a, one, r.is_whole) = one

pub begins : (ts us : List Token) (v : Test) → (TestRemains test_begun ts us v ↔ IsTest ts us v)
begins ts us v = (begun, λ one. r.wants_operand (operand_of one r.is_whole))

-- brackets are closed
joined_finish : (before : Option Test) (brackets : List Pending) (a : Test) → Completion (AfterJoined before brackets a)
joined_finish before [] a = record { tokens = []; value = m.either before a; each = tt; completes = λ us. r.after g.no_more_ands g.no_more_ors r.is_whole }
joined_finish before (p ∷ brackets) a =
    let found = joined_finish p.either brackets (m.both p.both (m.negated p.nots (m.either before a))) in
    record {
      tokens = k.Mark mark.Close ∷ found.tokens;
      value = found.value;
      each = (tt, found.each);
      completes = λ us. r.after g.no_more_ands g.no_more_ors (r.closes (found.completes us));
    }

number_finish : (p : Pending) (brackets : List Pending) (x : Bytes) (how : Compare) → Completion (WantsNumber p brackets x how)
number_finish p brackets x how =
    let found = joined_finish p.either brackets (m.both p.both (m.negated p.nots (q.Compare x how (pos 0)))) in
    record { tokens = k.Number 0 ∷ found.tokens; value = found.value; each = (omega arith, found.each); completes = λ us. r.positive (found.completes us) }

is_word : IsWord (codes "a")
unfolding keyword
is_word = record { identifier = (refl, tt); short = omega arith; free = refl }

pub finish : (s : TestState) → Completion (TestRemains s)
finish (st.Operand p brackets) =
    let found = joined_finish p.either brackets (m.both p.both (m.negated p.nots (q.Compare (codes "a") c.Equal (pos 0)))) in
    record {
      tokens = k.Word (codes "a") ∷ k.Operator o.Equal ∷ k.Number 0 ∷ found.tokens;
      value = found.value;
      each = (is_word, (tt, (omega arith, found.each)));
      completes = λ us. r.wants_operand (_, _, g.compare (codes "a") o.Equal 0 refl (omega arith) refl, found.completes us);
    }
finish (st.Field p brackets x) =
    let found = number_finish p brackets x c.Equal in
    record { tokens = k.Operator o.Equal ∷ found.tokens; value = found.value; each = (tt, found.each); completes = λ us. r.wants_operator o.Equal refl (found.completes us) }
finish (st.Compared p brackets x how) =
    let found = number_finish p brackets x how in
    record { tokens = found.tokens; value = found.value; each = found.each; completes = λ us. r.wants_number (found.completes us) }
finish (st.Signed p brackets x how) =
    let found = joined_finish p.either brackets (m.both p.both (m.negated p.nots (q.Compare x how (neg_ℤ (pos 0))))) in
    record { tokens = k.Number 0 ∷ found.tokens; value = found.value; each = (omega arith, found.each); completes = λ us. r.after_sign (found.completes us) }
finish (st.Joined before brackets a) =
    let found = joined_finish before brackets a in
    record { tokens = found.tokens; value = found.value; each = found.each; completes = λ us. r.after_joined (found.completes us) }

pub takes_number : (s : TestState) (a b : ℕ) → is_none (test_step s (k.Number a)) ≡ is_none (test_step s (k.Number b))
unfolding test_step
takes_number (st.Operand p brackets) a b = refl
takes_number (st.Field p brackets x) a b = refl
takes_number (st.Compared p brackets x how) a b = refl
takes_number (st.Signed p brackets x how) a b = refl
takes_number (st.Joined before brackets t) a b = refl
