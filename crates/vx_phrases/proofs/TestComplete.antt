-- What completes a state of the reader of tests before a token completes the next state after it, or the test is whole.
use Rattle.std.proofs.Common.{◌≡◌, ◌≤◌, Bool, true, false, ◌⊎◌, inl, inr, List, ◌∷◌, length, Option, Some, None, refl, sym, subst, le-leb, if◌then◌else◌, not, ◌&&◌, nat_le}
use Rattle.vx_syntax.specs.declared.test.Compare.{Compare}
use Rattle.vx_syntax.specs.declared.test.Test.{Test}
use Rattle.vx_syntax.specs.declared.token.Token.{Token}
use Rattle.vx_syntax.specs.Expressions.{Bytes, is_among, max_field_bytes}
use Rattle.vx_syntax.specs.Tests as g
use Rattle.vx_syntax.specs.Tests.{IsTest, IsNeg, comparison, joining_words, not_word}
use Rattle.std.specs.Str.{bytes_eq}
use Rattle.std.proofs.lemmas.Slice.Eq.{bytes_eq-Decides}
use Rattle.vx_phrases.specs.declared.test_state.Pending.{Pending}
use Rattle.vx_phrases.specs.declared.test_state.TestState.{TestState}
use Rattle.vx_phrases.specs.declared.test_state.TestState.TheVariants as st
use Rattle.vx_phrases.specs.Laws.{Moves}
use Rattle.vx_phrases.specs.TestMachine as m
use Rattle.vx_phrases.specs.TestMachine.{test_step, test_finished, either}
use Rattle.vx_phrases.specs.TestRemains as r
use Rattle.vx_phrases.specs.TestRemains.{AfterJoined, AfterTest, AfterOperand, WantsOperand, WantsNumber, TestRemains}

-- a test in a bracket begins with an operand
pub operand_of : {brackets : List Pending} {ts vs us : List Token} {a v : Test} → IsTest ts vs a → AfterTest brackets a vs us v →
    WantsOperand m.nothing_pending brackets ts us v
operand_of (g.test (g.conj one ands) ors) h = (_, _, one, r.after ands ors h)

is_field : (x : Bytes) → is_among joining_words x ≡ false → length x ≤ max_field_bytes → m.is_field x ≡ true
is_field x new short = subst (λ b. (not b && nat_le (length x) max_field_bytes) ≡ true) (sym new) (le-leb _ _ short)

-- a word that joins no tests is not `not`
no_not : (x : Bytes) → is_among joining_words x ≡ false → bytes_eq x not_word ≡ false
no_not x new = by (bytes_eq x not_word) refl
  where
    by : (b : Bool) → bytes_eq x not_word ≡ b → b ≡ false
    by true e = absurd (among (subst (λ y. is_among joining_words y ≡ false) ((bytes_eq-Decides x not_word).0 e) new))
      where
        among : true ≡ false → ⊥
        among e = cc
    by false e = refl

by_field : (p : Pending) (brackets : List Pending) (x : Bytes) {ts us : List Token} {v : Test} → is_among joining_words x ≡ false → length x ≤ max_field_bytes →
    TestRemains (st.Field p brackets x) ts us v → Moves TestRemains (m.operand_word p brackets x) ts us v
by_field p brackets x {ts} {us} {v} new short h =
    subst (λ b. Moves TestRemains (if b then Some (st.Operand (m.one_more_not p) brackets) else if m.is_field x then Some (st.Field p brackets x) else None) ts us v)
    (sym (no_not x new))
    (subst (λ b. Moves TestRemains (if b then Some (st.Field p brackets x) else None) ts us v) (sym (is_field x new short)) h)

by_operand : (p : Pending) (brackets : List Pending) {t : Token} {ts us : List Token} {v : Test} →
    WantsOperand p brackets (t ∷ ts) us v → Moves TestRemains (m.operand p brackets t) ts us v
by_operand p brackets (vs, a, g.negation one, h) = r.wants_operand (_, _, one, h)
by_operand p brackets (vs, a, g.bracketed inner, h) = r.wants_operand (operand_of inner (r.closes h))
by_operand p brackets (vs, a, g.compare x op n new short is, h) = by_field p brackets x new short (r.wants_operator op is (r.positive h))
by_operand p brackets (vs, a, g.compare_negative x op n new short is, h) = by_field p brackets x new short (r.wants_operator op is (r.negative h))

by_number : {p : Pending} {brackets : List Pending} {x : Bytes} {how : Compare} {t : Token} {ts us : List Token} {v : Test} →
    WantsNumber p brackets x how (t ∷ ts) us v → Moves TestRemains (m.number p brackets x how t) ts us v
by_number (r.positive h) = r.after_joined h
by_number (r.negative h) = r.after_sign h

by_joined : {before : Option Test} {brackets : List Pending} {a : Test} {t : Token} {ts us : List Token} {v : Test} → AfterJoined before brackets a (t ∷ ts) us v →
    Moves TestRemains (m.joined before brackets a t) ts us v ⊎ ((us ≡ t ∷ ts) × (test_finished (st.Joined before brackets a) ≡ Some v))
unfolding test_finished
by_joined (r.after (g.more_ands one ands) ors h) = inl (r.wants_operand (_, _, one, r.after ands ors h))
by_joined (r.after g.no_more_ands (g.more_ors (g.conj one ands) ors) h) = inl (r.wants_operand (_, _, one, r.after ands ors h))
by_joined (r.after g.no_more_ands g.no_more_ors (r.closes h)) = inl (r.after_joined h)
by_joined (r.after g.no_more_ands g.no_more_ors r.is_whole) = inr (refl, refl)

pub complete : (s : TestState) (t : Token) (ts us : List Token) (v : Test) → TestRemains s (t ∷ ts) us v →
    Moves TestRemains (test_step s t) ts us v ⊎ ((us ≡ t ∷ ts) × (test_finished s ≡ Some v))
unfolding test_step
complete _ t ts us v (r.wants_operand h) = inl (by_operand _ _ h)
complete _ t ts us v (r.wants_operator {p} {brackets} {x} op is h) =
    inl (subst (λ how. Moves TestRemains (m.compared p brackets x how) ts us v) (sym is) (r.wants_number h))
complete _ t ts us v (r.wants_number h) = inl (by_number h)
complete _ t ts us v (r.after_sign h) = inl (r.after_joined h)
complete _ t ts us v (r.after_joined h) = by_joined h
