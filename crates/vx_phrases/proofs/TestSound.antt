-- What completes the state where a token leads the reader of tests completes, with the token in front, the state before.
use Rattle.std.proofs.Common.{◌≡◌, Bool, true, false, List, [], ◌∷◌, length, Option, Some, None, refl, sym, subst, if◌then◌else◌, not, ◌&&◌, nat_le, leb-true}
use Rattle.std.proofs.lemmas.Slice.Eq.{bytes_eq-Decides}
use Rattle.std.specs.Str.{bytes_eq}
use Rattle.vx_names.specs.declared.operator.Operator.{Operator}
use Rattle.vx_names.specs.declared.operator.Operator.TheVariants as o
use Rattle.vx_syntax.specs.declared.test.Compare.{Compare}
use Rattle.vx_syntax.specs.declared.test.Test.{Test}
use Rattle.vx_syntax.specs.declared.token.Token.{Token}
use Rattle.vx_syntax.specs.declared.token.Token.TheVariants as k
use Rattle.vx_syntax.specs.declared.token.Mark.TheVariants as mark
use Rattle.vx_syntax.specs.Expressions.{Bytes, is_among, max_field_bytes}
use Rattle.vx_syntax.specs.Tests as g
use Rattle.vx_syntax.specs.Tests.{IsTest, IsNeg, comparison, joining_words, not_word, and_word, or_word}
use Rattle.vx_phrases.specs.declared.test_state.Pending.{Pending}
use Rattle.vx_phrases.specs.declared.test_state.TestState.{TestState}
use Rattle.vx_phrases.specs.declared.test_state.TestState.TheVariants as st
use Rattle.vx_phrases.specs.Laws.{Moves}
use Rattle.vx_phrases.specs.TestMachine as m
use Rattle.vx_phrases.specs.TestMachine.{test_step, either}
use Rattle.vx_phrases.specs.TestRemains as r
use Rattle.vx_phrases.specs.TestRemains.{AfterJoined, AfterTest, WantsOperand, WantsNumber, TestRemains}

-- an operand begins a test
pub test_of : {brackets : List Pending} {ts us : List Token} {v : Test} → WantsOperand m.nothing_pending brackets ts us v →
    (vs : List Token) × (a : Test) × IsTest ts vs a × AfterTest brackets a vs us v
test_of (vs, a, one, r.after ands ors h) = (_, _, g.test (g.conj one ands) ors, h)

both_true : (a b : Bool) → (not a && b) ≡ true → (a ≡ false) × (b ≡ true)
both_true false true e = (refl, refl)
both_true false false e = absurd (cc)
both_true true b e = absurd (cc)

in_bracket : {p : Pending} {brackets : List Pending} {a v : Test} {ts us : List Token} → AfterTest (p ∷ brackets) a ts us v →
    (vs : List Token) × (ts ≡ k.Mark mark.Close ∷ vs) × r.AfterOperand p brackets a vs us v
in_bracket (r.closes h) = (_, refl, h)

bracketed : {p : Pending} {brackets : List Pending} {ts us : List Token} {v : Test} →
    (vs : List Token) × (a : Test) × IsTest ts vs a × AfterTest (p ∷ brackets) a vs us v → WantsOperand p brackets (k.Mark mark.Open ∷ ts) us v
bracketed {ts = ts} (vs, a, one, h) =
    let found = in_bracket h in
    (_, _, g.bracketed (subst (λ l. IsTest ts l a) found.1 one), found.2)

-- a word behind which an operand goes on
of_word : (p : Pending) (brackets : List Pending) (x : Bytes) (ts us : List Token) (v : Test) (b c : Bool) → bytes_eq x not_word ≡ b → m.is_field x ≡ c →
    Moves TestRemains (if b then Some (st.Operand (m.one_more_not p) brackets) else if c then Some (st.Field p brackets x) else None) ts us v →
    WantsOperand p brackets (k.Word x ∷ ts) us v
of_word p brackets x ts us v true c is field (r.wants_operand (vs, a, one, h)) =
    subst (λ y. WantsOperand p brackets (k.Word y ∷ ts) us v) (sym ((bytes_eq-Decides x not_word).0 is)) (_, _, g.negation one, h)
of_word p brackets x _ us v false true is field (r.wants_operator op how (r.positive h)) =
    let may = both_true (is_among joining_words x) (nat_le (length x) max_field_bytes) field in
    (_, _, g.compare x op _ may.0 (leb-true _ _ may.1) how, h)
of_word p brackets x _ us v false true is field (r.wants_operator op how (r.negative h)) =
    let may = both_true (is_among joining_words x) (nat_le (length x) max_field_bytes) field in
    (_, _, g.compare_negative x op _ may.0 (leb-true _ _ may.1) how, h)
of_word p brackets x ts us v false false is field h = absurd h

of_operand : (p : Pending) (brackets : List Pending) (t : Token) (ts us : List Token) (v : Test) →
    Moves TestRemains (m.operand p brackets t) ts us v → WantsOperand p brackets (t ∷ ts) us v
of_operand p brackets (k.Word x) ts us v h = of_word p brackets x ts us v _ _ refl refl h
of_operand p brackets (k.Mark mark.Open) ts us v (r.wants_operand h) = bracketed (test_of h)
of_operand p brackets _ ts us v h = absurd h

of_field : (p : Pending) (brackets : List Pending) (x : Bytes) (op : Operator) (ts us : List Token) (v : Test) (how : Option Compare) → comparison op ≡ how →
    Moves TestRemains (m.compared p brackets x how) ts us v → TestRemains (st.Field p brackets x) (k.Operator op ∷ ts) us v
of_field p brackets x op ts us v (Some how) is (r.wants_number h) = r.wants_operator op is h
of_field p brackets x op ts us v None is h = absurd h

of_number : (p : Pending) (brackets : List Pending) (x : Bytes) (how : Compare) (t : Token) (ts us : List Token) (v : Test) →
    Moves TestRemains (m.number p brackets x how t) ts us v → WantsNumber p brackets x how (t ∷ ts) us v
of_number p brackets x how (k.Number n) ts us v (r.after_joined h) = r.positive h
of_number p brackets x how (k.Operator o.Minus) _ us v (r.after_sign h) = r.negative h
of_number p brackets x how _ ts us v h = absurd h

-- a word that joins tests
of_joining : (before : Option Test) (brackets : List Pending) (a : Test) (x : Bytes) (ts us : List Token) (v : Test) (b c : Bool) →
    bytes_eq x and_word ≡ b → bytes_eq x or_word ≡ c →
    Moves TestRemains (if b then Some (st.Operand (record { either = before; both = Some a; nots = 0 }) brackets) else
    if c then Some (st.Operand (record { either = Some (either before a); both = None; nots = 0 }) brackets) else None) ts us v →
    AfterJoined before brackets a (k.Word x ∷ ts) us v
of_joining before brackets a x ts us v true c is also (r.wants_operand (vs, b, one, r.after ands ors h)) =
    subst (λ y. AfterJoined before brackets a (k.Word y ∷ ts) us v) (sym ((bytes_eq-Decides x and_word).0 is)) (r.after (g.more_ands one ands) ors h)
of_joining before brackets a x ts us v false true is also (r.wants_operand (vs, b, one, r.after ands ors h)) =
    subst (λ y. AfterJoined before brackets a (k.Word y ∷ ts) us v) (sym ((bytes_eq-Decides x or_word).0 also))
    (r.after g.no_more_ands (g.more_ors (g.conj one ands) ors) h)
of_joining before brackets a x ts us v false false is also h = absurd h

of_closed : (before : Option Test) (brackets : List Pending) (a : Test) (ts us : List Token) (v : Test) →
    Moves TestRemains (m.closed brackets (either before a)) ts us v → AfterJoined before brackets a (k.Mark mark.Close ∷ ts) us v
of_closed before (p ∷ brackets) a ts us v (r.after_joined h) = r.after g.no_more_ands g.no_more_ors (r.closes h)
of_closed before [] a ts us v h = absurd h

of_joined : (before : Option Test) (brackets : List Pending) (a : Test) (t : Token) (ts us : List Token) (v : Test) →
    Moves TestRemains (m.joined before brackets a t) ts us v → AfterJoined before brackets a (t ∷ ts) us v
of_joined before brackets a (k.Word x) ts us v h = of_joining before brackets a x ts us v _ _ refl refl h
of_joined before brackets a (k.Mark mark.Close) ts us v h = of_closed before brackets a ts us v h
of_joined before brackets a _ ts us v h = absurd h

pub sound : (s : TestState) (t : Token) (ts us : List Token) (v : Test) → Moves TestRemains (test_step s t) ts us v → TestRemains s (t ∷ ts) us v
unfolding test_step
sound (st.Operand p brackets) t ts us v h = r.wants_operand (of_operand p brackets t ts us v h)
sound (st.Field p brackets x) (k.Operator op) ts us v h = of_field p brackets x op ts us v _ refl h
sound (st.Compared p brackets x how) t ts us v h = r.wants_number (of_number p brackets x how t ts us v h)
sound (st.Signed p brackets x how) (k.Number n) ts us v (r.after_joined h) = r.after_sign h
sound (st.Joined before brackets a) t ts us v h = r.after_joined (of_joined before brackets a t ts us v h)
sound _ _ ts us v h = absurd h
