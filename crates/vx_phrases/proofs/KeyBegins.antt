-- What the reader of keys wants where nothing is read is a key, and each of its states can be completed.
use Rattle.std.proofs.Common.{◌≡◌, ◌↔◌, ◌+◌, Bool, true, false, List, [], ◌∷◌, ◌++◌, length, Some, None, refl, sym, subst, arith, if◌then◌else◌}
use Rattle.vx_names.specs.declared.operator.Operator.{Operator}
use Rattle.vx_names.specs.declared.key.FieldKey.{FieldKey}
use Rattle.vx_names.specs.declared.key.DeclKey.{DeclKey}
use Rattle.vx_names.specs.declared.key.DeclKey.TheVariants as y
use Rattle.vx_names.specs.Operator.{spelling}
use Rattle.vx_syntax.specs.declared.token.Token.{Token}
use Rattle.vx_syntax.specs.declared.token.Token.TheVariants as k
use Rattle.vx_syntax.specs.declared.token.Keyword.TheVariants as w
use Rattle.vx_syntax.specs.declared.token.Mark.TheVariants as mark
use Rattle.vx_syntax.specs.Expressions.{Bytes}
use Rattle.vx_syntax.specs.Declarations as g
use Rattle.vx_syntax.specs.Declarations.{may_go_on, field_key, method_key, IsSpecialisers, IsKey}
use Rattle.vx_phrases.specs.declared.key_state.KeyMessage.{KeyMessage}
use Rattle.vx_phrases.specs.declared.key_state.KeyMessage.TheVariants as ms
use Rattle.vx_phrases.specs.declared.key_state.KeyState.{KeyState}
use Rattle.vx_phrases.specs.declared.key_state.KeyState.TheVariants as st
use Rattle.vx_phrases.specs.Laws.{Completion}
use Rattle.vx_phrases.specs.KeyMachine.{key_begun, with_last, with_next}
use Rattle.vx_phrases.specs.KeyRemains as r
use Rattle.vx_phrases.specs.KeyRemains.{KeyRemains}
use Rattle.vx_phrases.proofs.Completions.{then_token, letter, letter_is_word}

abbrev is_operator : KeyMessage → Bool
is_operator (ms.Named x given) = false
is_operator (ms.Sign op) = true
is_operator (ms.Half op first) = true

abbrev name_of : KeyMessage → Bytes
name_of (ms.Named x given) = x
name_of (ms.Sign op) = spelling op
name_of (ms.Half op first) = spelling op

-- the specialisers so far
abbrev specialised : KeyMessage → List Bytes
specialised (ms.Named x given) = given
specialised (ms.Sign op) = []
specialised (ms.Half op first) = first ∷ []

-- the specialisers that a message has so far, and whether it is an operator
data Has : KeyMessage → Bool → List Bytes → Type 0 where
  named : (x : Bytes) (given : List Bytes) → Has (ms.Named x given) false given
  sign : (op : Operator) → Has (ms.Sign op) true []
  half : (op : Operator) (first : Bytes) → Has (ms.Half op first) true (first ∷ [])

goes_on : (x : Bytes) (given : List Bytes) (specialiser : Bytes) → may_go_on false (length given + 1) ≡ true →
    with_next (ms.Named x given) specialiser ≡ Some (ms.Named x (given ++ specialiser ∷ []))
goes_on x given specialiser go =
    subst (λ b. (if b then Some (ms.Named x (given ++ specialiser ∷ [])) else None) ≡ Some (ms.Named x (given ++ specialiser ∷ []))) (sym go) refl

specialisers_then : {operator : Bool} {before all : List Bytes} {ts us : List Token} → IsSpecialisers operator before ts us all →
    (message : KeyMessage) → Has message operator before → KeyRemains (st.Specialiser message) ts us (y.Method (method_key (name_of message) all))
specialisers_then (g.last_specialiser specialiser may) _ (named x given) = r.wants_sign (r.wants_specialiser (r.last_specialiser refl r.is_whole))
specialisers_then (g.next_specialiser specialiser go more) _ (named x given) =
    r.wants_sign (r.wants_specialiser (r.next_specialiser (goes_on x given specialiser go) (specialisers_then more _ (named x (given ++ specialiser ∷ [])))))
specialisers_then (g.last_specialiser specialiser may) _ (sign op) = absurd (cc)
specialisers_then (g.next_specialiser specialiser go more) _ (sign op) =
    r.wants_sign (r.wants_specialiser (r.next_specialiser refl (specialisers_then more _ (half op specialiser))))
specialisers_then (g.last_specialiser specialiser may) _ (half op first) = r.wants_sign (r.wants_specialiser (r.last_specialiser refl r.is_whole))
specialisers_then (g.next_specialiser specialiser go more) _ (half op first) = absurd (cc)

-- the first specialiser of a name
opened : {x : Bytes} {ts us : List Token} {v : DeclKey} → KeyRemains (st.Specialiser (ms.Named x [])) ts us v → KeyRemains (st.MethodOpen x) ts us v
opened (r.wants_sign h) = r.of_some h

key_then : {ts us : List Token} {v : DeclKey} → IsKey ts us v → KeyRemains st.Begun ts us v
key_then (g.object_key x) = r.object r.wants_object
key_then (g.predicate_key x) = r.predicate r.wants_predicate
key_then (g.key_of_field x specialiser short) = r.field (r.wants_field short (r.wants_open (r.wants_at (r.wants_holder r.wants_close))))
key_then (g.key_of_none x) = r.method (r.wants_name (r.wants_specialisers r.of_none))
key_then (g.key_of_method x all) = r.method (r.wants_name (r.wants_specialisers (opened (specialisers_then all _ (named x [])))))
key_then (g.key_of_operator op all) = r.method (r.wants_operator (r.wants_two (specialisers_then all _ (sign op))))

-- the specialisers that are left
record AfterMessage (message : KeyMessage) (ts us : List Token) (v : DeclKey) : Type 0 where
  all : List Bytes
  each : IsSpecialisers (is_operator message) (specialised message) ts us all
  means : y.Method (method_key (name_of message) all) ≡ v

whole_of : {key v : DeclKey} {ts us : List Token} → KeyRemains (st.Whole key) ts us v → (ts ≡ us) × (key ≡ v)
whole_of r.is_whole = (refl, refl)

-- the rest after the last specialiser
last_of : (message : KeyMessage) (x : Bytes) (next : KeyState) {ts us : List Token} {v : DeclKey} → with_last message x ≡ Some next → KeyRemains next ts us v →
    AfterMessage message (k.Mark mark.At ∷ k.Word x ∷ k.Mark mark.Close ∷ ts) us v
last_of (ms.Named name given) x next {ts} {us} {v} is h =
    let same : st.Whole (y.Method (method_key name (given ++ x ∷ []))) ≡ next = cc in
    let found = whole_of (subst (λ s. KeyRemains s ts us v) (sym same) h) in
    record {
      all = given ++ x ∷ [];
      each = subst (λ l. IsSpecialisers false given (k.Mark mark.At ∷ k.Word x ∷ k.Mark mark.Close ∷ ts) l (given ++ x ∷ [])) found.0 (g.last_specialiser x refl);
      means = found.1;
    }
last_of (ms.Sign op) x next is h = absurd (cc)
last_of (ms.Half op first) x next {ts} {us} {v} is h =
    let same : st.Whole (y.Method (method_key (spelling op) (first ∷ x ∷ []))) ≡ next = cc in
    let found = whole_of (subst (λ s. KeyRemains s ts us v) (sym same) h) in
    record {
      all = first ∷ x ∷ [];
      each = subst (λ l. IsSpecialisers true (first ∷ []) (k.Mark mark.At ∷ k.Word x ∷ k.Mark mark.Close ∷ ts) l (first ∷ x ∷ [])) found.0 (g.last_specialiser x refl);
      means = found.1;
    }

next_named : (name : Bytes) (given : List Bytes) (x : Bytes) (next : KeyMessage) {ts us : List Token} {v : DeclKey} (b : Bool) → may_go_on false (length given + 1) ≡ b →
    (if b then Some (ms.Named name (given ++ x ∷ [])) else None) ≡ Some next → AfterMessage next ts us v →
    AfterMessage (ms.Named name given) (k.Mark mark.At ∷ k.Word x ∷ k.Mark mark.Comma ∷ ts) us v
next_named name given x next {ts} {us} {v} true go is rest =
    let same : ms.Named name (given ++ x ∷ []) ≡ next = cc in
    let left = subst (λ message. AfterMessage message ts us v) (sym same) rest in
    record { all = left.all; each = g.next_specialiser x go left.each; means = left.means }
next_named name given x next false go is rest = absurd (cc)

next_of : (message : KeyMessage) (x : Bytes) (next : KeyMessage) {ts us : List Token} {v : DeclKey} → with_next message x ≡ Some next → AfterMessage next ts us v →
    AfterMessage message (k.Mark mark.At ∷ k.Word x ∷ k.Mark mark.Comma ∷ ts) us v
next_of (ms.Named name given) x next is rest = next_named name given x next _ refl is rest
next_of (ms.Sign op) x next {ts} {us} {v} is rest =
    let same : ms.Half op x ≡ next = cc in
    let left = subst (λ message. AfterMessage message ts us v) (sym same) rest in
    record { all = left.all; each = g.next_specialiser x refl left.each; means = left.means }
next_of (ms.Half op first) x next is rest = absurd (cc)

specialisers_of : (message : KeyMessage) {ts us : List Token} {v : DeclKey} → KeyRemains (st.Specialiser message) ts us v → AfterMessage message ts us v
specialisers_of message (r.wants_sign (r.wants_specialiser {x = x} (r.last_specialiser {next = next} is h))) = last_of message x next is h
specialisers_of message (r.wants_sign (r.wants_specialiser {x = x} (r.next_specialiser {next = next} is h))) = next_of message x next is (specialisers_of next h)

key_of : {ts us : List Token} {v : DeclKey} → KeyRemains st.Begun ts us v → IsKey ts us v
key_of (r.object (r.wants_object {x})) = g.object_key x
key_of (r.predicate (r.wants_predicate {x})) = g.predicate_key x
key_of (r.field (r.wants_field {x} short (r.wants_open (r.wants_at (r.wants_holder {holder = holder} r.wants_close))))) = g.key_of_field x holder short
key_of (r.method (r.wants_name {x} (r.wants_specialisers r.of_none))) = g.key_of_none x
key_of {us = us} (r.method (r.wants_name {x} (r.wants_specialisers (r.of_some {ts = ts} h)))) =
    let found = specialisers_of (ms.Named x []) (r.wants_sign h) in
    subst (λ v. IsKey (k.Keyword w.Method ∷ k.Word x ∷ k.Mark mark.Open ∷ k.Mark mark.At ∷ ts) us v) found.means (g.key_of_method x found.each)
key_of {us = us} (r.method (r.wants_operator {op} (r.wants_two {ts = ts} h))) =
    let found = specialisers_of (ms.Sign op) h in
    subst (λ v. IsKey (k.Keyword w.Method ∷ k.Operator op ∷ k.Mark mark.Open ∷ ts) us v) found.means (g.key_of_operator op found.each)

pub begins : (ts us : List Token) (v : DeclKey) → (KeyRemains key_begun ts us v ↔ IsKey ts us v)
begins ts us v = (key_of, key_then)

whole : (v : DeclKey) → Completion (KeyRemains (st.Whole v))
whole v = record { tokens = []; value = v; each = tt; completes = λ us. r.is_whole }

holder_finish : (key : FieldKey) → Completion (KeyRemains (st.FieldHolder key))
holder_finish key = record { tokens = k.Mark mark.Close ∷ []; value = y.Field key; each = (tt, tt); completes = λ us. r.wants_close }

field_at_finish : (x : Bytes) → Completion (KeyRemains (st.FieldAt x))
field_at_finish x = then_token (k.Word letter) letter_is_word (λ ts us v h. r.wants_holder h) (holder_finish (field_key x letter))

field_open_finish : (x : Bytes) → Completion (KeyRemains (st.FieldOpen x))
field_open_finish x = then_token (k.Mark mark.At) tt (λ ts us v h. r.wants_at h) (field_at_finish x)

field_named_finish : (x : Bytes) → Completion (KeyRemains (st.FieldNamed x))
field_named_finish x = then_token (k.Mark mark.Open) tt (λ ts us v h. r.wants_open h) (field_open_finish x)

object_finish : Completion (KeyRemains st.Object)
object_finish = record { tokens = k.Word letter ∷ []; value = y.Object letter; each = (letter_is_word, tt); completes = λ us. r.wants_object }

open_finish : (x : Bytes) → Completion (KeyRemains (st.MethodOpen x))
open_finish x = record { tokens = k.Mark mark.Close ∷ []; value = y.Method (method_key x []); each = (tt, tt); completes = λ us. r.of_none }

named_finish : (x : Bytes) → Completion (KeyRemains (st.MethodNamed x))
named_finish x = then_token (k.Mark mark.Open) tt (λ ts us v h. r.wants_specialisers h) (open_finish x)

-- a specialiser, and what follows it
letter_finish : (message : KeyMessage) → Completion (KeyRemains (st.Specialised message letter)) → Completion (KeyRemains (st.At message))
letter_finish message found = then_token (k.Word letter) letter_is_word (λ ts us v h. r.wants_specialiser h) found

half_finish : (op : Operator) (first x : Bytes) → Completion (KeyRemains (st.Specialised (ms.Half op first) x))
half_finish op first x = then_token (k.Mark mark.Close) tt (λ ts us v h. r.last_specialiser refl h) (whole (y.Method (method_key (spelling op) (first ∷ x ∷ []))))

specialised_finish : (message : KeyMessage) (x : Bytes) → Completion (KeyRemains (st.Specialised message x))
specialised_finish (ms.Named name given) x =
    then_token (k.Mark mark.Close) tt (λ ts us v h. r.last_specialiser refl h) (whole (y.Method (method_key name (given ++ x ∷ []))))
specialised_finish (ms.Sign op) x =
    then_token (k.Mark mark.Comma) tt (λ ts us v h. r.next_specialiser refl h)
    (then_token (k.Mark mark.At) tt (λ ts us v h. r.wants_sign h) (letter_finish (ms.Half op x) (half_finish op x letter)))
specialised_finish (ms.Half op first) x = half_finish op first x

at_finish : (message : KeyMessage) → Completion (KeyRemains (st.At message))
at_finish message = letter_finish message (specialised_finish message letter)

specialiser_finish : (message : KeyMessage) → Completion (KeyRemains (st.Specialiser message))
specialiser_finish message = then_token (k.Mark mark.At) tt (λ ts us v h. r.wants_sign h) (at_finish message)

-- Each state can be completed.
pub finish : (s : KeyState) → Completion (KeyRemains s)
finish st.Begun = then_token (k.Keyword w.Object) tt (λ ts us v h. r.object h) object_finish
finish st.Object = object_finish
finish st.Predicate = record { tokens = k.Word letter ∷ []; value = y.Predicate letter; each = (letter_is_word, tt); completes = λ us. r.wants_predicate }
finish st.Field = then_token (k.Word letter) letter_is_word (λ ts us v h. r.wants_field (omega arith) h) (field_named_finish letter)
finish (st.FieldNamed x) = field_named_finish x
finish (st.FieldOpen x) = field_open_finish x
finish (st.FieldAt x) = field_at_finish x
finish (st.FieldHolder key) = holder_finish key
finish st.Method = then_token (k.Word letter) letter_is_word (λ ts us v h. r.wants_name h) (named_finish letter)
finish (st.MethodNamed x) = named_finish x
finish (st.MethodSign op) = then_token (k.Mark mark.Open) tt (λ ts us v h. r.wants_two h) (specialiser_finish (ms.Sign op))
finish (st.MethodOpen x) = open_finish x
finish (st.Specialiser message) = specialiser_finish message
finish (st.At message) = at_finish message
finish (st.Specialised message x) = specialised_finish message x
finish (st.Whole key) = whole key
