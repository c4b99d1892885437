-- What the reader of declarations wants where nothing is read is a declaration.
use Rattle.std.proofs.Common.{◌≡◌, ◌↔◌, ◌+◌, Bool, true, false, List, [], ◌∷◌, ◌++◌, length, Option, Some, None, refl, sym, subst, if◌then◌else◌}
use Rattle.vx_names.specs.declared.operator.Operator.{Operator}
use Rattle.vx_names.specs.Operator.{spelling}
use Rattle.vx_syntax.specs.declared.token.Token.{Token}
use Rattle.vx_syntax.specs.declared.token.Token.TheVariants as k
use Rattle.vx_syntax.specs.declared.token.Keyword.TheVariants as w
use Rattle.vx_syntax.specs.declared.token.Mark.TheVariants as mark
use Rattle.vx_syntax.specs.declared.expr.Stmt.{Stmt}
use Rattle.vx_syntax.specs.declared.decl.Start.{Start}
use Rattle.vx_syntax.specs.declared.decl.Decl.{Decl}
use Rattle.vx_syntax.specs.declared.decl.Decl.TheVariants as d
use Rattle.vx_syntax.specs.Expressions.{Bytes, IsBody}
use Rattle.vx_syntax.specs.Declarations as g
use Rattle.vx_syntax.specs.Declarations.{formal_scope, may_go_on, field_key, method_of, IsHolder, IsBegun, IsFormal, IsFormals, IsDecl}
use Rattle.vx_phrases.specs.declared.decl_state.FieldState.TheVariants as f
use Rattle.vx_phrases.specs.declared.decl_state.Head.{Head}
use Rattle.vx_phrases.specs.declared.decl_state.Message.{Message}
use Rattle.vx_phrases.specs.declared.decl_state.Message.TheVariants as ms
use Rattle.vx_phrases.specs.declared.decl_state.MethodState.TheVariants as mt
use Rattle.vx_phrases.specs.declared.decl_state.DeclState.TheVariants as st
use Rattle.vx_phrases.specs.DeclMachine as m
use Rattle.vx_phrases.specs.DeclMachine.{given, with_formal, with_last, with_next, method_with, decl_begun}
use Rattle.vx_phrases.specs.DeclRemains as r
use Rattle.vx_phrases.specs.DeclRemains.{FieldRemains, MethodRemains, DeclRemains}

abbrev is_operator : Message → Bool
is_operator (ms.Named head) = false
is_operator (ms.Sign op) = true
is_operator (ms.Half op x specialiser) = true

abbrev name_of : Message → Bytes
name_of (ms.Named head) = head.name
name_of (ms.Sign op) = spelling op
name_of (ms.Half op x specialiser) = spelling op

-- the specialisers so far
abbrev specialised : Message → List Bytes
specialised (ms.Named head) = head.specialisers
specialised (ms.Sign op) = []
specialised (ms.Half op x specialiser) = specialiser ∷ []

held : {changeable : Bool} {x holder : Bytes} {start : Start} {ts vs us : List Token} → IsHolder ts vs holder → IsBegun vs us start →
    FieldRemains changeable (f.Named x) ts us (d.Field (field_key x holder) start changeable)
held (g.nameless holder) start = r.wants_open (r.no_formal (r.wants_holder (r.wants_close (r.may_begin start))))
held (g.with_name y holder) start = r.wants_open (r.formal (r.wants_at (r.wants_holder (r.wants_close (r.may_begin start)))))

formal_then : (message : Message) {ts vs us : List Token} {x : Option Bytes} {specialiser : Bytes} {v : Decl} → IsFormal (given message) ts vs x specialiser →
    MethodRemains (mt.Specialised message x specialiser) vs us v → MethodRemains (mt.Formal message) ts us v
formal_then message (g.unspecialised x new) h = r.has_name new (r.unspecialised h)
formal_then message (g.specialised x specialiser new) h = r.has_name new (r.specialised (r.wants_specialiser h))
formal_then message (g.nameless_formal specialiser) h = r.no_name (r.wants_specialiser h)

goes_on : (head : Head) (x : Option Bytes) (specialiser : Bytes) → may_go_on false (length head.formals + 1) ≡ true →
    with_next (ms.Named head) x specialiser ≡ Some (ms.Named (with_formal head x specialiser))
goes_on head x specialiser go =
    subst (λ b. (if b then Some (ms.Named (with_formal head x specialiser)) else None) ≡ Some (ms.Named (with_formal head x specialiser))) (sym go) refl

-- the formals that a message has so far, and whether it is an operator
data Has : Message → Bool → List (Option Bytes) → List Bytes → Type 0 where
  named : (head : Head) → Has (ms.Named head) false head.formals head.specialisers
  sign : (op : Operator) → Has (ms.Sign op) true [] []
  half : (op : Operator) (x : Option Bytes) (specialiser : Bytes) → Has (ms.Half op x specialiser) true (x ∷ []) (specialiser ∷ [])

formals_then : {operator : Bool} {before : List (Option Bytes)} {specialisers : List Bytes} {ts vs us : List Token} {xs : List (Option Bytes)} {all : List Bytes} {body : List Stmt} →
    IsFormals operator before specialisers ts (k.Mark mark.OpenBlock ∷ vs) xs all → IsBody (formal_scope xs) vs (k.Mark mark.CloseBlock ∷ us) body →
    (message : Message) → Has message operator before specialisers → MethodRemains (mt.Formal message) ts us (method_of (name_of message) xs all body)
formals_then (g.last_formal one may) body _ (named head) = formal_then (ms.Named head) one (r.last_formal refl (r.wants_body body))
formals_then (g.next_formal {x = x} {specialiser} one go more) body _ (named head) =
    formal_then (ms.Named head) one (r.next_formal (goes_on head x specialiser go) (formals_then more body _ (named (with_formal head x specialiser))))
formals_then (g.last_formal one may) body _ (sign op) = absurd (cc)
formals_then (g.next_formal {x = x} {specialiser} one go more) body _ (sign op) =
    formal_then (ms.Sign op) one (r.next_formal refl (formals_then more body _ (half op x specialiser)))
formals_then (g.last_formal one may) body _ (half op y first) = formal_then (ms.Half op y first) one (r.last_formal refl (r.wants_body body))
formals_then (g.next_formal one go more) body _ (half op y first) = absurd (cc)

decl_then : {ts us : List Token} {v : Decl} → IsDecl ts us v → DeclRemains st.Begun ts us v
decl_then (g.object x parents) = r.object (r.wants_object (r.may_inherit parents))
decl_then (g.predicate x parents one) = r.predicate (r.wants_predicate (r.wants_isa (r.wants_when (r.wanted parents) one)))
decl_then (g.field x short holder start) = r.field (r.wants_name short (held holder start))
decl_then (g.var_field x short holder start) = r.var_field (r.wants_field (r.wants_name short (held holder start)))
decl_then (g.method_of_none x body) = r.method (r.wants_name (r.wants_open (r.of_none (r.wants_body body))))
decl_then (g.method x formals body) = r.method (r.wants_name (r.wants_open (r.of_some (formals_then formals body _ (named (m.head_of x))))))
decl_then (g.operator op formals body) = r.method (r.wants_operator (r.wants_two (formals_then formals body _ (sign op))))

-- a field from its name on
record AfterFieldName (changeable : Bool) (x : Bytes) (ts us : List Token) (v : Decl) : Type 0 where
  between : List Token
  holder : Bytes
  start : Start
  holds : IsHolder ts between holder
  begins : IsBegun between us start
  means : d.Field (field_key x holder) start changeable ≡ v

field_of : {changeable : Bool} {x : Bytes} {ts us : List Token} {v : Decl} → FieldRemains changeable (f.Named x) ts us v → AfterFieldName changeable x ts us v
field_of (r.wants_open (r.no_formal (r.wants_holder {holder = holder} (r.wants_close (r.may_begin start))))) =
    record { between = _; holder = holder; start = _; holds = g.nameless holder; begins = start; means = refl }
field_of (r.wants_open (r.formal {y = y} (r.wants_at (r.wants_holder {holder = holder} (r.wants_close (r.may_begin start)))))) =
    record { between = _; holder = holder; start = _; holds = g.with_name y holder; begins = start; means = refl }

-- the formals that are left, and the body behind them
record AfterMessage (message : Message) (ts us : List Token) (v : Decl) : Type 0 where
  between : List Token
  formals : List (Option Bytes)
  specialisers : List Bytes
  body : List Stmt
  each : IsFormals (is_operator message) (given message) (specialised message) ts (k.Mark mark.OpenBlock ∷ between) formals specialisers
  inside : IsBody (formal_scope formals) between (k.Mark mark.CloseBlock ∷ us) body
  means : method_of (name_of message) formals specialisers body ≡ v

last_of : (message : Message) (x : Option Bytes) (specialiser : Bytes) (head : Head) {ts vs us : List Token} {body : List Stmt} → with_last message x specialiser ≡ Some head →
    IsFormal (given message) ts (k.Mark mark.Close ∷ k.Mark mark.OpenBlock ∷ vs) x specialiser → IsBody (formal_scope head.formals) vs (k.Mark mark.CloseBlock ∷ us) body →
    AfterMessage message ts us (method_with head body)
last_of (ms.Named before) x specialiser head {vs = vs} {us} {body} is one inside =
    let same : with_formal before x specialiser ≡ head = cc in
    record {
      between = vs;
      formals = before.formals ++ x ∷ [];
      specialisers = before.specialisers ++ specialiser ∷ [];
      body = body;
      each = g.last_formal one refl;
      inside = subst (λ h. IsBody (formal_scope h.formals) vs (k.Mark mark.CloseBlock ∷ us) body) (sym same) inside;
      means = subst (λ h. method_with (with_formal before x specialiser) body ≡ method_with h body) same refl;
    }
last_of (ms.Sign op) x specialiser head is one inside = absurd (cc)
last_of (ms.Half op y first) x specialiser head {vs = vs} {us} {body} is one inside =
    let whole : Head = record { name = spelling op; formals = y ∷ x ∷ []; specialisers = first ∷ specialiser ∷ [] } in
    let same : whole ≡ head = cc in
    record {
      between = vs;
      formals = y ∷ x ∷ [];
      specialisers = first ∷ specialiser ∷ [];
      body = body;
      each = g.last_formal one refl;
      inside = subst (λ h. IsBody (formal_scope h.formals) vs (k.Mark mark.CloseBlock ∷ us) body) (sym same) inside;
      means = subst (λ h. method_with whole body ≡ method_with h body) same refl;
    }

next_named : (head : Head) (x : Option Bytes) (specialiser : Bytes) (next : Message) {ts vs us : List Token} {v : Decl} (b : Bool) → may_go_on false (length head.formals + 1) ≡ b →
    (if b then Some (ms.Named (with_formal head x specialiser)) else None) ≡ Some next → IsFormal head.formals ts (k.Mark mark.Comma ∷ vs) x specialiser →
    AfterMessage next vs us v → AfterMessage (ms.Named head) ts us v
next_named head x specialiser next {vs = vs} {us} {v} true go is one rest =
    let same : ms.Named (with_formal head x specialiser) ≡ next = cc in
    let left = subst (λ message. AfterMessage message vs us v) (sym same) rest in
    record {
      between = left.between;
      formals = left.formals;
      specialisers = left.specialisers;
      body = left.body;
      each = g.next_formal one go left.each;
      inside = left.inside;
      means = left.means;
    }
next_named head x specialiser next false go is one rest = absurd (cc)

next_of : (message : Message) (x : Option Bytes) (specialiser : Bytes) (next : Message) {ts vs us : List Token} {v : Decl} → with_next message x specialiser ≡ Some next →
    IsFormal (given message) ts (k.Mark mark.Comma ∷ vs) x specialiser → AfterMessage next vs us v → AfterMessage message ts us v
next_of (ms.Named head) x specialiser next is one rest = next_named head x specialiser next _ refl is one rest
next_of (ms.Sign op) x specialiser next {vs = vs} {us} {v} is one rest =
    let same : ms.Half op x specialiser ≡ next = cc in
    let left = subst (λ message. AfterMessage message vs us v) (sym same) rest in
    record {
      between = left.between;
      formals = left.formals;
      specialisers = left.specialisers;
      body = left.body;
      each = g.next_formal one refl left.each;
      inside = left.inside;
      means = left.means;
    }
next_of (ms.Half op y first) x specialiser next is one rest = absurd (cc)

mutual
  formals_of : (message : Message) {ts us : List Token} {v : Decl} → MethodRemains (mt.Formal message) ts us v → AfterMessage message ts us v
  formals_of message (r.has_name {x = x} new (r.unspecialised h)) = rest_of message (g.unspecialised x new) h
  formals_of message (r.has_name {x = x} new (r.specialised (r.wants_specialiser {specialiser = specialiser} h))) = rest_of message (g.specialised x specialiser new) h
  formals_of message (r.no_name (r.wants_specialiser {specialiser = specialiser} h)) = rest_of message (g.nameless_formal specialiser) h

  rest_of : (message : Message) {x : Option Bytes} {specialiser : Bytes} {ts vs us : List Token} {v : Decl} → IsFormal (given message) ts vs x specialiser →
      MethodRemains (mt.Specialised message x specialiser) vs us v → AfterMessage message ts us v
  rest_of message {x} {specialiser} one (r.last_formal {head = head} is (r.wants_body body)) = last_of message x specialiser head is one body
  rest_of message {x} {specialiser} one (r.next_formal {next = next} is h) = next_of message x specialiser next is one (formals_of next h)

decl_of : {ts us : List Token} {v : Decl} → DeclRemains st.Begun ts us v → IsDecl ts us v
decl_of (r.object (r.wants_object {x} (r.may_inherit parents))) = g.object x parents
decl_of (r.predicate (r.wants_predicate {x} (r.wants_isa (r.wants_when (r.wanted parents) one)))) = g.predicate x parents one
decl_of {us = us} (r.field (r.wants_name {x} {ts} short h)) =
    let found = field_of h in subst (λ v. IsDecl (k.Keyword w.Field ∷ k.Word x ∷ ts) us v) found.means (g.field x short found.holds found.begins)
decl_of {us = us} (r.var_field (r.wants_field (r.wants_name {x} {ts} short h))) =
    let found = field_of h in subst (λ v. IsDecl (k.Keyword w.Var ∷ k.Keyword w.Field ∷ k.Word x ∷ ts) us v) found.means (g.var_field x short found.holds found.begins)
decl_of (r.method (r.wants_name {x} (r.wants_open (r.of_none (r.wants_body body))))) = g.method_of_none x body
decl_of {us = us} (r.method (r.wants_name {x} (r.wants_open {ts = ts} (r.of_some h)))) =
    let found = formals_of (ms.Named (m.head_of x)) h in
    subst (λ v. IsDecl (k.Keyword w.Method ∷ k.Word x ∷ k.Mark mark.Open ∷ ts) us v) found.means (g.method x found.each found.inside)
decl_of {us = us} (r.method (r.wants_operator {op} (r.wants_two {ts = ts} h))) =
    let found = formals_of (ms.Sign op) h in
    subst (λ v. IsDecl (k.Keyword w.Method ∷ k.Operator op ∷ k.Mark mark.Open ∷ ts) us v) found.means (g.operator op found.each found.inside)

pub begins : (ts us : List Token) (v : Decl) → (DeclRemains decl_begun ts us v ↔ IsDecl ts us v)
begins ts us v = (decl_of, decl_then)
