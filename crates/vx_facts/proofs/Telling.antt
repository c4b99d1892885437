-- On the facts that tell two declarations of one key apart these don't say the same.
use Rattle.std.proofs.Common.{◌≡◌, Bool, true, false, not, ◌&&◌, if◌then◌else◌, List, [], ◌∷◌, Option, Some, None, refl, sym, ap, ◌∙◌, subst, inl, inr, arith}
use Rattle.std.specs.Cmp.{Equal-is, tied_itself}
use Rattle.std.specs.Str.{bytes_eq}
use Rattle.std.proofs.lemmas.Bool.{cases_Bool, cond-true, cond-false, or_left, or_right, false_from_ne_true}
use Rattle.vx_lists.specs.Members.{IsIn}
use Rattle.vx_lists.proofs.Members.{in_either}
use Rattle.vx_lists.proofs.Texts.{bytes_same}
use Rattle.vx_names.specs.declared.key.MethodKey.{MethodKey}
use Rattle.vx_names.specs.declared.key.FieldKey.{FieldKey}
use Rattle.vx_names.specs.declared.key.DeclKey.TheVariants as k
use Rattle.vx_names.specs.Key.{selector_cmp, key_name}
use Rattle.vx_names.specs.KeyLaws.{selectors_total}
use Rattle.vx_syntax.specs.declared.decl.Decl.{Decl}
use Rattle.vx_syntax.specs.declared.decl.Decl.TheVariants as d
use Rattle.vx_syntax.specs.declared.decl.Start.{Start}
use Rattle.vx_syntax.specs.declared.expr.Body.{Body}
use Rattle.vx_syntax.specs.Expressions.{Bytes}
use Rattle.vx_syntax.specs.Keys.{key_of}
use Rattle.vx_program.specs.Program.{is_named, is_name_of, parents_of, is_method_of, occupies, getter, setter}
use Rattle.vx_program.proofs.ByKey.{occupies_is, is_occupied}
use Rattle.vx_node.specs.declared.node.Fact.{Fact}
use Rattle.vx_node.specs.declared.node.Fact.TheVariants as fact
use Rattle.vx_node.specs.declared.answer.Known.{Known}
use Rattle.vx_node.specs.declared.answer.Stands.{Stands}
use Rattle.vx_node.specs.declared.kind.Kind.TheVariants as kinds
use Rattle.vx_answers.specs.Facts.{known_as}
use Rattle.vx_facts.specs.Standing.{stands_as}
use Rattle.vx_facts.specs.Differences.{parents_there, can_change, unless_there, children_alone, object_alone, field_alone, method_alone, said_alone}
use Rattle.vx_facts.proofs.Speaking.{said_by}
use Rattle.vx_facts.proofs.Sayings.{if_said, if_so, said_known, said_there, said_child, said_field, said_text, Text}
use Rattle.vx_facts.proofs.HeadsSaid.{Head, either_said, said_head, one_accessor, makes}
use Rattle.vx_facts.proofs.Agreeing.{Agree, known_said, field_said, text_said}

-- a child of one alone
pub child_alone : (xs others : List Bytes) (one : Fact) → IsIn one (children_alone xs others) →
    (x : Bytes) × (fact.Children x ≡ one) × (is_name_of xs x ≡ true) × (is_name_of others x ≡ false)
child_alone [] others one i = absurd i
child_alone (x ∷ xs) others one i =
    elim (cases_Bool (is_name_of others x)) [
      | inl t ↦
          let r = child_alone xs others one
          (subst (IsIn one) (cond-true (is_name_of others x) (children_alone xs others) (fact.Children x ∷ children_alone xs others) t) i) in
          (r.0, r.1, or_right (bytes_eq x r.0) (is_name_of xs r.0) r.2, r.3)
      | inr f ↦
          elim (subst (IsIn one) (cond-false (is_name_of others x) (children_alone xs others) (fact.Children x ∷ children_alone xs others) f) i) [
            | inl e ↦ (x, e, or_left (bytes_eq x x) (is_name_of xs x) (bytes_same x x refl), f)
            | inr j ↦
                let r = child_alone xs others one j in (r.0, r.1, or_right (bytes_eq x r.0) (is_name_of xs r.0) r.2, r.3)
          ]
    ]

-- a selector is its own
pub selects : (key : MethodKey) → is_method_of key.selector (k.Method key) ≡ true
selects key = (Equal-is (selector_cmp key.selector key.selector)).1 (tied_itself selectors_total key.selector)

-- ---- where the same is said of what a declaration holds, it is the same declaration

known_there : (x : Bytes) (decl : Decl) (other : Option Decl) (s : Known) → said_known x decl ≡ Some s →
    Agree (fact.Decl x) (Some decl) other → Some decl ≡ other
known_there x decl None s says agree = absurd (cc)
known_there x decl (Some own) s says agree = ap Some (known_said x decl s says ∙ sym (known_said x own s (sym agree ∙ says)))

field_there : (x : Bytes) (decl : Decl) (other : Option Decl) (s : Bytes × Start × Bool) → said_field x decl ≡ Some s →
    Agree (fact.Fields x) (Some decl) other → Some decl ≡ other
field_there x decl None s says agree = absurd (cc)
field_there x decl (Some own) s says agree = ap Some (field_said x decl s says ∙ sym (field_said x own s (sym agree ∙ says)))

text_there : (key : MethodKey) (decl : Decl) (other : Option Decl) (s : Option Text) → said_text key decl ≡ Some s →
    Agree (fact.Body key) (Some decl) other → Some decl ≡ other
text_there key decl None s says agree = absurd (cc)
text_there key decl (Some own) s says agree = ap Some (text_said key decl s says ∙ sym (text_said key own s (sym agree ∙ says)))

-- ---- objects and predicates

no_child : (x : Bytes) (other : Option Decl) → is_name_of (parents_there other) x ≡ false → said_by (said_child x) other ≡ None
no_child x None f = refl
no_child x (Some own) f = ap (λ b. if_said b (key_name (key_of own), stands_as own)) f

child_apart : (x : Bytes) (decl : Decl) (other : Option Decl) → is_name_of (parents_of decl) x ≡ true → is_name_of (parents_there other) x ≡ false →
    Agree (fact.Children x) (Some decl) other → ⊥
child_apart x decl other t f agree =
    let child : Bytes × Stands = (key_name (key_of decl), stands_as decl) in
    let says : said_child x decl ≡ Some child = if_so (is_name_of (parents_of decl) x) child t in
    let silent : said_child x decl ≡ None = agree ∙ no_child x other f in
    cc

module _ (x : Bytes) (decl : Decl) (named : is_named x decl ≡ true) where
  there_apart : (other : Option Decl) (one : Fact) → IsIn one (unless_there other (fact.There x)) →
      Agree one (Some decl) other → ⊥
  there_apart None one (inl e) agree =
      let says : said_there x decl ≡ Some (stands_as decl) = if_so (is_named x decl) (stands_as decl) named in
      let silent : said_there x decl ≡ None = subst (λ z. Agree z (Some decl) None) (sym e) agree in
      cc
  there_apart None one (inr i) agree = i
  there_apart (Some own) one i agree = i

  object_apart : (other : Option Decl) → (Some decl ≡ other → ⊥) → (one : Fact) →
      IsIn one (object_alone x (parents_of decl) other) → Agree one (Some decl) other → ⊥
  object_apart other apart one i agree =
      elim (in_either one (fact.Decl x ∷ unless_there other (fact.There x)) (children_alone (parents_of decl) (parents_there other)) i) [
        | inl j ↦
            elim j [
              | inl e ↦
                  apart (known_there x decl other (known_as decl) (if_so (is_named x decl) (known_as decl) named)
                  (subst (λ z. Agree z (Some decl) other) (sym e) agree))
              | inr l ↦ there_apart other one l agree
            ]
        | inr j ↦
            let r = child_alone (parents_of decl) (parents_there other) one j in
            child_apart r.0 decl other r.2 r.3 (subst (λ z. Agree z (Some decl) other) (sym r.1) agree)
      ]

-- ---- fields

reads_said : (key : FieldKey) (start : Start) (changeable : Bool) →
    said_head (getter key).selector (d.Field key start changeable) ≡ Some (getter key, kinds.Get key)
reads_said key start changeable =
    ap (λ b. either_said (if_said b (getter key, kinds.Get key))
    (if_said (changeable && is_method_of (getter key).selector (k.Method (setter key))) (setter key, kinds.Set key))) (selects (getter key))

sets_said : (key : FieldKey) (start : Start) → said_head (setter key).selector (d.Field key start true) ≡ Some (setter key, kinds.Set key)
sets_said key start =
    let selector = (setter key).selector in
    let reads : is_method_of (setter key).selector (k.Method (getter key)) ≡ false =
    false_from_ne_true (is_method_of (setter key).selector (k.Method (getter key))) (λ t. one_accessor (setter key).selector key t (selects (setter key))) in
    ap (λ b. either_said (if_said b (getter key, kinds.Get key)) (if_said (is_method_of selector (k.Method (setter key))) (setter key, kinds.Set key))) reads
    ∙ ap (λ b. if_said b (setter key, kinds.Set key)) (selects (setter key))

-- what can't be changed is set by no method
sets_not : (own : Decl) (key : FieldKey) → key_of own ≡ k.Field key → can_change (Some own) ≡ false → occupies own (k.Method (setter key)) ≡ true → ⊥
sets_not (d.Object x parents) key e f t = cc
sets_not (d.Predicate x parents test) key e f t = cc
sets_not (d.Method x formals body) key e f t = cc
sets_not (d.Field own start changeable) key e f t =
    elim (occupies_is (d.Field own start false) (k.Method (setter key)) (subst (λ c. occupies (d.Field own start c) (k.Method (setter key)) ≡ true) f t)) [
      | inl same ↦ absurd (cc)
      | inr i ↦
          elim i [
            | inl same ↦
                let keys : getter own ≡ setter key = cc in
                let arity : 1 ≡ 2 = ap (λ (z : MethodKey). z.selector.arity) keys in
                absurd (omega (arith, arity))
            | inr j ↦ j
          ]
    ]

module _ (key : FieldKey) (start : Start) where
  reads_apart : (changeable : Bool) (other : Option Decl) (one : Fact) →
      IsIn one (unless_there other (fact.Heads (getter key).selector)) → Agree one (Some (d.Field key start changeable)) other → ⊥
  reads_apart changeable None one (inl e) agree =
      let says : said_head (getter key).selector (d.Field key start changeable) ≡ Some (getter key, kinds.Get key) = reads_said key start changeable in
      let silent : said_head (getter key).selector (d.Field key start changeable) ≡ None =
      subst (λ z. Agree z (Some (d.Field key start changeable)) None) (sym e) agree in
      cc
  reads_apart changeable None one (inr i) agree = i
  reads_apart changeable (Some own) one i agree = i

  sets_apart : (other : Option Decl) → can_change other ≡ false →
      Agree (fact.Heads (setter key).selector) (Some (d.Field key start true)) other → ⊥
  sets_apart None f agree =
      let says : said_head (setter key).selector (d.Field key start true) ≡ Some (setter key, kinds.Set key) = sets_said key start in
      let silent : said_head (setter key).selector (d.Field key start true) ≡ None = agree in
      cc
  sets_apart (Some own) f agree =
      let it = makes (setter key).selector own (setter key, kinds.Set key) (sym agree ∙ sets_said key start) in
      sets_not own key it.has_key f it.is_made

  changes_apart : (changeable : Bool) (other : Option Decl) (one : Fact) →
      IsIn one (if changeable && not (can_change other) then fact.Heads (setter key).selector ∷ [] else []) →
      Agree one (Some (d.Field key start changeable)) other → ⊥
  changes_apart false other one i agree = i
  changes_apart true other one i agree =
      elim (cases_Bool (can_change other)) [
        | inl t ↦ subst (λ b. IsIn one (if not b then fact.Heads (setter key).selector ∷ [] else [])) t i
        | inr f ↦
            elim (subst (λ b. IsIn one (if not b then fact.Heads (setter key).selector ∷ [] else [])) f i) [
              | inl e ↦ sets_apart other f (subst (λ z. Agree z (Some (d.Field key start true)) other) (sym e) agree)
              | inr j ↦ j
            ]
      ]

  field_apart : (changeable : Bool) (other : Option Decl) → (Some (d.Field key start changeable) ≡ other → ⊥) →
      (one : Fact) → IsIn one (field_alone key changeable other) → Agree one (Some (d.Field key start changeable)) other → ⊥
  field_apart changeable other apart one i agree =
      elim (in_either one (fact.Fields key.specialiser ∷ unless_there other (fact.Heads (getter key).selector))
      (if changeable && not (can_change other) then fact.Heads (setter key).selector ∷ [] else []) i) [
        | inl j ↦
            elim j [
              | inl e ↦
                  apart (field_there key.specialiser (d.Field key start changeable) other (key.name, start, changeable)
                  (if_so (bytes_eq key.specialiser key.specialiser) (key.name, start, changeable) (bytes_same key.specialiser key.specialiser refl))
                  (subst (λ z. Agree z (Some (d.Field key start changeable)) other) (sym e) agree))
              | inr l ↦ reads_apart changeable other one l agree
            ]
        | inr j ↦ changes_apart changeable other one j agree
      ]

-- ---- methods

module _ (key : MethodKey) (formals : List (Option Bytes)) (body : Body) where
  method_apart : (other : Option Decl) → (Some (d.Method key formals body) ≡ other → ⊥) →
      (one : Fact) → IsIn one (method_alone key other) → Agree one (Some (d.Method key formals body)) other → ⊥
  method_apart other apart one (inl e) agree =
      apart (text_there key (d.Method key formals body) other (Some (formals, body))
      (if_so (occupies (d.Method key formals body) (k.Method key)) (Some (formals, body)) (is_occupied (d.Method key formals body) (k.Method key) (inl refl)))
      (subst (λ z. Agree z (Some (d.Method key formals body)) other) (sym e) agree))
  method_apart None apart one (inr (inl e)) agree =
      let head : Head = (key, kinds.Source) in
      let says : said_head key.selector (d.Method key formals body) ≡ Some head = if_so (is_method_of key.selector (k.Method key)) head (selects key) in
      let silent : said_head key.selector (d.Method key formals body) ≡ None =
      subst (λ z. Agree z (Some (d.Method key formals body)) None) (sym e) agree in
      cc
  method_apart None apart one (inr (inr i)) agree = i
  method_apart (Some own) apart one (inr i) agree = i

-- a fact that one alone says something of, or something else
pub alone_apart : (decl : Decl) (other : Option Decl) → (Some decl ≡ other → ⊥) → (one : Fact) → IsIn one (said_alone decl other) →
    Agree one (Some decl) other → ⊥
alone_apart (d.Object x parents) other = object_apart x (d.Object x parents) (bytes_same x x refl) other
alone_apart (d.Predicate x parents test) other = object_apart x (d.Predicate x parents test) (bytes_same x x refl) other
alone_apart (d.Field key start changeable) other = field_apart key start changeable other
alone_apart (d.Method key formals body) other = method_apart key formals body other
