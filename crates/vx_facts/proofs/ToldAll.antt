-- Two declarations of one key say the same of all facts but those that tell them apart.
use Rattle.std.proofs.Common.{◌≡◌, ◌∙◌, ◌⊎◌, refl, sym, ap, subst, inl, inr}
use Rattle.std.proofs.Common.{Bool, true, false, not, ◌&&◌, if◌then◌else◌, List, [], ◌∷◌, ◌++◌, Option, Some, None}
use Rattle.std.specs.Str.{bytes_eq}
use Rattle.std.proofs.lemmas.Bool.{cases_Bool, cond-true, cond-false, both_ways, and_parts, and_from, or_cases, false≢true}
use Rattle.vx_lists.specs.Members.{IsIn}
use Rattle.vx_lists.proofs.Members.{in_either, in_front, in_behind}
use Rattle.vx_lists.proofs.Texts.{same_bytes}
use Rattle.vx_names.specs.declared.key.Selector.{Selector}
use Rattle.vx_names.specs.declared.key.MethodKey.{MethodKey}
use Rattle.vx_names.specs.declared.key.FieldKey.{FieldKey}
use Rattle.vx_names.specs.declared.key.DeclKey.{DeclKey}
use Rattle.vx_names.specs.declared.key.DeclKey.TheVariants as k
use Rattle.vx_names.specs.Key.{key_name}
use Rattle.vx_syntax.specs.declared.decl.Decl.{Decl}
use Rattle.vx_syntax.specs.declared.decl.Decl.TheVariants as d
use Rattle.vx_syntax.specs.declared.decl.Start.{Start}
use Rattle.vx_syntax.specs.declared.expr.Body.{Body}
use Rattle.vx_syntax.specs.declared.test.Test.{Test}
use Rattle.vx_syntax.specs.Expressions.{Bytes}
use Rattle.vx_syntax.specs.Keys.{key_of}
use Rattle.vx_program.specs.Program.{is_named, is_name_of, parents_of, is_method_of, occupies, getter, setter}
use Rattle.vx_program.proofs.ByKey.{same_names, same_selector}
use Rattle.vx_node.specs.declared.node.Fact.{Fact}
use Rattle.vx_node.specs.declared.node.Fact.TheVariants as fact
use Rattle.vx_node.specs.declared.answer.Known.TheVariants as known
use Rattle.vx_node.specs.declared.answer.Stands.{Stands}
use Rattle.vx_node.specs.declared.answer.Stands.TheVariants as h
use Rattle.vx_node.specs.declared.kind.Kind.TheVariants as kinds
use Rattle.vx_facts.specs.Standing.{stands_as}
use Rattle.vx_facts.specs.Differences.{parents_there, can_change, unless_there, children_alone, field_alone, said_alone, said_if_there, HaveOneKey}
use Rattle.vx_facts.proofs.Sayings.{if_said, said_there, said_child}
use Rattle.vx_facts.proofs.HeadsSaid.{Head, either_said}
use Rattle.vx_facts.proofs.Agreeing.{Agree, agree_same, agree_back, agree_on, own_key}
use Rattle.vx_facts.proofs.Telling.{alone_apart}

-- a child of one alone is told
alone_child : (xs others : List Bytes) (x : Bytes) → is_name_of xs x ≡ true → is_name_of others x ≡ false →
    IsIn (fact.Children x) (children_alone xs others)
alone_child [] others x t f = absurd (false≢true t)
alone_child (own ∷ xs) others x t f =
    elim (cases_Bool (is_name_of others own)) [
      | inl s ↦
          subst (IsIn (fact.Children x)) (sym (cond-true (is_name_of others own) (children_alone xs others) (fact.Children own ∷ children_alone xs others) s))
          (elim (or_cases (bytes_eq own x) (is_name_of xs x) t) [
            | inl e ↦ absurd (both_ways (is_name_of others x) f (subst (λ z. is_name_of others z ≡ true) (same_bytes own x e) s))
            | inr more ↦ alone_child xs others x more f
          ])
      | inr s ↦
          subst (IsIn (fact.Children x)) (sym (cond-false (is_name_of others own) (children_alone xs others) (fact.Children own ∷ children_alone xs others) s))
          (elim (or_cases (bytes_eq own x) (is_name_of xs x) t) [
            | inl e ↦ inl (ap fact.Children (same_bytes own x e))
            | inr more ↦ inr (alone_child xs others x more f)
          ])
    ]

-- ---- what the key tells

abbrev stands_by : DeclKey → Stands
stands_by (k.Object x) = h.Plain
stands_by (k.Predicate x) = h.Predicate
stands_by (k.Field key) = h.Nothing
stands_by (k.Method key) = h.Nothing

stands_is : (decl : Decl) → stands_as decl ≡ stands_by (key_of decl)
stands_is (d.Object x parents) = refl
stands_is (d.Predicate x parents test) = refl
stands_is (d.Field key start changeable) = refl
stands_is (d.Method key formals body) = refl

same_stands : (a b : Decl) → key_of a ≡ key_of b → stands_as a ≡ stands_as b
same_stands a b e = stands_is a ∙ ap stands_by e ∙ sym (stands_is b)

same_there : (x : Bytes) (a b : Decl) → key_of a ≡ key_of b → said_there x a ≡ said_there x b
same_there x a b e = ap (λ t. if_said t (stands_as a)) (same_names x a b e) ∙ ap (λ z. if_said (is_named x b) z) (same_stands a b e)

same_child : (x : Bytes) (a b : Decl) → key_of a ≡ key_of b → is_name_of (parents_of a) x ≡ is_name_of (parents_of b) x → said_child x a ≡ said_child x b
same_child x a b e t =
    ap (λ c. if_said c (key_name (key_of a), stands_as a)) t
    ∙ ap (λ z. if_said (is_name_of (parents_of b) x) (key_name z, stands_as a)) e
    ∙ ap (λ z. if_said (is_name_of (parents_of b) x) (key_name (key_of b), z)) (same_stands a b e)

-- ---- each kind of declaration

-- it is told, or nothing is said of it, or the same as the other says
abbrev Told : Decl → Option Decl → Fact → Type 0
Told decl other one = IsIn one (said_alone decl other) ⊎ (Agree one (Some decl) None ⊎ Agree one (Some decl) other)

-- whose name, key or specialiser it is, or nothing is said
by_name : {S : Type 0} {In Same : Type 0} (x y : Bytes) (s : S) → (x ≡ y → In) → In ⊎ ((if_said (bytes_eq x y) s ≡ None) ⊎ Same)
by_name x y s told =
    elim (cases_Bool (bytes_eq x y)) [
      | inl t ↦ inl (told (same_bytes x y t))
      | inr f ↦ inr (inl (ap (λ b. if_said b s) f))
    ]

child_both : (decl : Decl) (other : Option Decl) → HaveOneKey (Some decl) other → (x : Bytes) → is_name_of (parents_of decl) x ≡ true →
    is_name_of (parents_there other) x ≡ true → Agree (fact.Children x) (Some decl) other
child_both decl None key x t s = absurd (false≢true s)
child_both decl (Some own) key x t s = same_child x decl own key (t ∙ sym s)

child_told : (decl : Decl) (front : List Fact) (other : Option Decl) → HaveOneKey (Some decl) other → (x : Bytes) →
    IsIn (fact.Children x) (front ++ children_alone (parents_of decl) (parents_there other))
    ⊎ (Agree (fact.Children x) (Some decl) None ⊎ Agree (fact.Children x) (Some decl) other)
child_told decl front other key x =
    elim (cases_Bool (is_name_of (parents_of decl) x)) [
      | inl t ↦
          elim (cases_Bool (is_name_of (parents_there other) x)) [
            | inl s ↦ inr (inr (child_both decl other key x t s))
            | inr f ↦
                inl (in_behind (fact.Children x) front (children_alone (parents_of decl) (parents_there other))
                (alone_child (parents_of decl) (parents_there other) x t f))
          ]
      | inr f ↦ inr (inl (ap (λ b. if_said b (key_name (key_of decl), stands_as decl)) f))
    ]

object_told : (x : Bytes) (parents : List Bytes) (other : Option Decl) → HaveOneKey (Some (d.Object x parents)) other → (one : Fact) →
    Told (d.Object x parents) other one
object_told x parents other key (fact.Decl y) = by_name x y (known.Plain parents) (λ e. inl (ap fact.Decl e))
object_told x parents None key (fact.There y) = by_name x y h.Plain (λ e. inr (inl (ap fact.There e)))
object_told x parents (Some own) key (fact.There y) = inr (inr (same_there y (d.Object x parents) own key))
object_told x parents other key (fact.Children y) =
    child_told (d.Object x parents) (fact.Decl x ∷ unless_there other (fact.There x)) other key y
object_told x parents other key (fact.Heads selector) = inr (inl refl)
object_told x parents other key (fact.Body own) = inr (inl refl)
object_told x parents other key (fact.Fields y) = inr (inl refl)

predicate_told : (x : Bytes) (parents : List Bytes) (test : Test) (other : Option Decl) → HaveOneKey (Some (d.Predicate x parents test)) other →
    (one : Fact) → Told (d.Predicate x parents test) other one
predicate_told x parents test other key (fact.Decl y) = by_name x y (known.Predicate parents test) (λ e. inl (ap fact.Decl e))
predicate_told x parents test None key (fact.There y) = by_name x y h.Predicate (λ e. inr (inl (ap fact.There e)))
predicate_told x parents test (Some own) key (fact.There y) = inr (inr (same_there y (d.Predicate x parents test) own key))
predicate_told x parents test other key (fact.Children y) =
    child_told (d.Predicate x parents test) (fact.Decl x ∷ unless_there other (fact.There x)) other key y
predicate_told x parents test other key (fact.Heads selector) = inr (inl refl)
predicate_told x parents test other key (fact.Body own) = inr (inl refl)
predicate_told x parents test other key (fact.Fields y) = inr (inl refl)

-- ---- fields

-- what a field says of the methods of a selector, by whether it is read and whether it is set by one of them
abbrev by_field : FieldKey → Bool → Bool → Option Head
by_field key reads sets = either_said (if_said reads (getter key, kinds.Get key)) (if_said sets (setter key, kinds.Set key))

setter_told : (key : FieldKey) (changeable : Bool) (other : Option Decl) (selector : Selector) → (changeable && not (can_change other)) ≡ true →
    is_method_of selector (k.Method (setter key)) ≡ true → IsIn (fact.Heads selector) (field_alone key changeable other)
setter_told key changeable other selector alone sets =
    let own : List Fact = fact.Heads (setter key).selector ∷ [] in
    in_behind (fact.Heads selector) (fact.Fields key.specialiser ∷ unless_there other (fact.Heads (getter key).selector))
    (if changeable && not (can_change other) then own else [])
    (subst (IsIn (fact.Heads selector)) (sym (cond-true (changeable && not (can_change other)) own [] alone))
    (inl (ap fact.Heads (same_selector (setter key).selector selector sets))))

heads_told_alone : (key : FieldKey) (start : Start) (changeable : Bool) (selector : Selector) →
    Told (d.Field key start changeable) None (fact.Heads selector)
heads_told_alone key start changeable selector =
    let reads = is_method_of selector (k.Method (getter key)) in
    let sets = is_method_of selector (k.Method (setter key)) in
    elim (cases_Bool (is_method_of selector (k.Method (getter key)))) [
      | inl t ↦ inl (inr (inl (ap fact.Heads (same_selector (getter key).selector selector t))))
      | inr f ↦
          elim (cases_Bool (changeable && is_method_of selector (k.Method (setter key)))) [
            | inl t ↦
                let both = and_parts changeable (is_method_of selector (k.Method (setter key))) t in
                inl (setter_told key changeable None selector (and_from changeable true both.0 refl) both.1)
            | inr g ↦ inr (inl (ap (λ b. by_field key b (changeable && sets)) f ∙ ap (λ b. by_field key false b) g))
          ]
    ]

heads_told_beside : (key : FieldKey) (start other_start : Start) (changeable can : Bool) (selector : Selector) →
    Told (d.Field key start changeable) (Some (d.Field key other_start can)) (fact.Heads selector)
heads_told_beside key start other_start changeable can selector =
    let sets = is_method_of selector (k.Method (setter key)) in
    elim (cases_Bool (is_method_of selector (k.Method (getter key)))) [
      | inl t ↦ inr (inr (ap (λ b. by_field key b (changeable && sets)) t ∙ sym (ap (λ b. by_field key b (can && sets)) t)))
      | inr f ↦
          elim (cases_Bool (changeable && is_method_of selector (k.Method (setter key)))) [
            | inl t ↦
                let both = and_parts changeable (is_method_of selector (k.Method (setter key))) t in
                elim (cases_Bool can) [
                  | inl c ↦
                      inr (inr (ap (by_field key (is_method_of selector (k.Method (getter key))))
                      (t ∙ sym (and_from can (is_method_of selector (k.Method (setter key))) c both.1))))
                  | inr c ↦
                      let alone = and_from changeable (not can) both.0 (ap not c) in
                      inl (setter_told key changeable (Some (d.Field key other_start can)) selector alone both.1)
                ]
            | inr g ↦ inr (inl (ap (λ b. by_field key b (changeable && sets)) f ∙ ap (λ b. by_field key false b) g))
          ]
    ]

heads_told : (key : FieldKey) (start : Start) (changeable : Bool) (other : Option Decl) → HaveOneKey (Some (d.Field key start changeable)) other →
    (selector : Selector) → Told (d.Field key start changeable) other (fact.Heads selector)
heads_told key start changeable None one selector = heads_told_alone key start changeable selector
heads_told key start changeable (Some (d.Field own other_start can)) one selector =
    let same : key ≡ own = cc in
    subst (λ z. Told (d.Field key start changeable) (Some (d.Field z other_start can)) (fact.Heads selector)) same
    (heads_told_beside key start other_start changeable can selector)
heads_told key start changeable (Some (d.Object x parents)) one selector = absurd (cc)
heads_told key start changeable (Some (d.Predicate x parents test)) one selector = absurd (cc)
heads_told key start changeable (Some (d.Method own formals body)) one selector = absurd (cc)

field_told : (key : FieldKey) (start : Start) (changeable : Bool) (other : Option Decl) → HaveOneKey (Some (d.Field key start changeable)) other →
    (one : Fact) → Told (d.Field key start changeable) other one
field_told key start changeable other same (fact.Fields y) =
    by_name key.specialiser y (key.name, start, changeable) (λ e. inl (ap fact.Fields e))
field_told key start changeable other same (fact.Heads selector) = heads_told key start changeable other same selector
field_told key start changeable other same (fact.Decl y) = inr (inl refl)
field_told key start changeable other same (fact.There y) = inr (inl refl)
field_told key start changeable other same (fact.Children y) = inr (inl refl)
field_told key start changeable other same (fact.Body own) = inr (inl refl)

-- ---- methods

made_told : (key : MethodKey) (formals : List (Option Bytes)) (body : Body) (other : Option Decl) →
    HaveOneKey (Some (d.Method key formals body)) other → (selector : Selector) → Told (d.Method key formals body) other (fact.Heads selector)
made_told key formals body None same selector =
    elim (cases_Bool (is_method_of selector (k.Method key))) [
      | inl t ↦ inl (inr (inl (ap fact.Heads (same_selector key.selector selector t))))
      | inr f ↦ inr (inl (ap (λ b. if_said b (key, kinds.Source)) f))
    ]
made_told key formals body (Some (d.Method own others other)) one selector =
    let same : key ≡ own = cc in
    inr (inr (ap (λ z. if_said (is_method_of selector (k.Method z)) (z, kinds.Source)) same))
made_told key formals body (Some (d.Object x parents)) one selector = absurd (cc)
made_told key formals body (Some (d.Predicate x parents test)) one selector = absurd (cc)
made_told key formals body (Some (d.Field own start changeable)) one selector = absurd (cc)

method_told : (key : MethodKey) (formals : List (Option Bytes)) (body : Body) (other : Option Decl) →
    HaveOneKey (Some (d.Method key formals body)) other → (one : Fact) → Told (d.Method key formals body) other one
method_told key formals body other same (fact.Body own) =
    elim (cases_Bool (occupies (d.Method key formals body) (k.Method own))) [
      | inl t ↦
          let keys : k.Method key ≡ k.Method own = own_key key own formals body t in
          let is : key ≡ own = cc in
          inl (inl (ap fact.Body is))
      | inr f ↦ inr (inl (ap (λ b. if_said b (Some (formals, body))) f))
    ]
method_told key formals body other same (fact.Heads selector) = made_told key formals body other same selector
method_told key formals body other same (fact.Decl y) = inr (inl refl)
method_told key formals body other same (fact.There y) = inr (inl refl)
method_told key formals body other same (fact.Children y) = inr (inl refl)
method_told key formals body other same (fact.Fields y) = inr (inl refl)

-- ---- two declarations of one key

one_told : (decl : Decl) (other : Option Decl) → HaveOneKey (Some decl) other → (one : Fact) → Told decl other one
one_told (d.Object x parents) other same one = object_told x parents other same one
one_told (d.Predicate x parents test) other same one = predicate_told x parents test other same one
one_told (d.Field key start changeable) other same one = field_told key start changeable other same one
one_told (d.Method key formals body) other same one = method_told key formals body other same one

-- the facts that are told of two
abbrev pub both_told : Option Decl → Option Decl → List Fact
both_told before after = said_if_there before after ++ said_if_there after before

pub told_apart : (before after : Option Decl) → (before ≡ after → ⊥) → (one : Fact) → IsIn one (both_told before after) → Agree one before after → ⊥
told_apart before after apart one i agree =
    elim (in_either one (said_if_there before after) (said_if_there after before) i) [
      | inl j ↦ alone before after apart one j agree
      | inr j ↦ alone after before (λ e. apart (sym e)) one j (agree_back one before after agree)
    ]
  where
    alone : (a b : Option Decl) → (a ≡ b → ⊥) → (one : Fact) → IsIn one (said_if_there a b) → Agree one a b → ⊥
    alone None b apart one i agree = i
    alone (Some decl) b apart one i agree = alone_apart decl b apart one i agree

pub all_told : (before after : Option Decl) → HaveOneKey before after → (one : Fact) → IsIn one (both_told before after) ⊎ Agree one before after
all_told None None same one = inr (agree_same one None None refl)
all_told (Some decl) None same one =
    elim (one_told decl None same one) [
      | inl i ↦ inl (in_front one (said_alone decl None) [] i)
      | inr either ↦ elim either [ inl e ↦ inr e | inr e ↦ inr e ]
    ]
all_told None (Some decl) same one =
    elim (one_told decl None tt one) [
      | inl i ↦ inl i
      | inr either ↦ elim either [
        | inl e ↦ inr (agree_back one (Some decl) None e)
        | inr e ↦ inr (agree_back one (Some decl) None e)
      ]
    ]
all_told (Some old) (Some new) same one =
    elim (one_told old (Some new) same one) [
      | inl i ↦ inl (in_front one (said_alone old (Some new)) (said_alone new (Some old)) i)
      | inr either ↦ elim either [
        | inl silent ↦
            elim (one_told new (Some old) (sym same) one) [
              | inl i ↦ inl (in_behind one (said_alone old (Some new)) (said_alone new (Some old)) i)
              | inr other ↦ elim other [
                | inl none ↦ inr (agree_on one (Some old) None (Some new) silent (agree_back one (Some new) None none))
                | inr e ↦ inr (agree_back one (Some new) (Some old) e)
              ]
            ]
        | inr e ↦ inr e
      ]
    ]
