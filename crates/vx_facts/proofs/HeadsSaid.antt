-- What a declaration says of the methods of a selector, and that the heads are what all declarations say of it, with the primitives.
use Rattle.std.proofs.Common.{◌≡◌, ◌∙◌, ◌⊎◌, refl, sym, ap, subst, inl, inr, arith}
use Rattle.std.proofs.Common.{Bool, true, false, ◌&&◌, if◌then◌else◌, List, [], ◌∷◌, ◌++◌, map, Option, Some, None}
use Rattle.std.proofs.lemmas.Bool.{both_ways, and_parts, false_from_ne_true}
use Rattle.vx_lists.specs.Members.{IsIn}
use Rattle.vx_lists.proofs.Members.{any_in, in_either, in_front}
use Rattle.vx_lists.proofs.Finding.{only_found, none_found}
use Rattle.vx_names.specs.declared.key.Selector.{Selector}
use Rattle.vx_names.specs.declared.key.MethodKey.{MethodKey}
use Rattle.vx_names.specs.declared.key.FieldKey.{FieldKey}
use Rattle.vx_names.specs.declared.key.DeclKey.{DeclKey}
use Rattle.vx_names.specs.declared.key.DeclKey.TheVariants as k
use Rattle.vx_syntax.specs.declared.decl.Decl.{Decl}
use Rattle.vx_syntax.specs.declared.decl.Decl.TheVariants as d
use Rattle.vx_syntax.specs.Keys.{key_of}
use Rattle.vx_program.specs.Prelude.{same_key, primitive_keys}
use Rattle.vx_program.specs.Program.{IsProgram, occupied, occupies, is_method_of, getter, setter}
use Rattle.vx_program.specs.Methods.{with_selector, methods}
use Rattle.vx_program.proofs.Members.{key_itself}
use Rattle.vx_program.proofs.ByKey.{same_selector, is_occupied}
use Rattle.vx_node.specs.declared.kind.Kind.{Kind}
use Rattle.vx_node.specs.declared.kind.Kind.TheVariants as kinds
use Rattle.vx_model.specs.Kinds.{kind, kind_by, number_of, primitive_kind}
use Rattle.vx_compilation.specs.Compiled.{heads, sorted, with_kind}
use Rattle.vx_compilation.proofs.Asked.{in_sorted, sorted_in, head_is, is_head}
use Rattle.vx_facts.proofs.Speaking.{with_said, all_said, said_in}
use Rattle.vx_facts.proofs.Sayings.{if_said, said_if}

abbrev pub Head : Type 0
Head = MethodKey × Kind

-- the first of two that is said
abbrev pub either_said : Option Head → Option Head → Option Head
either_said None other = other
either_said (Some s) other = Some s

abbrev pub said_head : Selector → Decl → Option Head
said_head selector (d.Method key formals body) = if_said (is_method_of selector (k.Method key)) (key, kinds.Source)
said_head selector (d.Field key start changeable) =
    either_said (if_said (is_method_of selector (k.Method (getter key))) (getter key, kinds.Get key))
    (if_said (changeable && is_method_of selector (k.Method (setter key))) (setter key, kinds.Set key))
said_head selector (d.Object own parents) = None
said_head selector (d.Predicate own parents test) = None

-- the key of the declaration that makes a method
abbrev pub key_by : MethodKey → Kind → DeclKey
key_by key kinds.Source = k.Method key
key_by key (kinds.Prim number) = k.Method key
key_by key (kinds.Get field) = k.Field field
key_by key (kinds.Set field) = k.Field field

abbrev pub key_in : Head → DeclKey
key_in head = key_by head.0 head.1

-- ---- the methods that a declaration makes

abbrev keys_said : Option Head → List MethodKey
keys_said None = []
keys_said (Some head) = head.0 ∷ []

-- no selector is that of the method that reads a field and of the one that sets it
pub one_accessor : (selector : Selector) (key : FieldKey) → is_method_of selector (k.Method (getter key)) ≡ true →
    is_method_of selector (k.Method (setter key)) ≡ true → ⊥
one_accessor selector key reads sets =
    let same : (getter key).selector ≡ (setter key).selector =
    same_selector (getter key).selector selector reads ∙ sym (same_selector (setter key).selector selector sets) in
    let arity : 1 ≡ 2 = ap (λ (z : Selector). z.arity) same in
    absurd (omega (arith, arity))

made_by_setter : (selector : Selector) (a : MethodKey) (own : Kind) (changeable : Bool) →
    with_selector selector (if changeable then k.Method a ∷ [] else []) ≡ keys_said (if_said (changeable && is_method_of selector (k.Method a)) (a, own))
made_by_setter selector a own false = refl
made_by_setter selector a own true = by (is_method_of selector (k.Method a))
  where
    by : (b : Bool) → (if b then a ∷ [] else []) ≡ keys_said (if_said b (a, own))
    by true = refl
    by false = refl

made_by_either : (reads : Bool) (head : Head) (rest : List MethodKey) (other : Option Head) → rest ≡ keys_said other → (reads ≡ true → other ≡ None) →
    (if reads then head.0 ∷ rest else rest) ≡ keys_said (either_said (if_said reads head) other)
made_by_either true head rest other e none = ap (λ z. head.0 ∷ z) (e ∙ ap keys_said (none refl))
made_by_either false head rest other e none = e

not_said : {S : Type 0} (b : Bool) (s : S) → (b ≡ true → ⊥) → if_said b s ≡ None
not_said b s never = ap (λ z. if_said z s) (false_from_ne_true b never)

made : (selector : Selector) (decl : Decl) → with_selector selector (occupied decl) ≡ keys_said (said_head selector decl)
made selector (d.Object own parents) = refl
made selector (d.Predicate own parents test) = refl
made selector (d.Method key formals body) = by (is_method_of selector (k.Method key))
  where
    by : (b : Bool) → (if b then key ∷ [] else []) ≡ keys_said (if_said b (key, kinds.Source))
    by true = refl
    by false = refl
made selector (d.Field key start changeable) =
    made_by_either (is_method_of selector (k.Method (getter key))) (getter key, kinds.Get key)
    (with_selector selector (if changeable then k.Method (setter key) ∷ [] else []))
    (if_said (changeable && is_method_of selector (k.Method (setter key))) (setter key, kinds.Set key))
    (made_by_setter selector (setter key) (kinds.Set key) changeable)
    (λ reads. not_said (changeable && is_method_of selector (k.Method (setter key))) (setter key, kinds.Set key)
    (λ t. one_accessor selector key reads (and_parts changeable (is_method_of selector (k.Method (setter key))) t).1))

-- the methods of the selector that are made, without the primitives
abbrev made_of : Selector → List Decl → List MethodKey
made_of selector decls = map (λ (head : Head). head.0) (all_said (said_head selector) decls)

methods_are : (selector : Selector) (decls : List Decl) → methods decls selector ≡ made_of selector decls ++ with_selector selector primitive_keys
methods_are selector [] = refl
methods_are selector (decl ∷ decls) =
    ap (λ own. own ++ methods decls selector) (made selector decl)
    ∙ ap (λ rest. keys_said (said_head selector decl) ++ rest) (methods_are selector decls)
    ∙ by (said_head selector decl)
  where
    by : (o : Option Head) →
        keys_said o ++ (made_of selector decls ++ with_selector selector primitive_keys)
        ≡ map (λ (head : Head). head.0) (with_said o (all_said (said_head selector) decls)) ++ with_selector selector primitive_keys
    by None = refl
    by (Some head) = refl

-- ---- what it says of them is so

first_is : (a b : Option Head) (s : Head) → either_said a b ≡ Some s → (a ≡ Some s) ⊎ (b ≡ Some s)
first_is None b s e = inr e
first_is (Some t) b s e = inl e

-- a declaration makes the method, and is of the key that is told by the method and its kind
pub record Makes (selector : Selector) (decl : Decl) (head : Head) : Type 0 where
  pub is_made : occupies decl (k.Method head.0) ≡ true
  pub of_kind : kind_by head.0 (Some decl) ≡ head.1
  pub has_key : key_of decl ≡ key_in head
  pub selected : is_method_of selector (k.Method head.0) ≡ true

pub makes : (selector : Selector) (decl : Decl) (head : Head) → said_head selector decl ≡ Some head → Makes selector decl head
makes selector (d.Object own parents) head e = absurd (cc)
makes selector (d.Predicate own parents test) head e = absurd (cc)
makes selector (d.Method key formals body) head e =
    let so = said_if (is_method_of selector (k.Method key)) (key, kinds.Source) head e in
    let decl = d.Method key formals body in
    subst (λ s. Makes selector (d.Method key formals body) s) so.1
    (record { is_made = is_occupied decl (k.Method key) (inl refl); of_kind = refl; has_key = refl; selected = so.0 })
makes selector (d.Field key start changeable) head e =
    elim (first_is (if_said (is_method_of selector (k.Method (getter key))) (getter key, kinds.Get key))
    (if_said (changeable && is_method_of selector (k.Method (setter key))) (setter key, kinds.Set key)) head e) [
      | inl reads ↦
          let so = said_if (is_method_of selector (k.Method (getter key))) (getter key, kinds.Get key) head reads in
          subst (λ s. Makes selector (d.Field key start changeable) s) so.1
          (record {
            is_made = is_occupied (d.Field key start changeable) (k.Method (getter key)) (inr (inl refl));
            of_kind = refl;
            has_key = refl;
            selected = so.0;
          })
      | inr sets ↦
          let so = said_if (changeable && is_method_of selector (k.Method (setter key))) (setter key, kinds.Set key) head sets in
          let both = and_parts changeable (is_method_of selector (k.Method (setter key))) so.0 in
          subst (λ s. Makes selector (d.Field key start changeable) s) so.1
          (record {
            is_made = subst (λ c. occupies (d.Field key start c) (k.Method (setter key)) ≡ true) (sym both.0)
                (is_occupied (d.Field key start true) (k.Method (setter key)) (inr (inr (inl refl))));
            of_kind = refl;
            has_key = refl;
            selected = both.1;
          })
    ]

module _ (program : List Decl) (well : IsProgram program) where
  kind_said : (selector : Selector) (head : Head) → IsIn head (all_said (said_head selector) program) → kind program head.0 ≡ head.1
  kind_said selector head i =
      let r = said_in (said_head selector) program head i in
      let so = makes selector r.0 head r.2 in
      ap (kind_by head.0)
      (only_found (λ decl. occupies decl (k.Method head.0)) program r.0 r.1 so.is_made
      (λ other j t. well.apart other r.0 (k.Method head.0) j r.1 t so.is_made)) ∙ so.of_kind

  -- primitives are primitives in each program
  kind_given : (key : MethodKey) → IsIn (k.Method key) primitive_keys → kind program key ≡ primitive_kind (number_of key)
  kind_given key i =
      ap (kind_by key)
      (none_found (λ decl. occupies decl (k.Method key)) program
      (λ decl j. false_from_ne_true (occupies decl (k.Method key)) (λ t. not_made key i decl j t)))
    where
      not_made : (key : MethodKey) → IsIn (k.Method key) primitive_keys → (decl : Decl) → IsIn decl program → occupies decl (k.Method key) ≡ true → ⊥
      not_made key i decl j t =
          both_ways _ (well.no_primitive decl (k.Method key) j t)
          (any_in (λ one. same_key one (k.Method key)) primitive_keys (k.Method key) i (key_itself (k.Method key) (k.Method key) refl))

-- what has the selector is among the keys
among_keys : (selector : Selector) (keys : List DeclKey) (key : MethodKey) → IsIn key (with_selector selector keys) → IsIn (k.Method key) keys
among_keys selector [] key i = absurd i
among_keys selector (k.Object x ∷ keys) key i = inr (among_keys selector keys key i)
among_keys selector (k.Predicate x ∷ keys) key i = inr (among_keys selector keys key i)
among_keys selector (k.Field own ∷ keys) key i = inr (among_keys selector keys key i)
among_keys selector (k.Method own ∷ keys) key i = by (is_method_of selector (k.Method own)) (among_keys selector keys key) i
  where
    by : (b : Bool) → (IsIn key (with_selector selector keys) → IsIn (k.Method key) keys) →
        IsIn key (if b then own ∷ with_selector selector keys else with_selector selector keys) → IsIn (k.Method key) (k.Method own ∷ keys)
    by true more (inl e) = inl (ap k.Method e)
    by true more (inr j) = inr (more j)
    by false more j = inr (more j)

-- one of the methods is made, or a primitive
key_said : (heads : List Head) (key : MethodKey) → IsIn key (map (λ (head : Head). head.0) heads) → (head : Head) × IsIn head heads × (head.0 ≡ key)
key_said [] key i = absurd i
key_said (head ∷ rest) key (inl e) = (head, inl refl, e)
key_said (head ∷ rest) key (inr i) = let r = key_said rest key i in (r.0, inr r.1, r.2)

said_key : (heads : List Head) (head : Head) → IsIn head heads → IsIn head.0 (map (λ (one : Head). one.0) heads)
said_key [] head i = absurd i
said_key (own ∷ rest) head (inl e) = inl (ap (λ (one : Head). one.0) e)
said_key (own ∷ rest) head (inr i) = inr (said_key rest head i)

method_said : (selector : Selector) (decls : List Decl) (key : MethodKey) → IsIn key (methods decls selector) →
    ((head : Head) × IsIn head (all_said (said_head selector) decls) × (head.0 ≡ key)) ⊎ IsIn (k.Method key) primitive_keys
method_said selector decls key i =
    elim (in_either key (made_of selector decls) (with_selector selector primitive_keys) (subst (IsIn key) (methods_are selector decls) i)) [
      | inl j ↦ inl (key_said (all_said (said_head selector) decls) key j)
      | inr j ↦ inr (among_keys selector primitive_keys key j)
    ]

-- ---- heads

each_with_kind : (first second : List Decl) (keys : List MethodKey) → ((key : MethodKey) → IsIn key keys → kind first key ≡ kind second key) →
    map (with_kind first) keys ≡ map (with_kind second) keys
each_with_kind first second [] same = refl
each_with_kind first second (key ∷ keys) same =
    ap (λ own. (key, own) ∷ map (with_kind first) keys) (same key (inl refl))
    ∙ ap (λ rest. (key, kind second key) ∷ rest) (each_with_kind first second keys (λ other i. same other (inr i)))

-- where the same is said, the heads are the same
pub same_heads : (selector : Selector) (first second : List Decl) → IsProgram first → IsProgram second →
    all_said (said_head selector) first ≡ all_said (said_head selector) second → heads first selector ≡ heads second selector
same_heads selector first second left right same =
    let keys : methods first selector ≡ methods second selector =
    methods_are selector first ∙ ap (λ said. map (λ (head : Head). head.0) said ++ with_selector selector primitive_keys) same
    ∙ sym (methods_are selector second) in
    ap (λ own. map (with_kind first) (sorted own)) keys
    ∙ each_with_kind first second (sorted (methods second selector)) (λ key i.
    elim (method_said selector second key (sorted_in (methods second selector) key i)) [
      | inl r ↦
          subst (λ z. kind first z ≡ kind second z) r.2
          (kind_said first left selector r.0 (subst (IsIn r.0) (sym same) r.1) ∙ sym (kind_said second right selector r.0 r.1))
      | inr j ↦ kind_given first left key j ∙ sym (kind_given second right key j)
    ])

-- and where the heads are the same, what is said in one program is said in the other
module _ (first second : List Decl) (left : IsProgram first) (right : IsProgram second) where
  pub head_carried : (selector : Selector) → heads first selector ≡ heads second selector →
      (head : Head) → IsIn head (all_said (said_head selector) first) → IsIn head (all_said (said_head selector) second)
  head_carried selector same head i =
      let key : IsIn head.0 (methods first selector) =
      subst (IsIn head.0) (sym (methods_are selector first))
      (in_front head.0 (made_of selector first) (with_selector selector primitive_keys) (said_key (all_said (said_head selector) first) head i)) in
      let there = subst (IsIn (with_kind first head.0)) same
      (is_head first (sorted (methods first selector)) head.0 (in_sorted (methods first selector) head.0 key)) in
      let other = head_is second (sorted (methods second selector)) (with_kind first head.0) there in
      let so : kind second head.0 ≡ head.1 = sym other.1 ∙ kind_said first left selector head i in
      elim (method_said selector second head.0 (sorted_in (methods second selector) head.0 other.0)) [
        | inl r ↦
            let kinds_are : r.0.1 ≡ head.1 = sym (kind_said second right selector r.0 r.1) ∙ ap (kind second) r.2 ∙ so in
            let is : r.0 ≡ head = ap (λ (z : MethodKey). (z, r.0.1)) r.2 ∙ ap (λ (z : Kind). (head.0, z)) kinds_are in
            subst (λ z. IsIn z (all_said (said_head selector) second)) is r.1
        | inr j ↦
            let r = said_in (said_head selector) first head i in
            let it = makes selector r.0 head r.2 in
            absurd (both_ways _ (left.no_primitive r.0 (k.Method head.0) r.1 it.is_made)
            (any_in (λ one. same_key one (k.Method head.0)) primitive_keys (k.Method head.0) j (key_itself (k.Method head.0) (k.Method head.0) refl)))
      ]
