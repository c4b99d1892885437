-- What binding asks of a program: lookup by the objects alone, the heads of a selector, and the prelude's names.
use Rattle.std.proofs.Common.{◌≡◌, ◌⊎◌, inl, inr, ◌&&◌, ◌||◌, not, Bool, true, false, if◌then◌else◌, List, [], ◌∷◌, map, filter, codes, Option, Some}
use Rattle.std.proofs.Common.{None, refl, sym, ap, ◌∙◌, subst}
use Rattle.std.specs.List.{find, list_all, list_any}
use Rattle.std.specs.Ordering.{is_lt}
use Rattle.std.specs.Str.{bytes_eq}
use Rattle.std.proofs.lemmas.Bool.{and_parts, or_cases}
use Rattle.vx_lists.specs.Members.{IsIn}
use Rattle.vx_lists.proofs.Finding.{left_is}
use Rattle.vx_lists.proofs.Members.{any_in, in_any, each}
use Rattle.vx_lists.proofs.Texts.{same_bytes, bytes_same}
use Rattle.vx_names.specs.declared.key.Selector.{Selector}
use Rattle.vx_names.specs.declared.key.MethodKey.{MethodKey}
use Rattle.vx_names.specs.declared.key.DeclKey.TheVariants as decl_keys
use Rattle.vx_names.specs.Key.{method_key_cmp}
use Rattle.vx_syntax.specs.declared.decl.Decl.{Decl}
use Rattle.vx_syntax.specs.declared.decl.Decl.TheVariants as d
use Rattle.vx_syntax.specs.declared.test.Test.{Test, end_of-Test, more_of-Test}
use Rattle.vx_syntax.specs.declared.test.Test.TheVariants as q
use Rattle.vx_syntax.specs.Expressions.{Bytes}
use Rattle.vx_syntax.specs.Declarations.{any}
use Rattle.vx_program.specs.Prelude.{prelude, primitives, is_primitive, same_key}
use Rattle.vx_program.proofs.Members.{same_key_is}
use Rattle.vx_names.specs.declared.key.DeclKey.{DeclKey}
use Rattle.vx_program.specs.Program.{IsProgram, Leads, here, up, leads, is_there, is_named, is_name_of, parents_of}
use Rattle.vx_program.specs.Methods.{methods}
use Rattle.vx_program.proofs.Chains.{leads_is, leads_finds}
use Rattle.vx_model.specs.declared.value.Value.{Value}
use Rattle.vx_model.specs.declared.value.Value.TheVariants as v
use Rattle.vx_model.specs.declared.value.Heap.{Heap}
use Rattle.vx_model.specs.declared.look.Look.TheVariants as look
use Rattle.vx_node.specs.declared.node.Info.{Info}
use Rattle.vx_node.specs.declared.kind.Kind.{Kind}
use Rattle.vx_node.specs.declared.answer.Bound.TheVariants as b
use Rattle.vx_model.specs.Order.{plain_names, cone, base, IsBase, plain, first}
use Rattle.vx_model.specs.Order as orders
use Rattle.vx_model.specs.Holds.{class_of, holds, lets_hold, is_true, has_number}
use Rattle.vx_model.specs.Fields.{field_at}
use Rattle.vx_model.specs.Lookup.{lookup, applicable, are_held, is_below, choice}
use Rattle.vx_compilation.specs.Binding.{Order, is_candidate, is_bound_to, chosen, bind}
use Rattle.vx_model.specs.Kinds.{kind}
use Rattle.vx_compilation.specs.Compiled.{asked, order, heads, sorted, inserted, with_kind, things}
use Rattle.vx_model.proofs.Orders.{Chains}
use Rattle.vx_model.proofs.Heights.{one_named}
use Rattle.vx_model.proofs.Choices.{one_is, is_none}

-- a name among others is one of them
pub name_in : (names : List Bytes) (x : Bytes) → is_name_of names x ≡ true → IsIn x names
name_in names x e = let one = in_any (λ z. bytes_eq z x) names e in subst (λ z. IsIn z names) (same_bytes one.0 x one.2) one.1

pub in_name : (names : List Bytes) (x : Bytes) → IsIn x names → is_name_of names x ≡ true
in_name names x j = any_in (λ z. bytes_eq z x) names x j (bytes_same x x refl)

pub chains : Chains
chains = record { finds = leads_finds; are = leads_is }

-- ---- lookup asks the objects alone

pub class_same : (heap : Heap) (value : Value) → class_of (things heap.objects) value ≡ class_of heap value
class_same heap (v.Int n) = refl
class_same heap (v.Text bytes) = refl
class_same heap (v.Closure n) = refl
class_same heap (v.Object n) = refl

pub true_same : (program : List Decl) (heap : Heap) (value : Value) (test : Test) →
    is_true program (things heap.objects) value test ≡ is_true program heap value test
true_same program heap (v.Int k) (q.Compare field how n) = refl
true_same program heap (v.Text k) (q.Compare field how n) = refl
true_same program heap (v.Closure k) (q.Compare field how n) = refl
true_same program heap (v.Object k) (q.Compare field how n) = by (field_at program (class_of heap (v.Object k)) field)
  where
    by : (o : Option _) → has_number (things heap.objects) (v.Object k) how n o ≡ has_number heap (v.Object k) how n o
    by None = refl
    by (Some key) = refl
true_same program heap value (q.And' s (more_of-Test a end_of-Test) s' (more_of-Test b end_of-Test)) =
    λ j. true_same program heap value a j && true_same program heap value b j
true_same program heap value (q.Or' s (more_of-Test a end_of-Test) s' (more_of-Test b end_of-Test)) =
    λ j. true_same program heap value a j || true_same program heap value b j
true_same program heap value (q.Not' s (more_of-Test a end_of-Test)) = ap not (true_same program heap value a)

pub lets_same : (program : List Decl) (heap : Heap) (value : Value) (decl : Decl) →
    lets_hold program (things heap.objects) value decl ≡ lets_hold program heap value decl
lets_same program heap value (d.Object x parents) = ap (λ c. leads program c x) (class_same heap value)
lets_same program heap value (d.Predicate x parents test) = true_same program heap value test
lets_same program heap value (d.Field key start changeable) = refl
lets_same program heap value (d.Method key formals body) = refl

pub holds_same : (program : List Decl) (heap : Heap) (value : Value) (x : Bytes) → holds program (things heap.objects) value x ≡ holds program heap value x
holds_same program heap value x = λ j. is_there program x && list_all (λ decl. not (orders.is_above program x decl) ||
    lets_same program heap value decl j) program

pub held_same : (program : List Decl) (heap : Heap) (values : List Value) (xs : List Bytes) →
    are_held program (things heap.objects) values xs ≡ are_held program heap values xs
held_same program heap [] [] = refl
held_same program heap [] (x ∷ xs) = refl
held_same program heap (value ∷ values) [] = refl
held_same program heap (value ∷ values) (x ∷ xs) = λ j. holds_same program heap value x j && held_same program heap values xs j

pub lookup_same : (program : List Decl) (heap : Heap) (selector : Selector) (values : List Value) (below : Option MethodKey) →
    lookup program (things heap.objects) selector values below ≡ lookup program heap selector values below
lookup_same program heap selector values below = λ j. choice program (filter
    (λ m. is_below program below m && held_same program heap values m.specialisers j) (methods program selector))

pub found_held : (program : List Decl) (heap : Heap) (selector : Selector) (values : List Value) (below : Option MethodKey) (key : MethodKey) →
    lookup program heap selector values below ≡ look.One key → are_held program heap values key.specialisers ≡ true
found_held program heap selector values below key is =
    let best = one_is program (applicable program heap selector values below) key is in
    let left = left_is (λ m. is_below program below m && are_held program heap values m.specialisers) (methods program selector) key best.0 in
    (and_parts (is_below program below key) (are_held program heap values key.specialisers) left.1).1

-- ---- heads

pub in_inserted : (key own : MethodKey) (keys : List MethodKey) → (own ≡ key) ⊎ IsIn key keys → IsIn key (inserted own keys)
in_inserted key own [] h = h
in_inserted key own (one ∷ keys) h = by (is_lt (method_key_cmp one own)) (in_inserted key own keys) h
  where
    by : (so : Bool) → ((own ≡ key) ⊎ IsIn key keys → IsIn key (inserted own keys)) → (own ≡ key) ⊎ IsIn key (one ∷ keys) →
        IsIn key (if so then one ∷ inserted own keys else own ∷ one ∷ keys)
    by false more h = h
    by true more (inl e) = inr (more (inl e))
    by true more (inr (inl e)) = inl e
    by true more (inr (inr j)) = inr (more (inr j))

pub inserted_in : (key own : MethodKey) (keys : List MethodKey) → IsIn key (inserted own keys) → (own ≡ key) ⊎ IsIn key keys
inserted_in key own [] h = h
inserted_in key own (one ∷ keys) h = by (is_lt (method_key_cmp one own)) (inserted_in key own keys) h
  where
    by : (so : Bool) → (IsIn key (inserted own keys) → (own ≡ key) ⊎ IsIn key keys) → IsIn key (if so then one ∷ inserted own keys else own ∷ one ∷ keys) →
        (own ≡ key) ⊎ IsIn key (one ∷ keys)
    by false more h = h
    by true more (inl e) = inr (inl e)
    by true more (inr j) = elim (more j) [ inl e ↦ inl e | inr i ↦ inr (inr i) ]

pub in_sorted : (keys : List MethodKey) (key : MethodKey) → IsIn key keys → IsIn key (sorted keys)
in_sorted [] key h = h
in_sorted (own ∷ keys) key (inl e) = in_inserted key own (sorted keys) (inl e)
in_sorted (own ∷ keys) key (inr j) = in_inserted key own (sorted keys) (inr (in_sorted keys key j))

pub sorted_in : (keys : List MethodKey) (key : MethodKey) → IsIn key (sorted keys) → IsIn key keys
sorted_in [] key h = h
sorted_in (own ∷ keys) key h = elim (inserted_in key own (sorted keys) h) [ inl e ↦ inl e | inr j ↦ inr (sorted_in keys key j) ]

pub head_is : (program : List Decl) (keys : List MethodKey) (head : MethodKey × Kind) → IsIn head (map (with_kind program) keys) →
    IsIn head.0 keys × (head.1 ≡ kind program head.0)
head_is program [] head h = (h, absurd h)
head_is program (key ∷ keys) head (inl e) = (inl (ap (λ z. z.0) e), sym (ap (λ z. z.1) e) ∙ ap (λ z. kind program z.0) e)
head_is program (key ∷ keys) head (inr j) = let r = head_is program keys head j in (inr r.0, r.1)

pub is_head : (program : List Decl) (keys : List MethodKey) (key : MethodKey) → IsIn key keys → IsIn (with_kind program key) (map (with_kind program) keys)
is_head program [] key h = h
is_head program (own ∷ keys) key (inl e) = inl (ap (with_kind program) e)
is_head program (own ∷ keys) key (inr j) = inr (is_head program keys key j)

pub asked_bind : (program : List Decl) (selector : Selector) (infos : List Info) (below : Option MethodKey) →
    (asked program).bind selector infos below ≡ bind (order program) (heads program selector) infos below
unfolding asked
asked_bind program selector infos below = refl

-- where nobody understands a message, there is no method
pub none_bound : (ord : Order) (hs : List (MethodKey × Kind)) (infos : List Info) (below : Option MethodKey) → bind ord hs infos below ≡ b.Nobody → hs ≡ []
none_bound ord [] infos below e = refl
none_bound ord (head ∷ hs) infos below e =
    absurd (by (find (is_bound_to ord infos (filter (is_candidate ord below) (head ∷ hs))) (filter (is_candidate ord below) (head ∷ hs))) e)
  where
    by : (found : Option (MethodKey × Kind)) → chosen found ≡ b.Nobody → ⊥
    by None e = cc
    by (Some one) e = cc

pub bound_nobody : (program : List Decl) (heap : Heap) (selector : Selector) (values : List Value) (infos : List Info) (below : Option MethodKey) →
    (asked program).bind selector infos below ≡ b.Nobody → lookup program heap selector values below ≡ look.None
bound_nobody program heap selector values infos below e =
    let no = none_bound (order program) (heads program selector) infos below (sym (asked_bind program selector infos below) ∙ e) in
    is_none program (applicable program heap selector values below) (empty (applicable program heap selector values below) (λ m j.
    let left = left_is (λ m. is_below program below m && are_held program heap values m.specialisers) (methods program selector) m j in
    subst (IsIn (with_kind program m)) no (is_head program (sorted (methods program selector)) m (in_sorted (methods program selector) m left.0))))
  where
    empty : (ms : List MethodKey) → ((m : MethodKey) → IsIn m ms → ⊥) → ms ≡ []
    empty [] f = refl
    empty (m ∷ ms) f = absurd (f m (inl refl))

-- ---- names

pub int_there : IsIn (d.Object (codes "int") (any ∷ [])) prelude
unfolding prelude
int_there = inr (inr (inr (inr (inl refl))))

pub string_there : IsIn (d.Object (codes "string") (any ∷ [])) prelude
unfolding prelude
string_there = inr (inr (inr (inr (inr (inr (inl refl))))))

pub closure_there : IsIn (d.Object (codes "closure") (any ∷ [])) prelude
unfolding prelude
closure_there = inr (inr (inl refl))

pub bool_there : IsIn (d.Object (codes "bool") (any ∷ [])) prelude
unfolding prelude
bool_there = inr (inl refl)

-- of the prelude's objects `any` alone has no parents
abbrev pub has_parents : Decl → Bool
has_parents (d.Object x []) = bytes_eq x any
has_parents (d.Object x (parent ∷ parents)) = true
has_parents (d.Predicate x parents test) = true
has_parents (d.Field key start changeable) = true
has_parents (d.Method key formals body) = true

pub all_have : list_all has_parents prelude ≡ true
unfolding prelude
all_have = refl

pub only_any : (x : Bytes) → IsIn (d.Object x []) prelude → x ≡ any
only_any x j = same_bytes x any (each has_parents prelude all_have (d.Object x []) j)

-- the specialisers of primitives are of the prelude
abbrev pub Known : Bytes → Type 0
Known x = (any ≡ x) ⊎ ((codes "int" ≡ x) ⊎ ((codes "string" ≡ x) ⊎ (codes "closure" ≡ x)))

abbrev pub is_known : Bytes → Bool
is_known x = bytes_eq any x || (bytes_eq (codes "int") x || (bytes_eq (codes "string") x || bytes_eq (codes "closure") x))

pub known_is : (x : Bytes) → is_known x ≡ true → Known x
known_is x h =
    elim (or_cases (bytes_eq any x) _ h) [
      | inl e ↦ inl (same_bytes any x e)
      | inr h1 ↦ elim (or_cases (bytes_eq (codes "int") x) _ h1) [
        | inl e ↦ inr (inl (same_bytes (codes "int") x e))
        | inr h2 ↦ elim (or_cases (bytes_eq (codes "string") x) (bytes_eq (codes "closure") x) h2) [
          | inl e ↦ inr (inr (inl (same_bytes (codes "string") x e)))
          | inr e ↦ inr (inr (inr (same_bytes (codes "closure") x e)))
        ]
      ]
    ]

pub all_known : list_all (λ (key : MethodKey). list_all is_known key.specialisers) primitives ≡ true
unfolding primitives
all_known = refl

pub in_primitives : (keys : List MethodKey) (key : MethodKey) → list_any (λ one. same_key one (decl_keys.Method key)) (map decl_keys.Method keys) ≡ true →
    IsIn key keys
in_primitives keys key h = by keys (in_any (λ one. same_key one (decl_keys.Method key)) (map decl_keys.Method keys) h)
  where
    by : (own : List MethodKey) → ((one : DeclKey) × IsIn one (map decl_keys.Method own) × (same_key one (decl_keys.Method key) ≡ true)) → IsIn key own
    by [] r = absurd r.1
    by (m ∷ own) (one, inl e, s) = inl (let same : decl_keys.Method m ≡ decl_keys.Method key = e ∙ same_key_is one (decl_keys.Method key) s in cc)
    by (m ∷ own) (one, inr j, s) = inr (by own (one, j, s))

pub of_primitive : (key : MethodKey) → is_primitive (decl_keys.Method key) ≡ true → (x : Bytes) → IsIn x key.specialisers → Known x
of_primitive key h x j =
    known_is x (each is_known key.specialisers (each (λ (m : MethodKey). list_all is_known m.specialisers) primitives all_known key
    (in_primitives primitives key h)) x j)

pub any_first : IsIn (d.Object any []) prelude
unfolding prelude
any_first = inl refl

pub int_named : is_there prelude (codes "int") ≡ true
unfolding prelude
int_named = refl

pub string_named : is_there prelude (codes "string") ≡ true
unfolding prelude
string_named = refl

pub closure_named : is_there prelude (codes "closure") ≡ true
unfolding prelude
closure_named = refl

pub any_named : is_there prelude any ≡ true
unfolding prelude
any_named = refl

-- what the prelude's objects inherit from is the prelude's
pub all_parents : list_all (λ decl. list_all (is_there prelude) (parents_of decl)) prelude ≡ true
unfolding prelude
all_parents = refl

pub prelude_up : (program : List Decl) → IsProgram program → {x y : Bytes} → Leads program x y → is_there prelude x ≡ true → is_there prelude y ≡ true
prelude_up program well here h = h
prelude_up program well (up {x = x} decl parent i n p chain) h =
    let r = in_any (is_named x) prelude h in
    let same : decl ≡ r.0 = one_named program well x decl r.0 i (well.has_prelude r.0 r.1) n r.2 in
    prelude_up program well chain
    (each (is_there prelude) (parents_of r.0) (each (λ own. list_all (is_there prelude) (parents_of own)) prelude all_parents r.0 r.1) parent
    (subst (λ own. IsIn parent (parents_of own)) same p))
