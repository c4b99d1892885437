-- A fact depends on the declarations that it concerns alone.
use Rattle.std.proofs.Common.{◌≡◌, ◌∙◌, ◌++◌, ◌||◌, ◌&&◌, Bool, true, false, List, [], ◌∷◌, Some, ap, refl, sym, subst, inl, inr, filter, map}
use Rattle.std.specs.Prelude.{if◌then◌else◌}
use Rattle.std.specs.List.{find, list_any}
use Rattle.std.specs.Str.{bytes_eq}
use Rattle.std.proofs.lemmas.Bool.{cases_Bool, cond-true, cond-false, and_parts, both_ways, false_from_ne_true, or_parts}
use Rattle.vx_lists.specs.Members.{IsIn}
use Rattle.vx_lists.proofs.Members.{any_in, in_any, in_either}
use Rattle.vx_names.specs.declared.key.MethodKey.{MethodKey}
use Rattle.vx_names.specs.declared.key.Selector.{Selector}
use Rattle.vx_names.specs.declared.key.DeclKey.{DeclKey}
use Rattle.vx_names.specs.declared.key.DeclKey.TheVariants as decl_keys
use Rattle.vx_syntax.specs.declared.decl.Decl.{Decl}
use Rattle.vx_syntax.specs.declared.decl.Decl.TheVariants as d
use Rattle.vx_syntax.specs.Expressions.{Bytes}
use Rattle.vx_program.specs.Program.{is_named, is_name_of, is_predicate, is_predicate_there, is_method_of, occupied, occupies}
use Rattle.vx_program.specs.Prelude.{same_key, primitive_keys}
use Rattle.vx_program.specs.Methods.{with_selector, methods}
use Rattle.vx_program.proofs.Members.{same_key_is}
use Rattle.vx_node.specs.declared.node.Fact.{Fact}
use Rattle.vx_node.specs.declared.node.Fact.TheVariants as fact
use Rattle.vx_node.specs.declared.answer.Answer.TheVariants as answers
use Rattle.vx_node.specs.declared.answer.Stands.TheVariants as h
use Rattle.vx_model.specs.Order.{plain_names}
use Rattle.vx_model.specs.Kinds.{kind, kind_by, source, source_by}
use Rattle.vx_compilation.specs.Compiled.{stands, there, heads, sorted, with_kind}
use Rattle.vx_compilation.proofs.Asked.{sorted_in}
use Rattle.vx_answers.specs.Facts.{decl_of, children_of, fields_of, known_as, text_of, fact_of}
use Rattle.vx_answers.specs.Touched.{concerns}

-- one step of a filter, where what is made of the rest is the same
dropped : {R : Type 0} (p : Decl → Bool) (made : List Decl → R) (decl : Decl) (decls : List Decl) → p decl ≡ false →
    made (filter p (decl ∷ decls)) ≡ made (filter p decls)
dropped p made decl decls f = ap made (cond-false (p decl) (decl ∷ filter p decls) (filter p decls) f)

taken : {R : Type 0} (p : Decl → Bool) (made : List Decl → R) (decl : Decl) (decls : List Decl) → p decl ≡ true →
    made (filter p (decl ∷ decls)) ≡ made (decl ∷ filter p decls)
taken p made decl decls t = ap made (cond-true (p decl) (decl ∷ filter p decls) (filter p decls) t)

-- what a test finds among all it finds among those that pass a weaker one
any_kept : (p q : Decl → Bool) → ((decl : Decl) → q decl ≡ true → p decl ≡ true) → (decls : List Decl) → list_any q (filter p decls) ≡ list_any q decls
any_kept p q within [] = refl
any_kept p q within (decl ∷ decls) =
    elim (cases_Bool (p decl)) [
      | inl t ↦ taken p (list_any q) decl decls t ∙ ap (λ b. q decl || b) (any_kept p q within decls)
      | inr f ↦
          let none : q decl ≡ false = false_from_ne_true (q decl) (λ t. both_ways (p decl) f (within decl t)) in
          dropped p (list_any q) decl decls f ∙ any_kept p q within decls ∙ ap (λ b. b || list_any q decls) (sym none)
    ]

found_kept : (p q : Decl → Bool) → ((decl : Decl) → q decl ≡ true → p decl ≡ true) → (decls : List Decl) → find q (filter p decls) ≡ find q decls
found_kept p q within [] = refl
found_kept p q within (decl ∷ decls) =
    elim (cases_Bool (p decl)) [
      | inl t ↦ taken p (find q) decl decls t ∙ ap (λ o. if q decl then Some decl else o) (found_kept p q within decls)
      | inr f ↦
          let none : q decl ≡ false = false_from_ne_true (q decl) (λ t. both_ways (p decl) f (within decl t)) in
          dropped p (find q) decl decls f ∙ found_kept p q within decls ∙ sym (cond-false (q decl) (Some decl) (find q decls) none)
    ]

-- ---- how things stand

decls_kept : (x : Bytes) (decls : List Decl) → decl_of (filter (is_named x) decls) x ≡ decl_of decls x
decls_kept x [] = refl
decls_kept x (decl ∷ decls) =
    elim (cases_Bool (is_named x decl)) [
      | inl t ↦
          taken (is_named x) (λ ds. decl_of ds x) decl decls t
          ∙ cond-true (is_named x decl) (known_as decl) (decl_of (filter (is_named x) decls) x) t
          ∙ sym (cond-true (is_named x decl) (known_as decl) (decl_of decls x) t)
      | inr f ↦
          dropped (is_named x) (λ ds. decl_of ds x) decl decls f ∙ decls_kept x decls
          ∙ sym (cond-false (is_named x decl) (known_as decl) (decl_of decls x) f)
    ]

plains_kept : (x : Bytes) (decls : List Decl) → is_name_of (plain_names (filter (is_named x) decls)) x ≡ is_name_of (plain_names decls) x
plains_kept x [] = refl
plains_kept x (d.Object own parents ∷ decls) =
    elim (cases_Bool (bytes_eq own x)) [
      | inl t ↦ taken (is_named x) (λ ds. is_name_of (plain_names ds) x) (d.Object own parents) decls t ∙ ap (λ b. bytes_eq own x || b) (plains_kept x decls)
      | inr f ↦
          dropped (is_named x) (λ ds. is_name_of (plain_names ds) x) (d.Object own parents) decls f ∙ plains_kept x decls
          ∙ ap (λ b. b || is_name_of (plain_names decls) x) (sym f)
    ]
plains_kept x (d.Predicate own parents test ∷ decls) =
    elim (cases_Bool (bytes_eq own x)) [
      | inl t ↦ taken (is_named x) (λ ds. is_name_of (plain_names ds) x) (d.Predicate own parents test) decls t ∙ plains_kept x decls
      | inr f ↦ dropped (is_named x) (λ ds. is_name_of (plain_names ds) x) (d.Predicate own parents test) decls f ∙ plains_kept x decls
    ]
plains_kept x (d.Field key start changeable ∷ decls) = plains_kept x decls
plains_kept x (d.Method key formals body ∷ decls) = plains_kept x decls

there_kept : (x : Bytes) (decls : List Decl) → there (filter (is_named x) decls) x ≡ there decls x
there_kept x decls =
    ap (λ b. stands b (is_predicate_there (filter (is_named x) decls) x)) (plains_kept x decls)
    ∙ ap (stands (is_name_of (plain_names decls) x))
    (any_kept (is_named x) (λ decl. is_predicate decl && is_named x decl) (λ decl t. (and_parts (is_predicate decl) (is_named x decl) t).1) decls)

children_kept : (x : Bytes) (decls : List Decl) → children_of (filter (concerns (fact.Children x)) decls) x ≡ children_of decls x
children_kept x [] = refl
children_kept x (d.Object own parents ∷ decls) =
    let p = concerns (fact.Children x) in
    elim (cases_Bool (is_name_of parents x)) [
      | inl t ↦
          taken p (λ ds. children_of ds x) (d.Object own parents) decls t
          ∙ cond-true (is_name_of parents x) ((own, h.Plain) ∷ children_of (filter p decls) x) (children_of (filter p decls) x) t
          ∙ ap (λ rest. (own, h.Plain) ∷ rest) (children_kept x decls)
          ∙ sym (cond-true (is_name_of parents x) ((own, h.Plain) ∷ children_of decls x) (children_of decls x) t)
      | inr f ↦
          dropped p (λ ds. children_of ds x) (d.Object own parents) decls f ∙ children_kept x decls
          ∙ sym (cond-false (is_name_of parents x) ((own, h.Plain) ∷ children_of decls x) (children_of decls x) f)
    ]
children_kept x (d.Predicate own parents test ∷ decls) =
    let p = concerns (fact.Children x) in
    elim (cases_Bool (is_name_of parents x)) [
      | inl t ↦
          taken p (λ ds. children_of ds x) (d.Predicate own parents test) decls t
          ∙ cond-true (is_name_of parents x) ((own, h.Predicate) ∷ children_of (filter p decls) x) (children_of (filter p decls) x) t
          ∙ ap (λ rest. (own, h.Predicate) ∷ rest) (children_kept x decls)
          ∙ sym (cond-true (is_name_of parents x) ((own, h.Predicate) ∷ children_of decls x) (children_of decls x) t)
      | inr f ↦
          dropped p (λ ds. children_of ds x) (d.Predicate own parents test) decls f ∙ children_kept x decls
          ∙ sym (cond-false (is_name_of parents x) ((own, h.Predicate) ∷ children_of decls x) (children_of decls x) f)
    ]
children_kept x (d.Field key start changeable ∷ decls) = children_kept x decls
children_kept x (d.Method key formals body ∷ decls) = children_kept x decls

fields_kept : (x : Bytes) (decls : List Decl) → fields_of (filter (concerns (fact.Fields x)) decls) x ≡ fields_of decls x
fields_kept x [] = refl
fields_kept x (d.Object own parents ∷ decls) = fields_kept x decls
fields_kept x (d.Predicate own parents test ∷ decls) = fields_kept x decls
fields_kept x (d.Method key formals body ∷ decls) = fields_kept x decls
fields_kept x (d.Field key start changeable ∷ decls) =
    let p = concerns (fact.Fields x) in
    elim (cases_Bool (bytes_eq key.specialiser x)) [
      | inl t ↦
          taken p (λ ds. fields_of ds x) (d.Field key start changeable) decls t
          ∙ cond-true (bytes_eq key.specialiser x) ((key.name, start, changeable) ∷ fields_of (filter p decls) x) (fields_of (filter p decls) x) t
          ∙ ap (λ rest. (key.name, start, changeable) ∷ rest) (fields_kept x decls)
          ∙ sym (cond-true (bytes_eq key.specialiser x) ((key.name, start, changeable) ∷ fields_of decls x) (fields_of decls x) t)
      | inr f ↦
          dropped p (λ ds. fields_of ds x) (d.Field key start changeable) decls f ∙ fields_kept x decls
          ∙ sym (cond-false (bytes_eq key.specialiser x) ((key.name, start, changeable) ∷ fields_of decls x) (fields_of decls x) f)
    ]

-- ---- methods

source_kept : (key : MethodKey) (decls : List Decl) → source (filter (concerns (fact.Body key)) decls) key ≡ source decls key
source_kept key decls =
    ap source_by (found_kept (concerns (fact.Body key)) (λ decl. occupies decl (decl_keys.Method key)) (λ decl t. t) decls)

-- none has the selector
none_selected : (selector : Selector) (keys : List DeclKey) → list_any (is_method_of selector) keys ≡ false → with_selector selector keys ≡ []
none_selected selector [] f = refl
none_selected selector (decl_keys.Object x ∷ keys) f = none_selected selector keys f
none_selected selector (decl_keys.Predicate x ∷ keys) f = none_selected selector keys f
none_selected selector (decl_keys.Field key ∷ keys) f = none_selected selector keys f
none_selected selector (decl_keys.Method key ∷ keys) f =
    let r = or_parts (is_method_of selector (decl_keys.Method key)) (list_any (is_method_of selector) keys) f in
    cond-false (is_method_of selector (decl_keys.Method key)) (key ∷ with_selector selector keys) (with_selector selector keys) r.0
    ∙ none_selected selector keys r.1

-- what is selected has it
has_selector : (selector : Selector) (keys : List DeclKey) (key : MethodKey) → IsIn key (with_selector selector keys) →
    is_method_of selector (decl_keys.Method key) ≡ true
has_selector selector [] key i = absurd i
has_selector selector (decl_keys.Object x ∷ keys) key i = has_selector selector keys key i
has_selector selector (decl_keys.Predicate x ∷ keys) key i = has_selector selector keys key i
has_selector selector (decl_keys.Field own ∷ keys) key i = has_selector selector keys key i
has_selector selector (decl_keys.Method own ∷ keys) key i =
    elim (cases_Bool (is_method_of selector (decl_keys.Method own))) [
      | inl t ↦
          elim (subst (IsIn key) (cond-true (is_method_of selector (decl_keys.Method own)) (own ∷ with_selector selector keys)
          (with_selector selector keys) t) i) [
            | inl e ↦ subst (λ z. is_method_of selector (decl_keys.Method z) ≡ true) e t
            | inr j ↦ has_selector selector keys key j
          ]
      | inr f ↦
          has_selector selector keys key
          (subst (IsIn key) (cond-false (is_method_of selector (decl_keys.Method own)) (own ∷ with_selector selector keys) (with_selector selector keys) f) i)
    ]

methods_have : (selector : Selector) (decls : List Decl) (key : MethodKey) → IsIn key (methods decls selector) →
    is_method_of selector (decl_keys.Method key) ≡ true
methods_have selector [] key i = has_selector selector primitive_keys key i
methods_have selector (decl ∷ decls) key i =
    elim (in_either key (with_selector selector (occupied decl)) (methods decls selector) i) [
      | inl j ↦ has_selector selector (occupied decl) key j
      | inr j ↦ methods_have selector decls key j
    ]

methods_kept : (selector : Selector) (decls : List Decl) → methods (filter (concerns (fact.Heads selector)) decls) selector ≡ methods decls selector
methods_kept selector [] = refl
methods_kept selector (decl ∷ decls) =
    let p = concerns (fact.Heads selector) in
    elim (cases_Bool (p decl)) [
      | inl t ↦
          taken p (λ ds. methods ds selector) decl decls t ∙ ap (λ rest. with_selector selector (occupied decl) ++ rest) (methods_kept selector decls)
      | inr f ↦
          dropped p (λ ds. methods ds selector) decl decls f ∙ methods_kept selector decls
          ∙ ap (λ own. own ++ methods decls selector) (sym (none_selected selector (occupied decl) f))
    ]

kind_kept : (selector : Selector) (decls : List Decl) (key : MethodKey) → is_method_of selector (decl_keys.Method key) ≡ true →
    kind (filter (concerns (fact.Heads selector)) decls) key ≡ kind decls key
kind_kept selector decls key t =
    ap (kind_by key) (found_kept (concerns (fact.Heads selector)) (λ decl. occupies decl (decl_keys.Method key)) (λ decl own.
    let r = in_any (λ one. same_key one (decl_keys.Method key)) (occupied decl) own in
    any_in (is_method_of selector) (occupied decl) r.0 r.1
    (subst (λ z. is_method_of selector z ≡ true) (sym (same_key_is r.0 (decl_keys.Method key) r.2)) t)) decls)

each_with_kind : (before after : List Decl) (keys : List MethodKey) → ((key : MethodKey) → IsIn key keys → kind before key ≡ kind after key) →
    map (with_kind before) keys ≡ map (with_kind after) keys
each_with_kind before after [] same = refl
each_with_kind before after (key ∷ keys) same =
    ap (λ own. (key, own) ∷ map (with_kind before) keys) (same key (inl refl))
    ∙ ap (λ rest. (key, kind after key) ∷ rest) (each_with_kind before after keys (λ other i. same other (inr i)))

heads_kept : (selector : Selector) (decls : List Decl) → heads (filter (concerns (fact.Heads selector)) decls) selector ≡ heads decls selector
heads_kept selector decls =
    let kept : List Decl = filter (concerns (fact.Heads selector)) decls in
    ap (λ keys. map (with_kind kept) (sorted keys)) (methods_kept selector decls)
    ∙ each_with_kind kept decls (sorted (methods decls selector)) (λ key i.
    kind_kept selector decls key (methods_have selector decls key (sorted_in (methods decls selector) key i)))

-- ---- facts

fact_kept : (one : Fact) (decls : List Decl) → fact_of (filter (concerns one) decls) one ≡ fact_of decls one
fact_kept (fact.Decl x) decls = ap answers.Decl (decls_kept x decls)
fact_kept (fact.Children x) decls = ap answers.Children (children_kept x decls)
fact_kept (fact.There x) decls = ap answers.There (there_kept x decls)
fact_kept (fact.Heads selector) decls = ap answers.Heads (heads_kept selector decls)
fact_kept (fact.Body key) decls = ap (λ o. answers.Body (text_of o)) (source_kept key decls)
fact_kept (fact.Fields x) decls = ap answers.Fields (fields_kept x decls)

-- Where the declarations that concern a fact are the same, so is the fact.
pub same_fact : (one : Fact) (before after : List Decl) → filter (concerns one) before ≡ filter (concerns one) after → fact_of before one ≡ fact_of after one
same_fact one before after same = sym (fact_kept one before) ∙ ap (λ ds. fact_of ds one) same ∙ fact_kept one after

-- A change of what does not concern a fact leaves the declarations that do, wherever it stands.
pub without_one : (p : Decl → Bool) (front : List Decl) (one : Decl) (rest : List Decl) → p one ≡ false →
    filter p (front ++ one ∷ rest) ≡ filter p (front ++ rest)
without_one p [] one rest f = cond-false (p one) (one ∷ filter p rest) (filter p rest) f
without_one p (decl ∷ front) one rest f =
    elim (cases_Bool (p decl)) [
      | inl t ↦
          cond-true (p decl) (decl ∷ filter p (front ++ one ∷ rest)) (filter p (front ++ one ∷ rest)) t
          ∙ ap (λ ds. decl ∷ ds) (without_one p front one rest f)
          ∙ sym (cond-true (p decl) (decl ∷ filter p (front ++ rest)) (filter p (front ++ rest)) t)
      | inr t ↦
          cond-false (p decl) (decl ∷ filter p (front ++ one ∷ rest)) (filter p (front ++ one ∷ rest)) t ∙ without_one p front one rest f
          ∙ sym (cond-false (p decl) (decl ∷ filter p (front ++ rest)) (filter p (front ++ rest)) t)
    ]
