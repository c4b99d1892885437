-- What holds the name of an object or predicate.
use Rattle.std.proofs.Common.{◌≡◌, List, [], ◌∷◌, Bool, true, false, ◌&&◌, Some, None, refl, sym, ap, ◌∙◌, inl, inr}
use Rattle.std.specs.Cmp.Derive.{one_truth}
use Rattle.std.proofs.lemmas.Bool.{cases_Bool, cond-true, cond-false, false≢true, false_from_ne_true, and_parts, and_from, or_parts}
use Rattle.vx_lists.specs.Members.{IsIn}
use Rattle.vx_lists.proofs.Members.{any_in, in_any}
use Rattle.vx_lists.proofs.Texts.{same_bytes, bytes_same}
use Rattle.vx_names.specs.declared.key.DeclKey.{DeclKey}
use Rattle.vx_names.specs.declared.key.DeclKey.TheVariants as k
use Rattle.vx_names.specs.Key.{key_name}
use Rattle.vx_syntax.specs.declared.decl.Decl.{Decl}
use Rattle.vx_syntax.specs.declared.decl.Decl.TheVariants as d
use Rattle.vx_syntax.specs.Expressions.{Bytes}
use Rattle.vx_syntax.specs.Keys.{key_of}
use Rattle.vx_program.specs.Prelude.{primitives, is_primitive}
use Rattle.vx_program.specs.Program.{IsProgram, is_named, is_there, is_predicate, is_predicate_there, occupies}
use Rattle.vx_program.specs.Apply.{held, holder}
use Rattle.vx_program.proofs.ByKey.{occupies_is, occupies_name}

-- only what has the name occupies it
name_alone : (x : Bytes) (a : Decl) → occupies a (k.Object x) ≡ true → is_named x a ≡ true
name_alone x (d.Object own parents) o =
    elim (occupies_is (d.Object own parents) (k.Object x) o) [ inl e ↦ bytes_same own x (ap key_name e) | inr none ↦ absurd none ]
name_alone x (d.Predicate own parents test) o =
    elim (occupies_is (d.Predicate own parents test) (k.Object x) o) [ inl e ↦ bytes_same own x (ap key_name e) | inr none ↦ absurd none ]
name_alone x (d.Field own start true) o =
    elim (occupies_is (d.Field own start true) (k.Object x) o) [
      | inl e ↦ absurd (cc)
      | inr (inl e) ↦ absurd (cc)
      | inr (inr (inl e)) ↦ absurd (cc)
      | inr (inr (inr none)) ↦ absurd none
    ]
name_alone x (d.Field own start false) o =
    elim (occupies_is (d.Field own start false) (k.Object x) o) [
      | inl e ↦ absurd (cc)
      | inr (inl e) ↦ absurd (cc)
      | inr (inr none) ↦ absurd none
    ]
name_alone x (d.Method own formals body) o =
    elim (occupies_is (d.Method own formals body) (k.Object x) o) [ inl e ↦ absurd (cc) | inr none ↦ absurd none ]

-- what alone occupies the key is its holder
only_holder : (program : List Decl) (key : DeclKey) (a : Decl) → IsIn a program → occupies a key ≡ true →
    ((b : Decl) → IsIn b program → occupies b key ≡ true → b ≡ a) → holder program key ≡ Some (held a key)
only_holder [] key a i o one = absurd i
only_holder (decl ∷ decls) key a i o one =
    elim (cases_Bool (occupies decl key)) [
      | inl t ↦
          cond-true (occupies decl key) (Some (held decl key)) (holder decls key) t ∙ ap (λ z. Some (held z key)) (one decl (inl refl) t)
      | inr f ↦
          cond-false (occupies decl key) (Some (held decl key)) (holder decls key) f
          ∙ only_holder decls key a (elim i [ inl e ↦ absurd (false≢true (sym f ∙ ap (λ z. occupies z key) e ∙ o)) | inr j ↦ j ]) o (λ b j. one b (inr j))
    ]

held_by_own : (x : Bytes) (a : Decl) → is_named x a ≡ true → held a (k.Object x) ≡ key_of a
held_by_own x (d.Object own parents) n = ap k.Object (sym (same_bytes own x n))
held_by_own x (d.Predicate own parents test) n = refl
held_by_own x (d.Field own start changeable) n = absurd (false≢true n)
held_by_own x (d.Method own formals body) n = absurd (false≢true n)

-- the declaration of the name holds it, by its own key
pub name_held : (program : List Decl) → IsProgram program → (x : Bytes) (a : Decl) → IsIn a program → is_named x a ≡ true →
    holder program (k.Object x) ≡ Some (key_of a)
name_held program is x a i n =
    only_holder program (k.Object x) a i (occupies_name x a n) (λ b j o. is.apart b a (k.Object x) j i o (occupies_name x a n))
    ∙ ap Some (held_by_own x a n)

no_primitive_holds : (x : Bytes) → is_primitive (k.Object x) ≡ false
unfolding primitives
no_primitive_holds x = refl

pub name_not_held : (program : List Decl) (x : Bytes) → is_there program x ≡ false → holder program (k.Object x) ≡ None
name_not_held [] x h = cond-false (is_primitive (k.Object x)) (Some (k.Object x)) None (no_primitive_holds x)
name_not_held (decl ∷ decls) x h =
    let both = or_parts (is_named x decl) (is_there decls x) h in
    let free : occupies decl (k.Object x) ≡ false = false_from_ne_true (occupies decl (k.Object x)) (λ t. false≢true (sym both.0 ∙ name_alone x decl t)) in
    cond-false (occupies decl (k.Object x)) (Some (held decl (k.Object x))) (holder decls (k.Object x)) free ∙ name_not_held decls x both.1

-- there is a predicate of the name where the declaration of the name is one
pub predicate_named : (program : List Decl) → IsProgram program → (x : Bytes) (a : Decl) → IsIn a program → is_named x a ≡ true →
    is_predicate a ≡ is_predicate_there program x
predicate_named program is x a i n =
    let p : Decl → Bool = λ decl. is_predicate decl && is_named x decl in
    one_truth (is_predicate a) (is_predicate_there program x) (λ h. any_in p program a i (and_from (is_predicate a) (is_named x a) h n)) (λ h.
    let r = in_any p program h in
    let both = and_parts (is_predicate r.0) (is_named x r.0) r.2 in
    let same : r.0 ≡ a = is.apart r.0 a (k.Object x) r.1 i (occupies_name x r.0 both.1) (occupies_name x a n) in
    sym (ap is_predicate same) ∙ both.0)

pub no_predicate : (program : List Decl) (x : Bytes) → is_there program x ≡ false → is_predicate_there program x ≡ false
no_predicate program x h =
    let p : Decl → Bool = λ decl. is_predicate decl && is_named x decl in
    false_from_ne_true (is_predicate_there program x) (λ t.
    let r = in_any p program t in
    false≢true (sym h ∙ any_in (is_named x) program r.0 r.1 (and_parts (is_predicate r.0) (is_named x r.0) r.2).1))
