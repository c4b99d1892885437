-- Whether what a name means is a predicate, and how great the number of a primitive is.
use Rattle.std.proofs.Common.{◌≡◌, ℕ, ◌<◌, ◌&&◌, Bool, true, false, List, length, cond, Option, Some, None, refl, sym, ap, ◌∙◌, subst, arith}
use Rattle.std.specs.List.{position_or_len}
use Rattle.std.specs.Option.{IfSome}
use Rattle.std.proofs.Math.Dec.{ltb}
use Rattle.std.proofs.lemmas.Bool.{false≢true, and_from, and_parts, false_from_ne_true, both_ways, ltb-true}
use Rattle.std.proofs.lemmas.Iterator.Adapters.{position_from-zero}
use Rattle.vx_lists.specs.Members.{IsIn}
use Rattle.vx_lists.proofs.Members.{any_in, in_any, none_of}
use Rattle.vx_lists.proofs.Texts.{same_bytes}
use Rattle.vx_names.specs.declared.key.MethodKey.{MethodKey}
use Rattle.vx_names.specs.declared.key.DeclKey.TheVariants as k
use Rattle.vx_syntax.specs.declared.decl.Decl.{Decl}
use Rattle.vx_syntax.specs.declared.decl.Decl.TheVariants as d
use Rattle.vx_syntax.specs.declared.test.Test.{Test}
use Rattle.vx_syntax.specs.Expressions.{Bytes}
use Rattle.vx_program.specs.Prelude.{same_key, primitives, primitive_keys}
use Rattle.vx_program.specs.Program.{IsProgram, is_named, is_there, is_predicate, is_predicate_there}
use Rattle.vx_model.specs.Kinds.{number_of}
use Rattle.vx_model.proofs.Heights.{one_named}
use Rattle.vx_model.proofs.Places.{Found}

-- There is a predicate of a name where the declaration of the name is one.
pub predicate_is : (program : List Decl) → IsProgram program → (x : Bytes) (own : Decl) → Found program x own → is_predicate_there program x ≡ is_predicate own
predicate_is program well x own found = by (is_predicate own) refl
  where
    by : (b : Bool) → is_predicate own ≡ b → is_predicate_there program x ≡ b
    by true e = any_in (λ decl. is_predicate decl && is_named x decl) program own found.within (and_from (is_predicate own) (is_named x own) e found.named)
    by false e = false_from_ne_true (is_predicate_there program x) (λ there.
        let r = in_any (λ decl. is_predicate decl && is_named x decl) program there in
        let both = and_parts (is_predicate r.0) (is_named x r.0) r.2 in
        both_ways (is_predicate own) e (ap is_predicate (one_named program well x own r.0 found.within r.1 found.named both.1) ∙ both.0))

-- What is not made as a predicate is none.
pub no_predicate : (decl : Decl) → ((x : Bytes) (parents : List Bytes) (test : Test) → decl ≡ d.Predicate x parents test → ⊥) → is_predicate decl ≡ false
no_predicate (d.Object x parents) never = refl
no_predicate (d.Predicate x parents test) never = absurd (never x parents test refl)
no_predicate (d.Field key start changeable) never = refl
no_predicate (d.Method key formals body) never = refl

-- What is not there is no predicate.
pub none_there : (program : List Decl) (x : Bytes) → is_there program x ≡ false → is_predicate_there program x ≡ false
none_there program x none = false_from_ne_true (is_predicate_there program x) (λ there.
    let r = in_any (λ decl. is_predicate decl && is_named x decl) program there in
    both_ways (is_there program x) none (any_in (is_named x) program r.0 r.1 (and_parts (is_predicate r.0) (is_named x r.0) r.2).1))

-- What is there and no predicate is a plain object.
pub plain_there : (program : List Decl) (x : Bytes) → is_there program x ≡ true → is_predicate_there program x ≡ false →
    (parents : List Bytes) × IsIn (d.Object x parents) program
plain_there program x there none = let r = in_any (is_named x) program there in of r.0 r.1 r.2
  where
    of : (decl : Decl) → IsIn decl program → is_named x decl ≡ true → (parents : List Bytes) × IsIn (d.Object x parents) program
    of (d.Object own parents) i n = (parents, subst (λ z. IsIn (d.Object z parents) program) (same_bytes own x n) i)
    of (d.Predicate own parents test) i n = absurd (false≢true (sym (none_of _ program none (d.Predicate own parents test) i) ∙ n))
    of (d.Field key start changeable) i n = absurd (false≢true n)
    of (d.Method key formals body) i n = absurd (false≢true n)

-- there are as many primitives
count_of_primitives : length primitive_keys ≡ 18
unfolding primitives
count_of_primitives = refl

-- The number of a primitive is less than their count.
pub few : (key : MethodKey) → IfSome (number_of key) (λ n. n < 18)
few key =
    subst (λ (o : Option ℕ). IfSome o (λ n. n < 18)) (position_from-zero (λ one. same_key one (k.Method key)) primitive_keys)
    (by (ltb (position_or_len (λ one. same_key one (k.Method key)) primitive_keys) (length primitive_keys)) refl)
  where
    by : (b : Bool) → ltb (position_or_len (λ one. same_key one (k.Method key)) primitive_keys) (length primitive_keys) ≡ b →
        IfSome (cond b (Some (position_or_len (λ one. same_key one (k.Method key)) primitive_keys)) None) (λ n. n < 18)
    by true e = omega (arith, ltb-true (position_or_len (λ one. same_key one (k.Method key)) primitive_keys) (length primitive_keys) e, count_of_primitives)
    by false e = tt
