-- What is declared under a name that stands at one place, or nowhere.
use Rattle.std.proofs.Common.{◌≡◌, ℕ, zero, suc, true, false, List, [], ◌∷◌, Some, ◌&&◌, get_or, slice_get, refl, ap, ◌∙◌, subst}
use Rattle.std.proofs.lemmas.Bool.{cond-true, cond-false, false≢true, false_from_ne_true, and_parts}
use Rattle.std.proofs.lemmas.Option.{same_Some, get_or_from_slice_get}
use Rattle.std.specs.Str.{bytes_eq}
use Rattle.vx_lists.specs.Members.{IsIn}
use Rattle.vx_lists.proofs.Members.{any_in, in_any}
use Rattle.vx_lists.proofs.Places.{at_in}
use Rattle.vx_lists.proofs.Texts.{same_bytes, bytes_same}
use Rattle.vx_syntax.specs.declared.decl.Decl.{Decl}
use Rattle.vx_syntax.specs.declared.decl.Decl.TheVariants as d
use Rattle.vx_syntax.specs.Expressions.{Bytes}
use Rattle.vx_program.specs.Program.{IsProgram, is_named, is_name_of, is_predicate, is_predicate_there}
use Rattle.vx_node.specs.declared.answer.Known.TheVariants as known
use Rattle.vx_node.specs.declared.answer.Stands.TheVariants as h
use Rattle.vx_model.specs.Order.{plain_names}
use Rattle.vx_model.proofs.Bases.{plain_in, in_plain}
use Rattle.vx_model.proofs.Heights.{one_named}
use Rattle.vx_answers.specs.Facts.{known_as, decl_of}
use Rattle.vx_compilation.specs.Compiled.{stands, there}
use Rattle.vx_facts.specs.Standing.{stands_as}

-- the declarations of a name stand at this place alone
abbrev pub StandsAt : List Decl → Bytes → ℕ → Type 0
StandsAt decls x place = (other : ℕ) (decl : Decl) → slice_get decls other ≡ Some decl → is_named x decl ≡ true → other ≡ place

abbrev pub StandsNowhere : List Decl → Bytes → Type 0
StandsNowhere decls x = (place : ℕ) (decl : Decl) → slice_get decls place ≡ Some decl → is_named x decl ≡ true → ⊥

pub decl_at : (decls : List Decl) (x : Bytes) (place : ℕ) (decl : Decl) → slice_get decls place ≡ Some decl → is_named x decl ≡ true → StandsAt decls x place →
    decl_of decls x ≡ known_as decl
decl_at [] x place decl at named only = absurd (cc)
decl_at (own ∷ decls) x zero decl at named only =
    let same : own ≡ decl = same_Some own decl at in
    cond-true (is_named x own) (known_as own) (decl_of decls x) (ap (is_named x) same ∙ named) ∙ ap known_as same
decl_at (own ∷ decls) x (suc place) decl at named only =
    cond-false (is_named x own) (known_as own) (decl_of decls x) (false_from_ne_true (is_named x own)
    (λ first. let e : zero ≡ suc place = only zero own refl first in cc))
    ∙ decl_at decls x place decl at named (λ other one e n. let more : suc other ≡ suc place = only (suc other) one e n in cc)

pub no_decl : (decls : List Decl) (x : Bytes) → StandsNowhere decls x → decl_of decls x ≡ known.Nothing
no_decl [] x never = refl
no_decl (own ∷ decls) x never =
    cond-false (is_named x own) (known_as own) (decl_of decls x) (false_from_ne_true (is_named x own) (λ first. never zero own refl first))
    ∙ no_decl decls x (λ place one e n. never (suc place) one e n)

-- a name among others is one of them, and the other way round
name_in : (names : List Bytes) (x : Bytes) → is_name_of names x ≡ true → IsIn x names
name_in names x e = let one = in_any (λ z. bytes_eq z x) names e in subst (λ z. IsIn z names) (same_bytes one.0 x one.2) one.1

in_name : (names : List Bytes) (x : Bytes) → IsIn x names → is_name_of names x ≡ true
in_name names x j = any_in (λ z. bytes_eq z x) names x j (bytes_same x x refl)

pub there_at : (program : List Decl) → IsProgram program → (x : Bytes) (decl : Decl) → IsIn decl program → is_named x decl ≡ true →
    there program x ≡ stands_as decl
there_at program well x (d.Object own parents) i named =
    ap (λ b. stands b (is_predicate_there program x))
    (in_name (plain_names program) x (in_plain program x parents (subst (λ z. IsIn (d.Object z parents) program) (same_bytes own x named) i)))
there_at program well x (d.Predicate own parents test) i named =
    ap (λ b. stands b (is_predicate_there program x)) (false_from_ne_true (is_name_of (plain_names program) x) (λ plain.
    let object = plain_in program x (name_in (plain_names program) x plain) in
    let same : d.Predicate own parents test ≡ d.Object x object.0 =
    one_named program well x (d.Predicate own parents test) (d.Object x object.0) i object.1 named (bytes_same x x refl) in
    absurd (cc)))
    ∙ ap (λ b. stands false b) (any_in (λ decl. is_predicate decl && is_named x decl) program (d.Predicate own parents test) i named)
there_at program well x (d.Field key start changeable) i named = absurd (false≢true named)
there_at program well x (d.Method key formals body) i named = absurd (false≢true named)

pub not_there : (program : List Decl) (x : Bytes) → StandsNowhere program x → there program x ≡ h.Nothing
not_there program x never =
    ap (λ b. stands b (is_predicate_there program x)) (false_from_ne_true (is_name_of (plain_names program) x) (λ plain.
    let object = plain_in program x (name_in (plain_names program) x plain) in
    let at = at_in program (d.Object x object.0) object.1 in
    never at.0 (d.Object x object.0) at.1 (bytes_same x x refl)))
    ∙ ap (λ b. stands false b) (false_from_ne_true (is_predicate_there program x) (λ there.
    let one = in_any (λ decl. is_predicate decl && is_named x decl) program there in
    let at = at_in program one.0 one.1 in
    never at.0 one.0 at.1 (and_parts (is_predicate one.0) (is_named x one.0) one.2).1))

-- what was read at a place is what stands there
pub read_is : (decls : List Decl) (place : ℕ) (decl own : Decl) → slice_get decls place ≡ Some decl → own ≡ get_or decls place own → own ≡ decl
read_is decls place decl own at is = is ∙ get_or_from_slice_get decls place decl own at
