-- What a declaration says of each fact, and that the answer to a fact is what all declarations say of it.
use Rattle.std.proofs.Common.{◌≡◌, Bool, true, false, if◌then◌else◌, List, [], ◌∷◌, Option, Some, None, refl, sym, ap, ◌∙◌, subst, inl}
use Rattle.std.specs.List.{find}
use Rattle.std.specs.Str.{bytes_eq}
use Rattle.std.proofs.lemmas.Bool.{false≢true}
use Rattle.std.proofs.lemmas.Option.{same_Some}
use Rattle.vx_lists.specs.Members.{IsIn}
use Rattle.vx_lists.proofs.Finding.{found_is, only_found}
use Rattle.vx_lists.proofs.Places.{in_at}
use Rattle.vx_names.specs.declared.key.MethodKey.{MethodKey}
use Rattle.vx_names.specs.declared.key.DeclKey.TheVariants as k
use Rattle.vx_names.specs.Key.{key_name}
use Rattle.vx_syntax.specs.declared.decl.Decl.{Decl}
use Rattle.vx_syntax.specs.declared.decl.Decl.TheVariants as d
use Rattle.vx_syntax.specs.declared.decl.Start.{Start}
use Rattle.vx_syntax.specs.declared.expr.Body.{Body}
use Rattle.vx_syntax.specs.Expressions.{Bytes}
use Rattle.vx_syntax.specs.Keys.{key_of}
use Rattle.vx_program.specs.Program.{IsProgram, is_named, is_name_of, parents_of, occupies}
use Rattle.vx_node.specs.declared.answer.Known.{Known}
use Rattle.vx_node.specs.declared.answer.Known.TheVariants as known
use Rattle.vx_node.specs.declared.answer.Stands.{Stands}
use Rattle.vx_node.specs.declared.answer.Stands.TheVariants as h
use Rattle.vx_model.specs.Kinds.{source, source_by}
use Rattle.vx_model.proofs.Heights.{one_named}
use Rattle.vx_answers.specs.Facts.{known_as, decl_of, children_of, fields_of, text_of}
use Rattle.vx_compilation.specs.Compiled.{there}
use Rattle.vx_facts.specs.Standing.{stands_as}
use Rattle.vx_facts.proofs.Declared.{there_at, not_there}
use Rattle.vx_facts.proofs.Speaking.{with_said, all_said, said_in, in_said}

-- something that is said under a condition
abbrev pub if_said : {S : Type 0} → Bool → S → Option S
if_said true s = Some s
if_said false s = None

pub said_if : {S : Type 0} (b : Bool) (s t : S) → if_said b s ≡ Some t → (b ≡ true) × (s ≡ t)
said_if true s t e = (refl, same_Some s t e)
said_if false s t e = absurd (cc)

pub if_so : {S : Type 0} (b : Bool) (s : S) → b ≡ true → if_said b s ≡ Some s
if_so b s e = ap (λ z. if_said z s) e

-- the first that is said, or else what an answer is where nothing is said
abbrev pub first_or : {S : Type 0} → S → List S → S
first_or none [] = none
first_or none (s ∷ rest) = s

-- ---- what is said of each fact

abbrev pub said_known : Bytes → Decl → Option Known
said_known x decl = if_said (is_named x decl) (known_as decl)

abbrev pub said_there : Bytes → Decl → Option Stands
said_there x decl = if_said (is_named x decl) (stands_as decl)

abbrev pub said_child : Bytes → Decl → Option (Bytes × Stands)
said_child x decl = if_said (is_name_of (parents_of decl) x) (key_name (key_of decl), stands_as decl)

abbrev pub said_field : Bytes → Decl → Option (Bytes × Start × Bool)
said_field x (d.Field key start changeable) = if_said (bytes_eq key.specialiser x) (key.name, start, changeable)
said_field x (d.Object own parents) = None
said_field x (d.Predicate own parents test) = None
said_field x (d.Method key formals body) = None

abbrev pub Text : Type 0
Text = List (Option Bytes) × Body

abbrev pub said_text : MethodKey → Decl → Option (Option Text)
said_text key (d.Method own formals body) = if_said (occupies (d.Method own formals body) (k.Method key)) (Some (formals, body))
said_text key (d.Object own parents) = None
said_text key (d.Predicate own parents test) = None
said_text key (d.Field own start changeable) = None

-- ---- answers that are the first that is said

first_step : {S : Type 0} (none : S) (b : Bool) (s rest : S) (more : List S) → rest ≡ first_or none more →
    (if b then s else rest) ≡ first_or none (with_said (if_said b s) more)
first_step none true s rest more e = refl
first_step none false s rest more e = e

pub known_is : (x : Bytes) (decls : List Decl) → decl_of decls x ≡ first_or known.Nothing (all_said (said_known x) decls)
known_is x [] = refl
known_is x (decl ∷ decls) =
    first_step known.Nothing (is_named x decl) (known_as decl) (decl_of decls x) (all_said (said_known x) decls) (known_is x decls)

pub there_is : (x : Bytes) (program : List Decl) → IsProgram program → there program x ≡ first_or h.Nothing (all_said (said_there x) program)
there_is x program well = by (all_said (said_there x) program) refl
  where
    by : (all : List Stands) → all_said (said_there x) program ≡ all → there program x ≡ first_or h.Nothing all
    by [] e =
        not_there program x (λ place decl at named.
        subst (IsIn (stands_as decl)) e
        (in_said (said_there x) program decl (stands_as decl) (in_at program place decl at) (if_so (is_named x decl) (stands_as decl) named)))
    by (s ∷ rest) e =
        let r = said_in (said_there x) program s (subst (IsIn s) (sym e) (inl refl)) in
        let so = said_if (is_named x r.0) (stands_as r.0) s r.2 in
        there_at program well x r.0 r.1 so.0 ∙ so.1

-- whose text it is
pub text_of_it : (key : MethodKey) (decl : Decl) (s : Option Text) → said_text key decl ≡ Some s →
    (occupies decl (k.Method key) ≡ true) × (text_of (source_by (Some decl)) ≡ s)
text_of_it key (d.Method own formals body) s e = said_if (occupies (d.Method own formals body) (k.Method key)) (Some (formals, body)) s e
text_of_it key (d.Object own parents) s e = absurd (cc)
text_of_it key (d.Predicate own parents test) s e = absurd (cc)
text_of_it key (d.Field own start changeable) s e = absurd (cc)

-- where no text is said, what occupies the key has none
no_text : (key : MethodKey) (program : List Decl) → all_said (said_text key) program ≡ [] → (decl : Decl) → IsIn decl program →
    occupies decl (k.Method key) ≡ true → text_of (source_by (Some decl)) ≡ None
no_text key program e (d.Method own formals body) i t =
    absurd (subst (IsIn (Some (formals, body))) e
    (in_said (said_text key) program (d.Method own formals body) (Some (formals, body)) i
    (if_so (occupies (d.Method own formals body) (k.Method key)) (Some (formals, body)) t)))
no_text key program e (d.Object own parents) i t = refl
no_text key program e (d.Predicate own parents test) i t = refl
no_text key program e (d.Field own start changeable) i t = refl

pub text_is : (key : MethodKey) (program : List Decl) → IsProgram program →
    text_of (source program key) ≡ first_or None (all_said (said_text key) program)
text_is key program well = by (all_said (said_text key) program) refl
  where
    is_it : Decl → Bool
    is_it decl = occupies decl (k.Method key)

    none : all_said (said_text key) program ≡ [] → (o : Option Decl) → find is_it program ≡ o → text_of (source_by o) ≡ None
    none e None at = refl
    none e (Some decl) at = let r = found_is is_it program decl at in no_text key program e decl r.0 r.1

    by : (all : List (Option Text)) → all_said (said_text key) program ≡ all → text_of (source program key) ≡ first_or None all
    by [] e = none e (find is_it program) refl
    by (s ∷ rest) e =
        let r = said_in (said_text key) program s (subst (IsIn s) (sym e) (inl refl)) in
        let so = text_of_it key r.0 s r.2 in
        ap (λ o. text_of (source_by o))
        (only_found is_it program r.0 r.1 so.0 (λ other j t. well.apart other r.0 (k.Method key) j r.1 t so.0)) ∙ so.1

-- ---- answers that are all that is said

list_step : {S : Type 0} (b : Bool) (s : S) (rest more : List S) → rest ≡ more → (if b then s ∷ rest else rest) ≡ with_said (if_said b s) more
list_step true s rest more e = ap (λ z. s ∷ z) e
list_step false s rest more e = e

pub children_are : (x : Bytes) (decls : List Decl) → children_of decls x ≡ all_said (said_child x) decls
children_are x [] = refl
children_are x (d.Object own parents ∷ decls) =
    list_step (is_name_of parents x) (own, h.Plain) (children_of decls x) (all_said (said_child x) decls) (children_are x decls)
children_are x (d.Predicate own parents test ∷ decls) =
    list_step (is_name_of parents x) (own, h.Predicate) (children_of decls x) (all_said (said_child x) decls) (children_are x decls)
children_are x (d.Field key start changeable ∷ decls) = children_are x decls
children_are x (d.Method key formals body ∷ decls) = children_are x decls

pub fields_are : (x : Bytes) (decls : List Decl) → fields_of decls x ≡ all_said (said_field x) decls
fields_are x [] = refl
fields_are x (d.Field key start changeable ∷ decls) =
    list_step (bytes_eq key.specialiser x) (key.name, start, changeable) (fields_of decls x) (all_said (said_field x) decls) (fields_are x decls)
fields_are x (d.Object own parents ∷ decls) = fields_are x decls
fields_are x (d.Predicate own parents test ∷ decls) = fields_are x decls
fields_are x (d.Method key formals body ∷ decls) = fields_are x decls

-- ---- one alone says how a name stands, and the text of a method

pub one_known : (x : Bytes) (program : List Decl) → IsProgram program → (s t : Known) → IsIn s (all_said (said_known x) program) →
    IsIn t (all_said (said_known x) program) → t ≡ s
one_known x program well s t i j =
    let a = said_in (said_known x) program s i in
    let b = said_in (said_known x) program t j in
    let p = said_if (is_named x a.0) (known_as a.0) s a.2 in
    let q = said_if (is_named x b.0) (known_as b.0) t b.2 in
    sym q.1 ∙ ap known_as (one_named program well x b.0 a.0 b.1 a.1 q.0 p.0) ∙ p.1

pub one_there : (x : Bytes) (program : List Decl) → IsProgram program → (s t : Stands) → IsIn s (all_said (said_there x) program) →
    IsIn t (all_said (said_there x) program) → t ≡ s
one_there x program well s t i j =
    let a = said_in (said_there x) program s i in
    let b = said_in (said_there x) program t j in
    let p = said_if (is_named x a.0) (stands_as a.0) s a.2 in
    let q = said_if (is_named x b.0) (stands_as b.0) t b.2 in
    sym q.1 ∙ ap stands_as (one_named program well x b.0 a.0 b.1 a.1 q.0 p.0) ∙ p.1

pub one_text : (key : MethodKey) (program : List Decl) → IsProgram program → (s t : Option Text) → IsIn s (all_said (said_text key) program) →
    IsIn t (all_said (said_text key) program) → t ≡ s
one_text key program well s t i j =
    let a = said_in (said_text key) program s i in
    let b = said_in (said_text key) program t j in
    let p = text_of_it key a.0 s a.2 in
    let q = text_of_it key b.0 t b.2 in
    sym q.1 ∙ ap (λ decl. text_of (source_by (Some decl))) (well.apart b.0 a.0 (k.Method key) b.1 a.1 q.0 p.0) ∙ p.1

-- it is more than nothing
pub known_something : (x : Bytes) (decls : List Decl) (s : Known) → IsIn s (all_said (said_known x) decls) → s ≡ known.Nothing → ⊥
known_something x decls s i e =
    let r = said_in (said_known x) decls s i in
    let so = said_if (is_named x r.0) (known_as r.0) s r.2 in
    by r.0 so.0 (so.1 ∙ e)
  where
    by : (decl : Decl) → is_named x decl ≡ true → known_as decl ≡ known.Nothing → ⊥
    by (d.Object own parents) n e = cc
    by (d.Predicate own parents test) n e = cc
    by (d.Field key start changeable) n e = false≢true n
    by (d.Method key formals body) n e = false≢true n

pub there_something : (x : Bytes) (decls : List Decl) (s : Stands) → IsIn s (all_said (said_there x) decls) → s ≡ h.Nothing → ⊥
there_something x decls s i e =
    let r = said_in (said_there x) decls s i in
    let so = said_if (is_named x r.0) (stands_as r.0) s r.2 in
    by r.0 so.0 (so.1 ∙ e)
  where
    by : (decl : Decl) → is_named x decl ≡ true → stands_as decl ≡ h.Nothing → ⊥
    by (d.Object own parents) n e = cc
    by (d.Predicate own parents test) n e = cc
    by (d.Field key start changeable) n e = false≢true n
    by (d.Method key formals body) n e = false≢true n

pub text_something : (key : MethodKey) (decls : List Decl) (s : Option Text) → IsIn s (all_said (said_text key) decls) → s ≡ None → ⊥
text_something key decls s i e =
    let r = said_in (said_text key) decls s i in
    by r.0 (r.2 ∙ ap Some e)
  where
    by : (decl : Decl) → said_text key decl ≡ Some None → ⊥
    by (d.Method own formals body) n =
        let so = said_if (occupies (d.Method own formals body) (k.Method key)) (Some (formals, body)) None n in let e = so.1 in cc
    by (d.Object own parents) n = cc
    by (d.Predicate own parents test) n = cc
    by (d.Field own start changeable) n = cc

-- so where two answers are the same, what is said in one program is said in the other
pub carried : {S : Type 0} (none s : S) (xs ys : List S) → ((t : S) → IsIn t xs → t ≡ s) → IsIn s xs → (s ≡ none → ⊥) →
    first_or none xs ≡ first_or none ys → IsIn s ys
carried none s [] ys only i some e = absurd i
carried none s (t ∷ xs) [] only i some e = absurd (some (sym (only t (inl refl)) ∙ e))
carried none s (t ∷ xs) (u ∷ ys) only i some e = inl (sym e ∙ only t (inl refl))
