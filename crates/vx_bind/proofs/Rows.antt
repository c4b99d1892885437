-- Which names a binding asks of, method by method and position by position.
use Rattle.std.proofs.Common.{◌≡◌, ◌∙◌, ◌<◌, ◌≤◌, ◌+◌, ◌++◌, ◌∷◌, [], ℕ, suc, Bool, not, List, Option, Some, None, length, drop, get_or, filter}
use Rattle.std.proofs.Common.{refl, ap, sym, arith, inl, inr, append_assoc, append-nil, drop_of_length-le}
use Rattle.std.specs.Prelude.{slice_get}
use Rattle.std.specs.Str.{bytes_eq}
use Rattle.std.proofs.lemmas.Bool.{cond-true, cond-false, cases_Bool}
use Rattle.std.proofs.lemmas.List.Elements.{filter-append}
use Rattle.vx_lists.proofs.Rests.{left_at}
use Rattle.vx_names.specs.declared.key.MethodKey.{MethodKey}
use Rattle.vx_syntax.specs.Expressions.{Bytes}
use Rattle.vx_syntax.specs.Declarations.{any}
use Rattle.vx_program.specs.Program.{is_name_of}
use Rattle.vx_node.specs.declared.node.Info.{Info}
use Rattle.vx_node.specs.declared.node.Info.TheVariants as i
use Rattle.vx_node.specs.declared.kind.Kind.{Kind}
use Rattle.vx_answers.specs.OrderRows.{fresh}
use Rattle.vx_answers.specs.SendRows.{About, all_of, base_at, bases_at, cones_asked, specialisers_of, with_base}

-- ---- specialisers

pub fresh_append : (met xs ys : List Bytes) → fresh met (xs ++ ys) ≡ fresh met xs ++ fresh (met ++ fresh met xs) ys
fresh_append met [] ys = ap (λ ms. fresh ms ys) (sym (append-nil met))
fresh_append met (x ∷ xs) ys =
    elim (cases_Bool (is_name_of met x)) [
      | inl known ↦
          cond-true (is_name_of met x) (fresh met (xs ++ ys)) (x ∷ fresh (met ++ x ∷ []) (xs ++ ys)) known
          ∙ fresh_append met xs ys
          ∙ ap (λ zs. zs ++ fresh (met ++ zs) ys) (sym (cond-true (is_name_of met x) (fresh met xs) (x ∷ fresh (met ++ x ∷ []) xs) known))
      | inr new ↦
          cond-false (is_name_of met x) (fresh met (xs ++ ys)) (x ∷ fresh (met ++ x ∷ []) (xs ++ ys)) new
          ∙ ap (λ zs. x ∷ zs) (fresh_append (met ++ x ∷ []) xs ys)
          ∙ ap (λ ms. x ∷ fresh (met ++ x ∷ []) xs ++ fresh ms ys) (append_assoc met (x ∷ []) (fresh (met ++ x ∷ []) xs))
          ∙ ap (λ zs. zs ++ fresh (met ++ zs) ys) (sym (cond-false (is_name_of met x) (fresh met xs) (x ∷ fresh (met ++ x ∷ []) xs) new))
    ]

abbrev pub is_asked : Bytes → Bool
is_asked x = not (bytes_eq x any)

-- those that are asked of, once some were
abbrev pub still_asked : List Bytes → List (List Bytes) → List Bytes
still_asked met rows = fresh met (filter is_asked (all_of rows))

pub one_row : (met now row : List Bytes) (rows : List (List Bytes)) → now ≡ met ++ fresh met (filter is_asked row) →
    now ++ still_asked now rows ≡ met ++ still_asked met (row ∷ rows)
one_row met now row rows is =
    let more : List Bytes = fresh met (filter is_asked row) in
    ap (λ ms. ms ++ still_asked ms rows) is
    ∙ append_assoc met more (still_asked (met ++ more) rows)
    ∙ ap (λ zs. met ++ zs) (sym (fresh_append met (filter is_asked row) (filter is_asked (all_of rows))))
    ∙ ap (λ zs. met ++ fresh met zs) (sym (filter-append is_asked row (all_of rows)))

pub one_head : (met now : List Bytes) (heads : List (MethodKey × Kind)) (below : Option MethodKey) (place : ℕ) (head : MethodKey × Kind) →
    place < length heads → head ≡ get_or heads place head → now ≡ met ++ fresh met (filter is_asked head.0.specialisers) →
    now ++ still_asked now (specialisers_of (drop (place + 1) heads) below) ≡ met ++ still_asked met (specialisers_of (drop place heads) below)
one_head met now heads below place head within is grown =
    one_row met now head.0.specialisers (specialisers_of (drop (place + 1) heads) below) grown
    ∙ ap (λ hs. met ++ still_asked met (specialisers_of hs below)) (sym (left_at heads place head within is))

pub past_heads : (met : List Bytes) (heads : List (MethodKey × Kind)) (below : Option MethodKey) (place : ℕ) → length heads ≤ place →
    met ++ still_asked met (specialisers_of (drop place heads) below) ≡ met ++ still_asked met (specialisers_of [] below)
past_heads met heads below place past = ap (λ hs. met ++ still_asked met (specialisers_of hs below)) (drop_of_length-le heads past)

-- the last row is that of the method below which a message is bound
pub last_row : (met now : List Bytes) (below : Option MethodKey) (key : MethodKey) → below ≡ Some key →
    now ≡ met ++ fresh met (filter is_asked key.specialisers) → now ≡ met ++ still_asked met (specialisers_of [] below)
last_row met now below key some grown =
    sym (append-nil now) ∙ one_row met now key.specialisers [] grown ∙ ap (λ b. met ++ still_asked met (specialisers_of [] b)) (sym some)

-- ---- bases

based : (base : Option Bytes) (rest : List Bytes) → with_base base rest ≡ with_base base [] ++ rest
based None rest = refl
based (Some y) rest = refl

pub one_base : (abouts : List About) (at : ℕ) (names now row : List Bytes) (rows : List (List Bytes)) →
    now ≡ names ++ with_base (base_at abouts (slice_get row at)) [] → now ++ bases_at abouts at rows ≡ names ++ bases_at abouts at (row ∷ rows)
one_base abouts at names now row rows grown =
    let base : Option Bytes = base_at abouts (slice_get row at) in
    ap (λ ns. ns ++ bases_at abouts at rows) grown ∙ append_assoc names (with_base base []) (bases_at abouts at rows)
    ∙ ap (λ zs. names ++ zs) (sym (based base (bases_at abouts at rows)))

pub base_of_head : (abouts : List About) (at : ℕ) (names now : List Bytes) (heads : List (MethodKey × Kind)) (below : Option MethodKey) (place : ℕ)
    (head : MethodKey × Kind) → place < length heads → head ≡ get_or heads place head →
    now ≡ names ++ with_base (base_at abouts (slice_get head.0.specialisers at)) [] →
    now ++ bases_at abouts at (specialisers_of (drop (place + 1) heads) below) ≡ names ++ bases_at abouts at (specialisers_of (drop place heads) below)
base_of_head abouts at names now heads below place head within is grown =
    one_base abouts at names now head.0.specialisers (specialisers_of (drop (place + 1) heads) below) grown
    ∙ ap (λ hs. names ++ bases_at abouts at (specialisers_of hs below)) (sym (left_at heads place head within is))

-- ---- cones

abbrev pub cones_here : List About → List (List Bytes) → ℕ → Info → List Bytes
cones_here abouts rows place i.Any = []
cones_here abouts rows place (i.Exact x) = []
cones_here abouts rows place (i.Cone x) = x ∷ bases_at abouts place rows

first_info : (abouts : List About) (rows : List (List Bytes)) (place : ℕ) (info : Info) (infos : List Info) →
    cones_asked abouts rows place (info ∷ infos) ≡ cones_here abouts rows place info ++ cones_asked abouts rows (suc place) infos
first_info abouts rows place i.Any infos = refl
first_info abouts rows place (i.Exact x) infos = refl
first_info abouts rows place (i.Cone x) infos = refl

pub one_info : (abouts : List About) (rows : List (List Bytes)) (place : ℕ) (info : Info) (infos : List Info) (names now : List Bytes) →
    place < length infos → info ≡ get_or infos place info → now ≡ names ++ cones_here abouts rows place info →
    now ++ cones_asked abouts rows (place + 1) (drop (place + 1) infos) ≡ names ++ cones_asked abouts rows place (drop place infos)
one_info abouts rows place info infos names now within is grown =
    let next : List Bytes = cones_asked abouts rows (place + 1) (drop (place + 1) infos) in
    let more : place + 1 ≡ suc place = omega arith in
    ap (λ ns. ns ++ next) grown ∙ append_assoc names (cones_here abouts rows place info) next
    ∙ ap (λ n. names ++ (cones_here abouts rows place info ++ cones_asked abouts rows n (drop (place + 1) infos))) more
    ∙ ap (λ zs. names ++ zs) (sym (first_info abouts rows place info (drop (place + 1) infos)))
    ∙ ap (λ is. names ++ cones_asked abouts rows place is) (sym (left_at infos place info within is))
