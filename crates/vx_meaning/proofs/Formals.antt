-- Formals with their arguments.
use Rattle.std.proofs.Common.{◌≡◌, ◌∙◌, ℕ, suc, ◌+◌, ◌-◌, ◌<◌, ◌≤◌, List, [], ◌∷◌, Option, Some, None, length, get_or, drop, refl, ap, arith}
use Rattle.std.proofs.lemmas.List.{drop_more}
use Rattle.std.proofs.Math.ListN.{drop_of_length-le}
use Rattle.vx_lists.proofs.Rests.{front}
use Rattle.vx_syntax.specs.Expressions.{Bytes}
use Rattle.vx_model.specs.declared.value.Value.{Value}
use Rattle.vx_model.specs.declared.value.Value.TheVariants as v
use Rattle.vx_model.specs.declared.value.Local.{Local}
use Rattle.vx_model.specs.declared.value.Local.TheVariants as l
use Rattle.vx_model.specs.Meaning.{Done, with_formals}

-- formals that are more or fewer than the arguments
pub formals_differ : (formals : List (Option Bytes)) (values : List Value) (go : List (Bytes × Local) → Done) (otherwise : Done) →
    (length formals ≡ length values → ⊥) → with_formals formals values go otherwise ≡ otherwise
formals_differ [] [] go otherwise differ = absurd (differ refl)
formals_differ [] (value ∷ values) go otherwise differ = refl
formals_differ (None ∷ formals) [] go otherwise differ = refl
formals_differ (Some name ∷ formals) [] go otherwise differ = refl
formals_differ (None ∷ formals) (value ∷ values) go otherwise differ = formals_differ formals values go otherwise (λ e. differ (ap suc e))
formals_differ (Some name ∷ formals) (value ∷ values) go otherwise differ =
    formals_differ formals values (λ scope. go ((name, l.Plain value) ∷ scope)) otherwise (λ e. differ (ap suc e))

-- what follows may be any of the same
pub formals_same : (formals : List (Option Bytes)) (values : List Value) (go go' : List (Bytes × Local) → Done) (otherwise : Done) →
    ((scope : List (Bytes × Local)) → go scope ≡ go' scope) → with_formals formals values go otherwise ≡ with_formals formals values go' otherwise
formals_same [] [] go go' otherwise same = same []
formals_same [] (value ∷ values) go go' otherwise same = refl
formals_same (None ∷ formals) [] go go' otherwise same = refl
formals_same (Some name ∷ formals) [] go go' otherwise same = refl
formals_same (None ∷ formals) (value ∷ values) go go' otherwise same = formals_same formals values go go' otherwise same
formals_same (Some name ∷ formals) (value ∷ values) go go' otherwise same =
    formals_same formals values (λ scope. go ((name, l.Plain value) ∷ scope)) (λ scope. go' ((name, l.Plain value) ∷ scope)) otherwise
    (λ scope. same ((name, l.Plain value) ∷ scope))

-- formals from the last, without a name or with one
pub formals_end : (formals : List (Option Bytes)) (values : List Value) (go : List (Bytes × Local) → Done) (otherwise : Done) → length formals ≡ length values →
    with_formals (drop (length formals) formals) (drop (length formals) values) go otherwise ≡ go []
formals_end formals values go otherwise same =
    let over : length values ≤ length formals = omega arith in
    let all : length formals ≤ length formals = omega arith in
    ap (λ l. with_formals l (drop (length formals) values) go otherwise) (drop_of_length-le formals all)
    ∙ ap (λ l. with_formals [] l go otherwise) (drop_of_length-le values over)

module _ (formals : List (Option Bytes)) (values : List Value) (i : ℕ) (formal : Option Bytes) (go : List (Bytes × Local) → Done) (otherwise : Done) where
  pub formals_none : 0 < i → i ≤ length formals → length formals ≡ length values → formal ≡ get_or formals (i - 1) formal → formal ≡ None →
      with_formals (drop (i - 1) formals) (drop (i - 1) values) go otherwise ≡ with_formals (drop i formals) (drop i values) go otherwise
  formals_none some within same is none =
      let back : i - 1 + 1 ≡ i = omega arith in
      let before : i - 1 < length values = omega arith in
      ap (λ l. with_formals l (drop (i - 1) values) go otherwise) (front formals i formal some within is ∙ ap (λ f. f ∷ drop i formals) none)
      ∙ ap (λ l. with_formals (None ∷ drop i formals) l go otherwise)
      (drop_more values (i - 1) (v.Text []) before ∙ ap (λ n. get_or values (i - 1) (v.Text []) ∷ drop n values) back)

  pub formals_some : 0 < i → i ≤ length formals → length formals ≡ length values → formal ≡ get_or formals (i - 1) formal →
      (name : Bytes) → formal ≡ Some name → (value : Value) → value ≡ get_or values (i - 1) value →
      with_formals (drop (i - 1) formals) (drop (i - 1) values) go otherwise
      ≡ with_formals (drop i formals) (drop i values) (λ scope. go ((name, l.Plain value) ∷ scope)) otherwise
  formals_some some within same is name named value at =
      let over : i ≤ length values = omega arith in
      ap (λ l. with_formals l (drop (i - 1) values) go otherwise) (front formals i formal some within is ∙ ap (λ f. f ∷ drop i formals) named)
      ∙ ap (λ l. with_formals (Some name ∷ drop i formals) l go otherwise) (front values i value some over at)
