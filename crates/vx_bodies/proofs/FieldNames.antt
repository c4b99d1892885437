-- The set of the names of fields.
use Rattle.std.proofs.Common.{◌≡◌, ◌||◌, Bool, true, false, cond, List, [], ◌∷◌, ◌++◌, refl, sym, ap, ◌∙◌}
use Rattle.std.proofs.lemmas.Map.Text.{is_eq-slice_cmp}
use Rattle.std.specs.BTreeSet.{BTreeSet, Updates, contains}
use Rattle.std.specs.Cmp.Lexicographic.{slice_cmp}
use Rattle.std.specs.Ordering.{nat_cmp}
use Rattle.std.specs.Str.{bytes_eq}
use Rattle.vx_syntax.specs.declared.expr.Expr.{Expr}
use Rattle.vx_syntax.specs.Expressions.{Bytes, is_among, field_names}
use Rattle.vx_syntax.proofs.Round.{names_push}
use Rattle.vx_bodies.specs.Scopes.{HasNames}

among_push : (xs : List Bytes) (y x : Bytes) → is_among (xs ++ y ∷ []) x ≡ cond (bytes_eq y x) true (is_among xs x)
among_push [] y x = by (bytes_eq y x)
  where
    by : (same : Bool) → (same || false) ≡ cond same true false
    by true = refl
    by false = refl
among_push (z ∷ xs) y x = ap (λ r. bytes_eq z x || r) (among_push xs y x) ∙ by (bytes_eq z x) (bytes_eq y x) (is_among xs x)
  where
    by : (first last among : Bool) → (first || cond last true among) ≡ cond last true (first || among)
    by true true among = refl
    by true false among = refl
    by false last among = refl

pub named_more : (names more : BTreeSet Bytes) (given : List (Bytes × Expr)) (f : Bytes) (a : Expr) → HasNames names (field_names given) →
    Updates (slice_cmp nat_cmp) names more f true → HasNames more (field_names (given ++ (f, a) ∷ []))
named_more names more given f a before updates x =
    updates.0 x ∙ ap (λ b. cond b true (contains (slice_cmp nat_cmp) names x)) (is_eq-slice_cmp f x) ∙ ap (λ r. cond (bytes_eq f x) true r) (before x) ∙
    sym (ap (λ xs. is_among xs x) (names_push given f a) ∙ among_push (field_names given) f x)
