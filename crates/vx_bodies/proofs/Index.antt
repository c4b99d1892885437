-- The index of names in scope.
use Rattle.std.proofs.Common.{◌≡◌, ◌||◌, ◌&&◌, not, Bool, true, false, cond, if◌then◌else◌, [], ◌∷◌, Some, None, refl, sym, ap, ◌∙◌}
use Rattle.std.proofs.lemmas.Slice.Eq.{bytes_eq-Decides}
use Rattle.std.proofs.lemmas.Map.Text.{is_eq-slice_cmp}
use Rattle.std.specs.BTreeMap.{BTreeMap, Updates, get}
use Rattle.std.specs.Cmp.Lexicographic.{slice_cmp}
use Rattle.std.specs.Ordering.{nat_cmp}
use Rattle.std.specs.Str.{bytes_eq}
use Rattle.vx_syntax.specs.Expressions.{Bytes, Scope, is_bound, is_variable}
use Rattle.vx_bodies.specs.Scopes.{is_listed, may_change, IsIndex}
use Rattle.vx_bodies.proofs.Scopes.{bound_is, variable_is}

pub indexed_more : (index more : BTreeMap Bytes Bool) (scope : Scope) (x : Bytes) (variable flag : Bool) → IsIndex index scope →
    flag ≡ (variable || is_variable scope x) → Updates (slice_cmp nat_cmp) index more x (Some flag) → IsIndex more ((x, variable) ∷ scope)
indexed_more index more scope x variable flag before is updates y =
    updates.0 y ∙ ap (λ b. cond b (Some flag) (get (slice_cmp nat_cmp) index y)) (is_eq-slice_cmp x y) ∙ ap (λ r. cond (bytes_eq x y) (Some flag) r) (before y) ∙ by (bytes_eq x y) refl
  where
    by : (same : Bool) → bytes_eq x y ≡ same →
        cond same (Some flag) (may_change scope y) ≡ (if same || is_bound scope y then Some (same && variable || is_variable scope y) else None)
    by true e = ap Some (is ∙ ap (λ z. variable || is_variable scope z) ((bytes_eq-Decides x y).0 e))
    by false e = refl

-- a name that the index has
pub listed_some : (variable : Bool) (scope : Scope) (x : Bytes) (flag : Bool) → Some flag ≡ may_change scope x → is_listed variable scope x ≡ (flag || not variable)
listed_some true scope x flag e = variable_is scope x ∙ by (is_bound scope x) e
  where
    by : (b : Bool) → Some flag ≡ (if b then Some (is_variable scope x) else None) → is_variable scope x ≡ (flag || false)
    by true h = let is : flag ≡ is_variable scope x = cc in sym is ∙ same flag
      where
        same : (b : Bool) → b ≡ (b || false)
        same true = refl
        same false = refl
    by false h = absurd cc
listed_some false scope x flag e = bound_is scope x ∙ by (is_bound scope x) e
  where
    by : (b : Bool) → Some flag ≡ (if b then Some (is_variable scope x) else None) → b ≡ (flag || true)
    by true h = same flag
      where
        same : (b : Bool) → true ≡ (b || true)
        same true = refl
        same false = refl
    by false h = absurd cc

unlisted : (scope : Scope) (x : Bytes) → is_listed false scope x ≡ false → is_listed true scope x ≡ false
unlisted [] x e = refl
unlisted (d ∷ scope) x e = by (bytes_eq d.0 x) d.1 (unlisted scope x) e
  where
    by : (same flag : Bool) → (is_listed false scope x ≡ false → is_listed true scope x ≡ false) → (same && (flag || true) || is_listed false scope x) ≡ false → (same && (flag || false) || is_listed true scope x) ≡ false
    by true true more h = absurd cc
    by true false more h = absurd cc
    by false flag more h = more h

-- a name that the index does not have
pub listed_none : (variable : Bool) (scope : Scope) (x : Bytes) → None ≡ may_change scope x → is_listed variable scope x ≡ false
listed_none variable scope x e = by variable (bound_is scope x ∙ free (is_bound scope x) e)
  where
    free : (b : Bool) → None ≡ (if b then Some (is_variable scope x) else None) → b ≡ false
    free true h = absurd cc
    free false h = refl

    by : (v : Bool) → is_listed false scope x ≡ false → is_listed v scope x ≡ false
    by true h = unlisted scope x h
    by false h = h
