-- Names in scope, looked up one after the other.
use Rattle.std.proofs.Common.{◌≡◌, ◌≤◌, ◌+◌, ◌||◌, ◌&&◌, not, ℕ, zero, suc, Bool, true, false, List, [], ◌∷◌, ◌++◌, length, drop, Some, refl, sym, ap, ◌∙◌, arith, slice_get, add-one}
use Rattle.std.specs.Str.{bytes_eq}
use Rattle.vx_syntax.specs.Expressions.{Bytes, Scope, is_bound, is_variable, is_among, with_formals}
use Rattle.vx_bodies.specs.declared.state.Level.{Level}
use Rattle.vx_bodies.specs.Machine.{outer_scope}
use Rattle.vx_bodies.specs.Scopes.{is_listed}

pub bound_is : (scope : Scope) (x : Bytes) → is_listed false scope x ≡ is_bound scope x
bound_is [] x = refl
bound_is (d ∷ scope) x = by (bytes_eq d.0 x) d.1 (bound_is scope x)
  where
    by : (same flag : Bool) → is_listed false scope x ≡ is_bound scope x → (same && (flag || true) || is_listed false scope x) ≡ (same || is_bound scope x)
    by true true h = refl
    by true false h = refl
    by false flag h = h

pub variable_is : (scope : Scope) (x : Bytes) → is_listed true scope x ≡ is_variable scope x
variable_is [] x = refl
variable_is (d ∷ scope) x = by (bytes_eq d.0 x) d.1 (variable_is scope x)
  where
    by : (same flag : Bool) → is_listed true scope x ≡ is_variable scope x → (same && (flag || false) || is_listed true scope x) ≡ (same && flag || is_variable scope x)
    by true true h = refl
    by true false h = h
    by false flag h = h

pub listed_append : (v : Bool) (a b : Scope) (x : Bytes) → is_listed v (a ++ b) x ≡ (is_listed v a x || is_listed v b x)
listed_append v [] b x = refl
listed_append v (d ∷ a) b x = by (bytes_eq d.0 x && (d.1 || not v)) (listed_append v a b x)
  where
    by : (t : Bool) → is_listed v (a ++ b) x ≡ (is_listed v a x || is_listed v b x) → (t || is_listed v (a ++ b) x) ≡ ((t || is_listed v a x) || is_listed v b x)
    by true h = refl
    by false h = h

listed_formals : (v : Bool) (xs : List Bytes) (scope : Scope) (x : Bytes) →
    is_listed v (with_formals scope xs) x ≡ (is_among xs x && not v || is_listed v scope x)
listed_formals v [] scope x = refl
listed_formals v (y ∷ xs) scope x = listed_formals v xs ((y, false) ∷ scope) x ∙ by (bytes_eq y x) (is_among xs x) v
  where
    by : (same among v : Bool) → (among && not v || (same && not v || is_listed v scope x)) ≡ ((same || among) && not v || is_listed v scope x)
    by true true true = refl
    by true true false = refl
    by true false v = refl
    by false true true = refl
    by false true false = refl
    by false false v = refl

-- a formal of a closure, or a name in scope around it
pub formal_bound : (xs : List Bytes) (scope : Scope) (x : Bytes) → is_bound (with_formals scope xs) x ≡ (is_among xs x || is_bound scope x)
formal_bound xs scope x =
    sym (bound_is (with_formals scope xs) x) ∙ listed_formals false xs scope x ∙ by (is_among xs x) (bound_is scope x)
  where
    by : (among : Bool) → is_listed false scope x ≡ is_bound scope x → (among && true || is_listed false scope x) ≡ (among || is_bound scope x)
    by true h = refl
    by false h = h

-- whether a level has the name
abbrev pub has : Bool → Level → Bytes → Bool
has v l x = is_among l.formals x && not v || is_listed v l.declared x

or_assoc : (a b c : Bool) → (a || (b || c)) ≡ ((a || b) || c)
or_assoc true b c = refl
or_assoc false b c = refl

level_listed : (v : Bool) (l : Level) (ls : List Level) (x : Bytes) → is_listed v (outer_scope (l ∷ ls)) x ≡ (has v l x || is_listed v (outer_scope ls) x)
level_listed v l ls x =
    listed_formals v l.formals (l.declared ++ outer_scope ls) x ∙
    ap (λ r. is_among l.formals x && not v || r) (listed_append v l.declared (outer_scope ls) x) ∙
    or_assoc (is_among l.formals x && not v) (is_listed v l.declared x) (is_listed v (outer_scope ls) x)

outer_suc : (v : Bool) (i : ℕ) (levels : List Level) (x : Bytes) (l : Level) → slice_get levels i ≡ Some l →
    is_listed v (outer_scope (drop i levels)) x ≡ (has v l x || is_listed v (outer_scope (drop (suc i) levels)) x)
outer_suc v i [] x l e = absurd cc
outer_suc v zero (c ∷ levels) x l e = let f : c ≡ l = cc in level_listed v c levels x ∙ ap (λ y. has v y x || is_listed v (outer_scope levels) x) f
outer_suc v (suc i) (c ∷ levels) x l e = outer_suc v i levels x l e

-- from the level at i on
pub outer_at : (v : Bool) (i : ℕ) (levels : List Level) (x : Bytes) (l : Level) → slice_get levels i ≡ Some l →
    is_listed v (outer_scope (drop i levels)) x ≡ (has v l x || is_listed v (outer_scope (drop (i + 1) levels)) x)
outer_at v i levels x l e = rw add-one (outer_suc v i levels x l e)

pub outer_past : (v : Bool) (i : ℕ) (levels : List Level) (x : Bytes) → length levels ≤ i → is_listed v (outer_scope (drop i levels)) x ≡ false
outer_past v zero [] x h = refl
outer_past v (suc i) [] x h = refl
outer_past v zero (l ∷ levels) x h = absurd (omega arith)
outer_past v (suc i) (l ∷ levels) x h = outer_past v i levels x (omega arith)
