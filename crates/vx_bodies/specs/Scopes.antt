-- Names in scope, as they are looked up.
use Rattle.std.specs.Prelude.{◌≡◌, Bool, false, ◌&&◌, ◌||◌, not, if◌then◌else◌, List, [], ◌∷◌, Option, Some, None}
use Rattle.std.specs.BTreeMap.{BTreeMap, get}
use Rattle.std.specs.BTreeSet.{BTreeSet, contains}
use Rattle.std.specs.Cmp.Lexicographic.{slice_cmp}
use Rattle.std.specs.Ordering.{nat_cmp}
use Rattle.std.specs.Str.{bytes_eq}
use Rattle.vx_syntax.specs.Expressions.{Bytes, Scope, is_bound, is_variable, is_among}

-- whether a name is in scope, and may be assigned where only such names are wanted
abbrev pub is_listed : Bool → Scope → Bytes → Bool
is_listed variable [] x = false
is_listed variable (d ∷ scope) x = bytes_eq d.0 x && (d.1 || not variable) || is_listed variable scope x

-- whether a name that is in scope may be assigned
abbrev pub may_change : Scope → Bytes → Option Bool
may_change scope x = if is_bound scope x then Some (is_variable scope x) else None

-- The index has the names in scope, each with whether it may be assigned, and no others.
abbrev pub IsIndex : BTreeMap Bytes Bool → Scope → Type 0
IsIndex index scope = (x : Bytes) → get (slice_cmp nat_cmp) index x ≡ may_change scope x

-- The set has these names and no others.
abbrev pub HasNames : BTreeSet Bytes → List Bytes → Type 0
HasNames names xs = (x : Bytes) → contains (slice_cmp nat_cmp) names x ≡ is_among xs x
