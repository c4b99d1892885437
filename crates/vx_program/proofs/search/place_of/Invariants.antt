use Rattle.std.proofs.Common.{◌≡◌, ℕ, ◌-◌, ◌<◌, ◌≤◌, length, true, false, Some}
use Rattle.std.specs.List.{slice_get}
use Rattle.std.specs.Ordering.{is_lt}
use Rattle.vx_names.specs.Key.{decl_key_cmp}
use Rattle.vx_syntax.specs.declared.decl.Decl.{Decl}
use Rattle.vx_syntax.specs.Keys.{key_of}
use Rattle.vx_program.specs.Lookups.{sought}
use Rattle.vx_program.proofs.search.place_of.Given as goal

abbrev pub invariant-loop-low : goal.invariant-loop-low
invariant-loop-low l = record {
  within : (l.low ≤ l.high) × (l.high ≤ length l.decls);
  before : (place : ℕ) (decl : Decl) → place < l.low → slice_get l.decls place ≡ Some decl → is_lt (decl_key_cmp (key_of decl) (sought l.what)) ≡ true;
  behind : (place : ℕ) (decl : Decl) → l.high ≤ place → slice_get l.decls place ≡ Some decl → is_lt (decl_key_cmp (key_of decl) (sought l.what)) ≡ false;
}

abbrev pub decreases-loop-low : goal.decreases-loop-low
decreases-loop-low l = l.high - l.low
