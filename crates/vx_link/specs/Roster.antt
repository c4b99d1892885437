-- The lists of an image: their orders, and the places in them.
use Rattle.std.specs.Prelude.{ℕ, ◌^◌, ◌<◌, List, length, Option, Some, None, Result, Ok, Err}
use Rattle.std.specs.declared.cmp.Ordering.{Ordering}
use Rattle.std.specs.Ordering.{on, then_cmp, is_eq}
use Rattle.std.specs.List.{position_from}
use Rattle.std.specs.List.Sorted.{IsStrictlySortedBy}
use Rattle.vx_names.specs.declared.key.FieldKey.{FieldKey}
use Rattle.vx_names.specs.declared.key.MethodKey.{MethodKey}
use Rattle.vx_names.specs.Key.{name_cmp, selector_cmp, method_key_cmp}
use Rattle.vx_node.specs.declared.node.Variant.{Variant}
use Rattle.vx_node.specs.declared.unit.Symbol.{Symbol}
use Rattle.vx_node.specs.declared.unit.Symbol.TheVariants as symbols
use Rattle.vx_node.specs.contracts.node.VariantOrd.TheImpl.{cmp-value}
use Rattle.vx_link.specs.declared.roster.Roster.{Roster}

-- fields by name and then specialiser
abbrev pub field_key_cmp : FieldKey → FieldKey → Ordering
field_key_cmp = then_cmp (on (λ k. k.name) name_cmp) (on (λ k. k.specialiser) name_cmp)

-- the general code of a method goes before those for one class, which go by position and class
abbrev pub variant_cmp : Variant → Variant → Ordering
variant_cmp = cmp-value.it

-- codes by method and then variant
abbrev pub code_cmp : MethodKey × Variant → MethodKey × Variant → Ordering
code_cmp = then_cmp (on (λ c. c.0) method_key_cmp) (on (λ c. c.1) variant_cmp)

-- Each key goes before those behind it, and four bytes count them.
pub record IsKeyList {K : Type 0} (cmp : K → K → Ordering) (keys : List K) : Type 0 where
  pub rises : IsStrictlySortedBy cmp keys
  pub few : length keys < 2 ^ 32

-- each list is one of keys
pub record IsRoster (r : Roster) : Type 0 where
  pub fields : IsKeyList field_key_cmp r.fields
  pub objects : IsKeyList name_cmp r.objects
  pub tests : IsKeyList name_cmp r.tests
  pub tables : IsKeyList selector_cmp r.tables
  pub codes : IsKeyList code_cmp r.codes

-- the place of a key in a list, from 0
abbrev pub place_in : {K : Type 0} → (K → K → Ordering) → List K → K → Option ℕ
place_in cmp keys key = position_from (λ own. is_eq (cmp own key)) 0 keys

-- the place of what a symbol names, in its list; none where the list does not have it
abbrev pub place : Roster → Symbol → Option ℕ
place r (symbols.Field key) = place_in field_key_cmp r.fields key
place r (symbols.Object name) = place_in name_cmp r.objects name
place r (symbols.Test name) = place_in name_cmp r.tests name
place r (symbols.Table selector) = place_in selector_cmp r.tables selector
place r (symbols.Code key variant) = place_in code_cmp r.codes (key, variant)

-- the place that a search found
abbrev pub place_found : Result ℕ ℕ → Option ℕ
place_found (Ok place) = Some place
place_found (Err gap) = None
