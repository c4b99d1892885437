-- The unit of a message's table: its methods, which of them goes before which, and which count for an argument (after compressed dispatch tables).
use Rattle.std.specs.Prelude.{ℕ, zero, suc, ◌+◌, ◌*◌, Bool, false, not, ◌&&◌, ◌||◌, List, [], ◌∷◌, ◌++◌, length, Option, Some, None, slice_get}
use Rattle.std.specs.Prelude.{if◌then◌else◌, take}
use Rattle.std.specs.Str.{bytes_eq}
use Rattle.vx_format.specs.Numbers.{Bytes, number}
use Rattle.vx_names.specs.declared.key.Selector.{Selector}
use Rattle.vx_names.specs.declared.key.MethodKey.{MethodKey}
use Rattle.vx_syntax.specs.Declarations.{any}
use Rattle.vx_program.specs.Program.{is_name_of}
use Rattle.vx_node.specs.declared.kind.Kind.{Kind}
use Rattle.vx_node.specs.declared.kind.Kind.TheVariants as kinds
use Rattle.vx_node.specs.declared.node.Variant.TheVariants as c
use Rattle.vx_node.specs.declared.unit.Piece.{Piece}
use Rattle.vx_node.specs.declared.unit.Symbol.TheVariants as symbols
use Rattle.vx_model.specs.Lookup.{same_method}
use Rattle.vx_compilation.specs.Binding.{Order, goes_before, is_plain}
use Rattle.vx_units.specs.Signs.{Signs, bytes, named, fitted, each, grouped}
use Rattle.vx_units.specs.TestUnit.{put, put_all}

-- a method of the selector, with what makes it
abbrev pub Head : Type 0
Head = MethodKey × Kind

-- which classes a method is cloned for, and by which position
abbrev pub Split : Type 0
Split = Option (ℕ × List Bytes)

-- ---- rows

-- the classes with the code for each
abbrev pub pairs_signs : MethodKey → ℕ → List Bytes → Signs
pairs_signs key position [] = []
pairs_signs key position (class ∷ classes) =
    named (symbols.Object class) ++ (named (symbols.Code key (c.Clone position class)) ++ pairs_signs key position classes)

abbrev pub split_signs : MethodKey → Split → Signs
split_signs key None = bytes (number 1 255)
split_signs key (Some split) = bytes (fitted 1 split.0) ++ (bytes (fitted 1 (length split.1)) ++ pairs_signs key split.0 split.1)

-- what a row leads to
abbrev pub does_signs : (MethodKey → Split) → Head → Signs
does_signs clones (key, kinds.Source) = bytes (number 1 0) ++ (named (symbols.Code key c.General) ++ split_signs key (clones key))
does_signs clones (key, kinds.Prim primitive) = bytes (number 1 1) ++ bytes (fitted 1 primitive)
does_signs clones (key, kinds.Get field) = bytes (number 1 2) ++ named (symbols.Field field)
does_signs clones (key, kinds.Set field) = bytes (number 1 3) ++ named (symbols.Field field)

-- ---- masks

-- one bit for each row that has the property, the first row's the least
abbrev pub bits : (Head → Bool) → List Head → ℕ
bits has [] = 0
bits has (head ∷ heads) = (if has head then 1 else 0) + 2 * bits has heads

-- masks have 128 bits; a row past them has none
abbrev pub mask : (Head → Bool) → List Head → ℕ
mask has heads = bits has (take 128 heads)

abbrev pub mask_signs : (Head → Bool) → List Head → Signs
mask_signs has heads = bytes (number 16 (mask has heads))

-- a row beats itself and each that it is more specific than
abbrev pub beats : Order → Head → Head → Bool
beats order head other = same_method head.0 other.0 || goes_before order head.0 other.0

abbrev pub row_signs : Order → (MethodKey → Split) → List Head → Head → Signs
row_signs order clones heads head = does_signs clones head ++ mask_signs (beats order head) heads

-- ---- positions

-- what a head has at a position
abbrev pub at : ℕ → Head → Option Bytes
at place head = slice_get head.0.specialisers place

abbrev pub is_any : ℕ → Head → Bool
is_any place head = elim (at place head) [ Some x ↦ bytes_eq x any | None ↦ false ]

-- whether a name has a base that is another name, as predicates have
abbrev pub is_predicate : Order → Bytes → Bool
is_predicate order x = elim (order.base x) [ Some y ↦ not (bytes_eq y x) | None ↦ false ]

-- whether each object of a class counts as a specialiser
abbrev pub is_held : Order → Bytes → Bytes → Bool
is_held order class x = bytes_eq x any || is_plain order x && is_name_of (order.cone x) class

abbrev pub holds_class : Order → ℕ → Bytes → Head → Bool
holds_class order place class head = elim (at place head) [ Some x ↦ is_held order class x | None ↦ false ]

abbrev pub is_name_at : ℕ → Bytes → Head → Bool
is_name_at place x head = elim (at place head) [ Some y ↦ bytes_eq y x | None ↦ false ]

-- the classes below the plain specialisers at a position, other than any
abbrev pub classes_of : Order → Option Bytes → List Bytes → List Bytes
classes_of order None known = known
classes_of order (Some x) known = if is_plain order x && not (bytes_eq x any) then put_all (order.cone x) known else known

abbrev pub listed : Order → ℕ → List Head → List Bytes → List Bytes
listed order place [] known = known
listed order place (head ∷ heads) known = listed order place heads (classes_of order (at place head) known)

-- the predicates among the specialisers at a position
abbrev pub predicate_of : Order → Option Bytes → List Bytes → List Bytes
predicate_of order None known = known
predicate_of order (Some x) known = if is_predicate order x then put x known else known

abbrev pub predicates : Order → ℕ → List Head → List Bytes → List Bytes
predicates order place [] known = known
predicates order place (head ∷ heads) known = predicates order place heads (predicate_of order (at place head) known)

abbrev pub class_signs : Order → ℕ → List Head → Bytes → Signs
class_signs order place heads class = named (symbols.Object class) ++ mask_signs (holds_class order place class) heads

abbrev pub predicate_signs : ℕ → List Head → Bytes → Signs
predicate_signs place heads x = named (symbols.Test x) ++ mask_signs (is_name_at place x) heads

-- the rows with any there; each class and each predicate with its rows
abbrev pub position_signs : Order → List Head → ℕ → Signs
position_signs order heads place =
    mask_signs (is_any place) heads ++ (bytes (fitted 4 (length (listed order place heads []))) ++
    (each (class_signs order place heads) (listed order place heads []) ++
    (bytes (fitted 4 (length (predicates order place heads []))) ++ each (predicate_signs place heads) (predicates order place heads []))))

abbrev pub positions_signs : Order → List Head → ℕ → ℕ → Signs
positions_signs order heads place zero = []
positions_signs order heads place (suc left) = position_signs order heads place ++ positions_signs order heads (suc place) left

-- ---- tables

abbrev pub rows_signs : Selector → Order → (MethodKey → Split) → List Head → Signs
rows_signs selector order clones heads =
    bytes (fitted 1 (length selector.name)) ++ (bytes selector.name ++ (bytes (fitted 1 selector.arity) ++ (bytes (fitted 1 (length heads)) ++
    (each (row_signs order clones heads) heads ++ positions_signs order heads 0 selector.arity))))

-- a selector without methods has no table, and nothing stands in its unit
abbrev pub table_signs : Selector → Order → (MethodKey → Split) → List Head → Signs
table_signs selector order clones [] = []
table_signs selector order clones (head ∷ heads) = rows_signs selector order clones (head ∷ heads)

-- The selector, its rows, and its positions.
abbrev pub table_unit : Selector → Order → (MethodKey → Split) → List Head → List Piece
table_unit selector order clones heads = grouped (table_signs selector order clones heads)
