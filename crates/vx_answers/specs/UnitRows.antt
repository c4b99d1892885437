-- What is asked for tables and codes.
use Rattle.std.specs.Prelude.{List, [], ◌∷◌, map, None, if◌then◌else◌}
use Rattle.vx_names.specs.declared.key.Selector.{Selector}
use Rattle.vx_names.specs.declared.key.MethodKey.{MethodKey}
use Rattle.vx_syntax.specs.Expressions.{Bytes}
use Rattle.vx_node.specs.declared.node.NodeId.TheVariants as node
use Rattle.vx_node.specs.declared.node.Filter.TheVariants as filter
use Rattle.vx_node.specs.declared.node.Variant.{Variant}
use Rattle.vx_node.specs.declared.kind.Kind.{Kind}
use Rattle.vx_node.specs.declared.kind.Kind.TheVariants as kinds
use Rattle.vx_node.specs.declared.unit.Piece.{Piece}
use Rattle.vx_node.specs.Asking.{Asking, gives, asks, followed, each}
use Rattle.vx_model.specs.Lookup.{same_method}
use Rattle.vx_compilation.specs.Readings.{ask_heads, ask_clones}
use Rattle.vx_compilation.specs.TreeAsking.{ask_tree}
use Rattle.vx_units.specs.CodeUnit.{code_unit}
use Rattle.vx_units.specs.TableUnit.{Split, table_unit}
use Rattle.vx_answers.specs.SendRows.{names_in, About, about, is_base, order_of, specialisers_of, specialisers_asked}

-- the heads that are source methods
abbrev pub source_heads : List (MethodKey × Kind) → List MethodKey
source_heads [] = []
source_heads ((key, kinds.Source) ∷ rest) = key ∷ source_heads rest
source_heads ((key, kinds.Prim number) ∷ rest) = source_heads rest
source_heads ((key, kinds.Get field) ∷ rest) = source_heads rest
source_heads ((key, kinds.Set field) ∷ rest) = source_heads rest

-- a specialiser with what is asked of it: base, up, and its cone where it is plain
abbrev pub with_cone : Bytes → Asking (About × List Bytes)
with_cone x =
    followed (about x) (λ one.
    if is_base x one.base then asks (node.Filter (filter.Cone x)) (λ answer. gives (one, names_in answer)) else gives (one, []))

-- what was asked of specialisers, apart
abbrev pub abouts_of : List (About × List Bytes) → List About
abouts_of asked = map (λ one. one.0) asked

abbrev pub cones_of : List (About × List Bytes) → List (Bytes × List Bytes)
cones_of asked = map (λ one. (one.0.name, one.1)) asked

-- the clones of a method
abbrev pub with_clones : MethodKey → Asking (MethodKey × Split)
with_clones key = ask_clones key (λ clones. gives (key, clones))

abbrev pub clones_of : List (MethodKey × Split) → MethodKey → Split
clones_of [] key = None
clones_of ((own, clones) ∷ rest) key = if same_method own key then clones else clones_of rest key

-- the unit that is made of what was asked
abbrev pub table_by : Selector → List (MethodKey × Kind) → List (About × List Bytes) → List (MethodKey × Split) → List Piece
table_by selector heads asked clones = table_unit selector (order_of (abouts_of asked) [] (cones_of asked)) (clones_of clones) heads

abbrev pub table_among : Selector → List (MethodKey × Kind) → Asking (List Piece)
table_among selector heads =
    each with_cone (specialisers_asked (specialisers_of heads None)) (λ asked.
    each with_clones (source_heads heads) (λ clones.
    gives (table_by selector heads asked clones)))

-- The heads; of each specialiser its base, the names above it and, where it is plain, its cone; the clones of each source head.
abbrev pub table_row : Selector → Asking (List Piece)
table_row selector = ask_heads selector (table_among selector)

-- The tree of the method.
abbrev pub code_row : MethodKey → Variant → Asking (List Piece)
code_row key variant = followed (ask_tree key variant) (λ tree. gives (code_unit tree))
