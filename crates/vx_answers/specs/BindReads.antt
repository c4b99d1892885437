-- What is read for a binding.
use Rattle.std.specs.Prelude.{◌≡◌, ◌⊎◌, ℕ, false, List, Option, Some, slice_get}
use Rattle.std.specs.Str.{bytes_eq}
use Rattle.vx_lists.specs.Members.{IsIn}
use Rattle.vx_names.specs.declared.key.Selector.{Selector}
use Rattle.vx_names.specs.declared.key.MethodKey.{MethodKey}
use Rattle.vx_syntax.specs.declared.decl.Decl.{Decl}
use Rattle.vx_syntax.specs.Expressions.{Bytes}
use Rattle.vx_syntax.specs.Declarations.{any}
use Rattle.vx_node.specs.declared.node.NodeId.{NodeId}
use Rattle.vx_node.specs.declared.node.NodeId.TheVariants as node
use Rattle.vx_node.specs.declared.node.Fact.TheVariants as fact
use Rattle.vx_node.specs.declared.node.Filter.TheVariants as filter
use Rattle.vx_node.specs.declared.node.Info.{Info}
use Rattle.vx_node.specs.declared.node.Info.TheVariants as i
use Rattle.vx_model.specs.Order.{base}
use Rattle.vx_compilation.specs.Compiled.{heads}
use Rattle.vx_answers.specs.SendRows.{specialisers_of, info_objects}

-- one of the lists of specialisers of the heads of a selector, and of the method below which a message is bound
abbrev pub IsRow : List Decl → Selector → Option MethodKey → List Bytes → Type 0
IsRow program selector below row = IsIn row (specialisers_of (heads program selector) below)

-- a specialiser among them other than any
abbrev pub IsSpecialiser : List Decl → Selector → Option MethodKey → Bytes → Type 0
IsSpecialiser program selector below x = (row : List Bytes) × IsRow program selector below row × IsIn x row × (bytes_eq x any ≡ false)

-- the base of such a specialiser at a position
abbrev pub IsBaseAt : List Decl → Selector → Option MethodKey → ℕ → Bytes → Type 0
IsBaseAt program selector below position y =
    (row : List Bytes) × (x : Bytes) × IsRow program selector below row × (slice_get row position ≡ Some x) × (bytes_eq x any ≡ false) ×
    (base program x ≡ Some y)

-- the object of a position that has a cone, or the base of a specialiser there
abbrev pub HasCone : List Decl → Selector → List Info → Option MethodKey → Bytes → Type 0
HasCone program selector infos below y =
    (position : ℕ) × (x : Bytes) × (slice_get infos position ≡ Some (i.Cone x)) × ((y ≡ x) ⊎ IsBaseAt program selector below position y)

-- The heads; the base of each specialiser and the names above it; the names above the objects of infos; and at each position that has a cone, that cone
-- and those of the bases of the specialisers there.
abbrev pub IsReadFor : List Decl → Selector → List Info → Option MethodKey → NodeId → Type 0
IsReadFor program selector infos below subject =
    (subject ≡ node.Fact (fact.Heads selector)) ⊎
    (((x : Bytes) × IsSpecialiser program selector below x × ((subject ≡ node.Filter (filter.Base x)) ⊎ (subject ≡ node.Filter (filter.Up x)))) ⊎
    (((x : Bytes) × IsIn x (info_objects infos) × (subject ≡ node.Filter (filter.Up x))) ⊎
    ((y : Bytes) × HasCone program selector infos below y × (subject ≡ node.Filter (filter.Cone y)))))
