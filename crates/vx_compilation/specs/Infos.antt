-- What is known of values before a program runs.
use Rattle.std.specs.Prelude.{◌≡◌, List, [], ◌∷◌, Option, Some, None, if◌then◌else◌}
use Rattle.std.specs.Str.{bytes_eq}
use Rattle.vx_lists.specs.Members.{IsIn}
use Rattle.vx_syntax.specs.declared.decl.Decl.{Decl}
use Rattle.vx_syntax.specs.Expressions.{Bytes}
use Rattle.vx_syntax.specs.Declarations.{any}
use Rattle.vx_model.specs.declared.value.Value.{Value}
use Rattle.vx_model.specs.declared.value.Heap.{Heap}
use Rattle.vx_node.specs.declared.node.Info.{Info}
use Rattle.vx_node.specs.declared.node.Info.TheVariants as i
use Rattle.vx_model.specs.Order.{cone}
use Rattle.vx_model.specs.Holds.{class_of}

-- a value fits what is known of it, in a heap
abbrev pub Fits : List Decl → Heap → Info → Value → Type 0
Fits program heap i.Any value = Unit {0}
Fits program heap (i.Cone x) value = IsIn (class_of heap value) (cone program x)
Fits program heap (i.Exact x) value = class_of heap value ≡ x

-- as many values, each of which fits
abbrev pub AllFit : List Decl → Heap → List Info → List Value → Type 0
AllFit program heap [] [] = Unit {0}
AllFit program heap [] (value ∷ values) = ⊥
AllFit program heap (info ∷ infos) [] = ⊥
AllFit program heap (info ∷ infos) (value ∷ values) = Fits program heap info value × AllFit program heap infos values

-- nothing is known of what is below `any`
abbrev pub cone_of : Bytes → Info
cone_of x = if bytes_eq x any then i.Any else i.Cone x

-- of an argument its specialiser tells the base
abbrev pub formal_info : (Bytes → Option Bytes) → Bytes → Info
formal_info base x = if bytes_eq x any then i.Any else elim (base x) [ Some y ↦ cone_of y | None ↦ i.Any ]
