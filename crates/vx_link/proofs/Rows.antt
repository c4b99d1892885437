-- Rows that linking must give.
use Rattle.std.proofs.Common.{◌≡◌, List, [], ◌∷◌, ◌++◌, Option, Some, None, refl, replicate}
use Rattle.std.specs.Prelude.{codes}
use Rattle.vx_format.specs.Numbers.{Bytes, number}
use Rattle.vx_names.specs.declared.key.FieldKey.{FieldKey}
use Rattle.vx_names.specs.declared.key.Selector.{Selector}
use Rattle.vx_names.specs.declared.key.MethodKey.{MethodKey}
use Rattle.vx_node.specs.declared.node.NodeId.{NodeId}
use Rattle.vx_node.specs.declared.node.NodeId.TheVariants as node
use Rattle.vx_node.specs.declared.node.Target.TheVariants as target
use Rattle.vx_node.specs.declared.node.Variant.{Variant}
use Rattle.vx_node.specs.declared.node.Variant.TheVariants.{General, Clone}
use Rattle.vx_node.specs.declared.unit.Piece.{Piece}
use Rattle.vx_node.specs.declared.unit.Piece.TheVariants as pieces
use Rattle.vx_node.specs.declared.unit.Symbol.TheVariants as symbols
use Rattle.vx_link.specs.declared.roster.Roster.{Roster}
use Rattle.vx_link.specs.Link.{head, linked, reaches}

abbrev far_x : FieldKey
far_x = record { name = codes "x"; specialiser = codes "far" }

abbrev main_key : MethodKey
main_key = record { selector = record { name = codes "main"; arity = 0 }; specialisers = [] }

abbrev x_table : Selector
x_table = record { name = codes "x"; arity = 1 }

-- the six objects and one more, a predicate with a field, two tables, and a method with a clone
abbrev objects : List Bytes
objects = codes "closure" ∷ codes "false" ∷ codes "int" ∷ codes "nil" ∷ codes "spot" ∷ codes "string" ∷ codes "true" ∷ []

abbrev methods : List (MethodKey × Variant)
methods = (main_key, General) ∷ (main_key, Clone 0 (codes "spot")) ∷ []

abbrev spots : Roster
spots = record {
  fields = far_x ∷ [];
  objects = objects;
  tests = codes "far" ∷ [];
  tables = record { name = codes "main"; arity = 0 } ∷ x_table ∷ [];
  codes = methods;
}

-- one symbol of each kind and one that the roster does not have
abbrev named : List Piece
named =
    pieces.Symbol (symbols.Field far_x) ∷ pieces.Symbol (symbols.Object (codes "spot")) ∷ pieces.Bytes (9 ∷ []) ∷ pieces.Symbol (symbols.Test (codes "far"))
    ∷ pieces.Symbol (symbols.Table x_table) ∷ pieces.Symbol (symbols.Code main_key (Clone 0 (codes "spot")))
    ∷ pieces.Symbol (symbols.Object (codes "far")) ∷ []

-- the general code has them, and all else but a clone, which has no unit, is a byte
abbrev unit_of : NodeId → Option (List Piece)
unit_of (node.Target (target.Shape x)) = Some (pieces.Bytes (1 ∷ []) ∷ [])
unit_of (node.Target (target.Test x)) = Some (pieces.Bytes (2 ∷ []) ∷ [])
unit_of (node.Target (target.Table selector)) = Some (pieces.Bytes (3 ∷ []) ∷ [])
unit_of (node.Target (target.Code key General)) = Some named
unit_of (node.Target (target.Code key (Clone position x))) = None
unit_of (node.Fact fact) = None
unit_of (node.Filter filter) = None

spots_head : head spots ≡ codes "VXIC" ++ 2 ∷ 0 ∷ 0 ∷ 0 ∷ 1 ∷ 0 ∷ 0 ∷ 0 ∷ 7 ∷ 0 ∷ 0 ∷ 0 ∷ 1 ∷ 0 ∷ 0 ∷ 0 ∷ 2 ∷ 0 ∷ 0 ∷ 0 ∷ 2 ∷ 0 ∷ 0 ∷ 0 ∷ 0 ∷ 0 ∷ 0 ∷ 0 ∷ 1
    ∷ 0 ∷ 0 ∷ 0 ∷ 2 ∷ 0 ∷ 0 ∷ 0 ∷ 3 ∷ 0 ∷ 0 ∷ 0 ∷ 5 ∷ 0 ∷ 0 ∷ 0 ∷ 6 ∷ 0 ∷ 0 ∷ 0 ∷ 0 ∷ []
unfolding number
spots_head = refl

spots_linked : linked spots unit_of ≡ head spots ++ 1 ∷ 1 ∷ 1 ∷ 1 ∷ 1 ∷ 1 ∷ 1 ∷ 2 ∷ 3 ∷ 3 ∷ 0 ∷ 0 ∷ 0 ∷ 0 ∷ 0 ∷ 0 ∷ 0 ∷ 4 ∷ 9 ∷ 0 ∷ 0 ∷ 0 ∷ 0 ∷ 0 ∷ 0 ∷ 0 ∷ 1
    ∷ 0 ∷ 0 ∷ 0 ∷ 1 ∷ 255 ∷ 255 ∷ 255 ∷ 255 ∷ []
unfolding number
spots_linked = refl

-- without a table for main/0, and without objects, ffffffff stands in the head
abbrev nothing : Roster
nothing = record { fields = []; objects = []; tests = []; tables = []; codes = [] }

nothing_linked : linked nothing unit_of ≡ codes "VXIC" ++ 2 ∷ replicate 20 0 ++ replicate 28 255
unfolding number
nothing_linked = refl

-- ---- behind the 53 bytes of a head

-- one byte is left
just_short : reaches (λ size. size) 0 53 (4294967242 ∷ 0 ∷ []) ≡ None
just_short = refl

just_long : reaches (λ size. size) 0 53 (4294967241 ∷ 2 ∷ 0 ∷ []) ≡ Some 1
just_long = refl

-- units of 1,048,576 bytes: of 4,096 the last is too much
mebibytes : reaches (λ size. size) 0 53 (replicate 4102 1048576) ≡ Some 4095
mebibytes = refl
