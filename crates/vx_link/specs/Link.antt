-- The image that is linked from units, and where it becomes too long.
use Rattle.std.specs.Prelude.{ℕ, ◌+◌, ◌^◌, ◌<◌, ◌≤◌, List, [], ◌∷◌, ◌++◌, length, map, Option, Some, None, Result, Ok, Err, nat_lt, if◌then◌else◌, codes, ◌≡◌}
use Rattle.vx_format.specs.declared.image.Version.TheVariants.{Two}
use Rattle.vx_format.specs.Numbers.{Bytes, number, text, each}
use Rattle.vx_format.specs.Layout.{optional, version_byte}
use Rattle.vx_names.specs.declared.key.MethodKey.{MethodKey}
use Rattle.vx_names.specs.declared.key.Selector.{Selector}
use Rattle.vx_names.specs.Key.{name_cmp}
use Rattle.vx_node.specs.declared.node.NodeId.{NodeId}
use Rattle.vx_node.specs.declared.node.NodeId.TheVariants as node
use Rattle.vx_node.specs.declared.node.Target.TheVariants as target
use Rattle.vx_node.specs.declared.node.Variant.{Variant}
use Rattle.vx_node.specs.declared.unit.Piece.{Piece}
use Rattle.vx_node.specs.declared.unit.Piece.TheVariants as pieces
use Rattle.vx_node.specs.declared.unit.Symbol.TheVariants as symbols
use Rattle.vx_link.specs.declared.fault.LinkFault.{LinkFault}
use Rattle.vx_link.specs.declared.fault.LinkFault.TheVariants as faults
use Rattle.vx_link.specs.declared.roster.Roster.{Roster}
use Rattle.vx_link.specs.Roster.{place, place_in}

-- the unit of each node that has one
abbrev pub UnitOf : Type 0
UnitOf = NodeId → Option (List Piece)

-- the nodes of an object's shape, of a predicate's test, of a message's table and of a code
abbrev pub shape_of : List ℕ → NodeId
shape_of name = node.Target (target.Shape name)

abbrev pub test_of : List ℕ → NodeId
test_of name = node.Target (target.Test name)

abbrev pub table_of : Selector → NodeId
table_of selector = node.Target (target.Table selector)

abbrev pub code_of : MethodKey × Variant → NodeId
code_of code = node.Target (target.Code code.0 code.1)

-- the nodes whose units stand in the image, in its order
abbrev pub targets : Roster → List NodeId
targets r = map shape_of r.objects ++ (map test_of r.tests ++ (map table_of r.tables ++ map code_of r.codes))

-- a symbol is its place, and ffffffff where it has none
abbrev pub piece_bytes : Roster → Piece → Bytes
piece_bytes r (pieces.Bytes bytes) = bytes
piece_bytes r (pieces.Symbol symbol) = optional (place r symbol)

-- the pieces of a unit; what has no unit has none
abbrev pub pieces_of : Option (List Piece) → List Piece
pieces_of None = []
pieces_of (Some unit) = unit

-- the unit of a node
abbrev pub unit_bytes : Roster → UnitOf → NodeId → Bytes
unit_bytes r unit_of target = each (piece_bytes r) (pieces_of (unit_of target))

-- which version the image is of
abbrev pub beginning : Bytes
beginning = codes "VXIC" ++ number 1 (version_byte Two)

-- how many fields, objects, tests, tables and codes there are
abbrev pub counts : Roster → Bytes
counts r =
    text (number 4 (length r.fields) ∷ number 4 (length r.objects) ∷ number 4 (length r.tests) ∷ number 4 (length r.tables) ∷ number 4 (length r.codes) ∷ [])

-- an object by its name
abbrev pub object_bytes : List (List ℕ) → List ℕ → Bytes
object_bytes objects name = optional (place_in name_cmp objects name)

-- the six objects that the machine must know
abbrev pub six : List (List ℕ) → Bytes
six objects = text (object_bytes objects (codes "closure") ∷ object_bytes objects (codes "false") ∷ object_bytes objects (codes "int") ∷
    object_bytes objects (codes "nil") ∷ object_bytes objects (codes "string") ∷ object_bytes objects (codes "true") ∷ [])

-- the message that begins a run: `main` without arguments
abbrev pub main_selector : Selector
main_selector = record { name = codes "main"; arity = 0 }

-- What stands before the units. Where there is no table with which a run begins it has ffffffff.
abbrev pub head : Roster → Bytes
head r = text (beginning ∷ counts r ∷ six r.objects ∷ optional (place r (symbols.Table main_selector)) ∷ [])

-- The bytes of the image: the head, and then the units.
abbrev pub linked : Roster → UnitOf → Bytes
linked r unit_of = head r ++ each (unit_bytes r unit_of) (targets r)

-- an image is shorter than this
abbrev pub limit : ℕ
limit = 2 ^ 32

-- Of parts that have so many bytes each, behind so many bytes: the place, counted on from the first number, of that with which they reach the limit.
abbrev pub reaches : {A : Type 0} → (A → ℕ) → ℕ → ℕ → List A → Option ℕ
reaches size place before [] = None
reaches size place before (x ∷ rest) = if nat_lt (before + size x) limit then reaches size (place + 1) (before + size x) rest else Some place

-- The place of the unit with which the image reaches the limit, from 0 in its order; none where it is shorter.
abbrev pub first_too_long : Roster → UnitOf → Option ℕ
first_too_long r unit_of = reaches (λ target. length (unit_bytes r unit_of target)) 0 (length (head r)) (targets r)

-- What linking answers, seen by view: the image where it is shorter than the limit, and else where it reaches that. Of want of memory nothing is said.
abbrev pub LinksAs : {X : Type 0} → (X → Bytes) → Result X LinkFault → Roster → UnitOf → Type 0
LinksAs view (Ok image) r unit_of = (view image ≡ linked r unit_of) × (length (linked r unit_of) < limit) × (first_too_long r unit_of ≡ None)
LinksAs view (Err (faults.TooLong unit)) r unit_of = (limit ≤ length (linked r unit_of)) × (first_too_long r unit_of ≡ Some unit)
LinksAs view (Err faults.OutOfMemory) r unit_of = Unit {0}
