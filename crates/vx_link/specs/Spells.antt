-- When units spell an image, and that they are linked into it then.
use Rattle.std.specs.Prelude.{◌≡◌, ℕ, List, [], ◌∷◌, length, Some, codes}
use Rattle.vx_format.specs.declared.image.Version.TheVariants.{Two}
use Rattle.vx_format.specs.declared.image.Image.{Image}
use Rattle.vx_format.specs.Numbers.{Bytes}
use Rattle.vx_format.specs.Layout.{shape, test, table, code, image_bytes}
use Rattle.vx_node.specs.declared.node.NodeId.{NodeId}
use Rattle.vx_node.specs.declared.unit.Symbol.TheVariants as symbols
use Rattle.vx_link.specs.declared.roster.Roster.{Roster}
use Rattle.vx_link.specs.Roster.{place}
use Rattle.vx_link.specs.Link.{UnitOf, shape_of, test_of, table_of, code_of, unit_bytes, main_selector, linked}

-- there are as many parts as keys, and the unit of each key, with places for its names, is the bytes of its part
abbrev pub AreSpelled : {K A : Type 0} → Roster → UnitOf → (K → NodeId) → (A → Bytes) → List K → List A → Type 0
AreSpelled r unit_of node spell [] [] = Unit {0}
AreSpelled r unit_of node spell [] (part ∷ parts) = ⊥
AreSpelled r unit_of node spell (key ∷ keys) [] = ⊥
AreSpelled r unit_of node spell (key ∷ keys) (part ∷ parts) = (unit_bytes r unit_of (node key) ≡ spell part) × AreSpelled r unit_of node spell keys parts

-- the object stands at the place
abbrev pub IsAt : Roster → List ℕ → ℕ → Type 0
IsAt r name object = place r (symbols.Object name) ≡ Some object

-- The units of a roster spell an image.
pub record Spell (r : Roster) (unit_of : UnitOf) (image : Image) : Type 0 where
  pub fields : length r.fields ≡ image.fields
  pub closure : IsAt r (codes "closure") image.own.closure
  pub false_ : IsAt r (codes "false") image.own.false_
  pub int : IsAt r (codes "int") image.own.int
  pub nil : IsAt r (codes "nil") image.own.nil
  pub string : IsAt r (codes "string") image.own.string
  pub true_ : IsAt r (codes "true") image.own.true_
  pub main : place r (symbols.Table main_selector) ≡ image.main
  pub shapes : AreSpelled r unit_of shape_of shape r.objects image.shapes
  pub tests : AreSpelled r unit_of test_of test r.tests image.tests
  pub tables : AreSpelled r unit_of table_of (table Two) r.tables image.tables
  pub codes : AreSpelled r unit_of code_of code r.codes image.codes

-- What is linked from them is the image, in version 2.
abbrev pub SpelledIsLinked : Type 0
SpelledIsLinked = (r : Roster) (unit_of : UnitOf) (image : Image) → Spell r unit_of image → linked r unit_of ≡ image_bytes Two image
