-- What is linked from units that spell an image is that image.
use Rattle.std.proofs.Common.{◌≡◌, ◌∙◌, ◌∷◌, ◌++◌, ℕ, suc, List, [], map, ap, refl, sym, length, append_assoc, append-nil}
use Rattle.std.specs.Prelude.{codes}
use Rattle.vx_format.specs.declared.image.Version.TheVariants.{Two}
use Rattle.vx_format.specs.declared.image.Image.{Image}
use Rattle.vx_format.specs.Numbers.{Bytes, number, each, text}
use Rattle.vx_format.specs.Layout.{shape, test, table, code, own, optional, symbol}
use Rattle.vx_node.specs.declared.node.NodeId.{NodeId}
use Rattle.vx_node.specs.declared.unit.Symbol.TheVariants as symbols
use Rattle.vx_link.specs.declared.roster.Roster.{Roster}
use Rattle.vx_link.specs.Roster.{place}
use Rattle.vx_link.specs.Link.{UnitOf, shape_of, test_of, table_of, code_of, targets, unit_bytes, beginning, counts, six, object_bytes, main_selector}
use Rattle.vx_link.specs.Spells.{AreSpelled, Spell, SpelledIsLinked}

each_behind : (spell : NodeId → Bytes) (xs ys : List NodeId) → each spell (xs ++ ys) ≡ each spell xs ++ each spell ys
each_behind spell [] ys = refl
each_behind spell (x ∷ xs) ys = ap (λ rest. spell x ++ rest) (each_behind spell xs ys) ∙ sym (append_assoc (spell x) (each spell xs) (each spell ys))

module _ (r : Roster) (unit_of : UnitOf) where
  -- the units of keys are the bytes of their parts
  units_are : {K A : Type 0} (node : K → NodeId) (spell : A → Bytes) (keys : List K) (parts : List A) → AreSpelled r unit_of node spell keys parts →
      each (unit_bytes r unit_of) (map node keys) ≡ each spell parts
  units_are node spell [] [] h = refl
  units_are node spell [] (part ∷ parts) h = absurd h
  units_are node spell (key ∷ keys) [] h = absurd h
  units_are node spell (key ∷ keys) (part ∷ parts) h =
      ap (λ bytes. bytes ++ each (unit_bytes r unit_of) (map node keys)) h.0 ∙ ap (λ bytes. spell part ++ bytes) (units_are node spell keys parts h.1)

  as_many : {K A : Type 0} (node : K → NodeId) (spell : A → Bytes) (keys : List K) (parts : List A) → AreSpelled r unit_of node spell keys parts →
      length keys ≡ length parts
  as_many node spell [] [] h = refl
  as_many node spell [] (part ∷ parts) h = absurd h
  as_many node spell (key ∷ keys) [] h = absurd h
  as_many node spell (key ∷ keys) (part ∷ parts) h = ap suc (as_many node spell keys parts h.1)

-- the objects of the head
six_are : (r : Roster) (unit_of : UnitOf) (image : Image) → Spell r unit_of image → six r.objects ≡ own image.own
six_are r unit_of image s =
    let closure : object_bytes r.objects (codes "closure") ≡ symbol image.own.closure = ap optional s.closure in
    let false_ : object_bytes r.objects (codes "false") ≡ symbol image.own.false_ = ap optional s.false_ in
    let int : object_bytes r.objects (codes "int") ≡ symbol image.own.int = ap optional s.int in
    let nil : object_bytes r.objects (codes "nil") ≡ symbol image.own.nil = ap optional s.nil in
    let string : object_bytes r.objects (codes "string") ≡ symbol image.own.string = ap optional s.string in
    let true_ : object_bytes r.objects (codes "true") ≡ symbol image.own.true_ = ap optional s.true_ in
    cc

-- the numbers of the head
counted : ℕ → Image → Bytes
counted fields x =
    text (number 4 fields ∷ number 4 (length x.shapes) ∷ number 4 (length x.tests) ∷ number 4 (length x.tables) ∷ number 4 (length x.codes) ∷ [])

counts_are : (r : Roster) (unit_of : UnitOf) (image : Image) → Spell r unit_of image → counts r ≡ counted image.fields image
unfolding counted
counts_are r unit_of image s =
    let fields = s.fields in
    let objects = as_many r unit_of shape_of shape r.objects image.shapes s.shapes in
    let tests = as_many r unit_of test_of test r.tests image.tests s.tests in
    let tables = as_many r unit_of table_of (table Two) r.tables image.tables s.tables in
    let codes = as_many r unit_of code_of code r.codes image.codes s.codes in
    cc

-- the bytes of the units
units_of : (r : Roster) (unit_of : UnitOf) (image : Image) → Spell r unit_of image → each (unit_bytes r unit_of) (targets r)
    ≡ each shape image.shapes ++ (each test image.tests ++ (each (table Two) image.tables ++ each code image.codes))
units_of r unit_of image s =
    let unit = unit_bytes r unit_of in
    let shapes = units_are r unit_of shape_of shape r.objects image.shapes s.shapes in
    let tests = units_are r unit_of test_of test r.tests image.tests s.tests in
    let tables = units_are r unit_of table_of (table Two) r.tables image.tables s.tables in
    let codes = units_are r unit_of code_of code r.codes image.codes s.codes in
    let one = each_behind unit (map shape_of r.objects) (map test_of r.tests ++ (map table_of r.tables ++ map code_of r.codes)) in
    let two = each_behind unit (map test_of r.tests) (map table_of r.tables ++ map code_of r.codes) in
    let three = each_behind unit (map table_of r.tables) (map code_of r.codes) in
    cc

pub spelled_is_linked : SpelledIsLinked
unfolding counted number
spelled_is_linked r unit_of image s =
    let units : Bytes = each (unit_bytes r unit_of) (targets r) in
    let main : Bytes = optional (place r (symbols.Table main_selector)) in
    let numbers : Bytes = counted image.fields image in
    ap (λ bytes. (beginning ++ (bytes ++ (six r.objects ++ (main ++ [])))) ++ units) (counts_are r unit_of image s)
    ∙ ap (λ bytes. (beginning ++ (numbers ++ (bytes ++ (main ++ [])))) ++ units) (six_are r unit_of image s)
    ∙ ap (λ bytes. (beginning ++ (numbers ++ (own image.own ++ (bytes ++ [])))) ++ units) (ap optional s.main)
    ∙ ap (λ bytes. (beginning ++ (numbers ++ (own image.own ++ (optional image.main ++ [])))) ++ bytes) (units_of r unit_of image s)
    ∙ simp (append_assoc, append-nil) refl
