-- What an image that fits a version keeps of names, rows and objects, and when its classes rise.
use Rattle.std.proofs.Common.{◌≡◌, ◌∙◌, ◌↔◌, ℕ, zero, suc, ◌+◌, ◌≤◌, ◌&&◌, Bool, true, List, [], ◌∷◌, length}
use Rattle.std.proofs.Common.{Option, Some, None, ap, refl, sym, arith}
use Rattle.std.specs.List.{list_all}
use Rattle.std.specs.Prelude.{nat_le, nat_lt, slice_get}
use Rattle.std.proofs.lemmas.Bool.{and_parts, leb-true, ltb-true}
use Rattle.vx_lists.proofs.Members as members
use Rattle.vx_lists.proofs.Places.{in_at}
use Rattle.vx_names.specs.Name.{IsName}
use Rattle.vx_format.specs.declared.image.Version.{Version}
use Rattle.vx_format.specs.declared.image.Version.TheVariants.{One, Two}
use Rattle.vx_format.specs.declared.image.Roster.{Roster}
use Rattle.vx_format.specs.declared.image.Instr.{Instr}
use Rattle.vx_format.specs.declared.image.Instr.TheVariants as n
use Rattle.vx_format.specs.declared.image.Block.{Block}
use Rattle.vx_format.specs.declared.image.ClassMask.{ClassMask}
use Rattle.vx_format.specs.declared.image.Position.{Position}
use Rattle.vx_format.specs.declared.image.Table.{Table}
use Rattle.vx_format.specs.declared.image.Image.{Image}
use Rattle.vx_format.specs.Numbers.{each, every, is_number}
use Rattle.vx_format.specs.Layout.{is_block, is_code, is_image, is_instr, is_long_name, is_name, is_optional, is_own, is_shape}
use Rattle.vx_format.specs.Layout.{is_table, is_test, may_capture, most_rows}
use Rattle.vx_format.specs.Layout.{instr, roster_of, starts}
use Rattle.vx_places.specs.ImageMachine.{block_at}
use Rattle.vx_machine.specs.Cuts.{AreNamed, IsNamed}
use Rattle.vx_machine.specs.Meaning.{AllRise, IsFine}
use Rattle.vx_machine.specs.Opening.{rising}
use Rattle.vx_machine.specs.Rising.{Rises}

-- each one fits, at its place
every_at : {A : Type 0} (fits : ℕ → A → Bool) (first : ℕ) (xs : List A) (i : ℕ) (x : A) → every fits first xs ≡ true → slice_get xs i ≡ Some x
    → (place : ℕ) × (fits place x ≡ true)
every_at fits first [] i x e at = absurd cc
every_at fits first (own ∷ rest) zero x e at =
    let same : own ≡ x = cc in
    (first, ap (fits first) (sym same) ∙ (and_parts (fits first own) (every fits (suc first) rest) e).0)
every_at fits first (own ∷ rest) (suc i) x e at =
    every_at fits (suc first) rest i x (and_parts (fits first own) (every fits (suc first) rest) e).1 at

-- ---- names

abbrev Named : Type 0
Named = (bytes : List ℕ) → ((is_name bytes ≡ true) ↔ IsName bytes)

-- a name with the number of its bytes is a name
name_is : Named → (bytes : List ℕ) → (is_number 1 (length bytes) && is_name bytes) ≡ true → IsName bytes
name_is named bytes e = (named bytes).0 (and_parts (is_number 1 (length bytes)) (is_name bytes) e).1

instr_named : Named → (r : Roster) (instr : Instr) → is_instr r instr ≡ true → IsNamed instr
instr_named named r (n.Fail kind name arity) e =
    let behind = (and_parts (is_number 1 kind && nat_lt kind 3) _ e).1 in
    name_is named name (and_parts (is_number 1 (length name) && is_name name) _ behind).0
instr_named named r (n.Int z) e = tt
instr_named named r (n.Text bytes) e = tt
instr_named named r (n.Object o) e = tt
instr_named named r (n.Load x) e = tt
instr_named named r (n.Store x) e = tt
instr_named named r (n.Cell x) e = tt
instr_named named r (n.CellGet x) e = tt
instr_named named r (n.CellSet x) e = tt
instr_named named r (n.Closure block xs) e = tt
instr_named named r (n.Send t) e = tt
instr_named named r (n.Call c) e = tt
instr_named named r (n.Resend t row) e = tt
instr_named named r (n.Prim p) e = tt
instr_named named r (n.Get f) e = tt
instr_named named r (n.Set f) e = tt
instr_named named r (n.New o fs) e = tt
instr_named named r n.Pop e = tt
instr_named named r n.Ret e = tt
instr_named named r n.Home e = tt
instr_named named r n.Mark e = tt

-- the last of the tests of a block is that of its instructions
block_named : Named → (r : Roster) (place : ℕ) (block : Block) → is_block r place block ≡ true → AreNamed block.code
block_named named r place block e i one at =
    let a = (and_parts (is_number 4 block.locals) _ e).1 in
    let b = (and_parts (is_number 4 block.captures && may_capture place block.captures) _ a).1 in
    let c = (and_parts (is_number 1 block.formals && nat_le (block.captures + block.formals) block.locals) _ b).1 in
    let d = (and_parts (is_number 4 (length (each instr block.code))) _ c).1 in
    let code = (and_parts (every (λ k. is_instr r) 0 block.code) true d).0 in
    instr_named named r one (every_at (λ k. is_instr r) 0 block.code i one code at).1

-- a block is one of a code that is there
code_at : (image : Image) (code block : ℕ) (found : Block) → block_at image code block ≡ Some found
    → (blocks : List Block) × (slice_get image.codes code ≡ Some blocks) × (slice_get blocks block ≡ Some found)
code_at image code block found at = by_code (slice_get image.codes code) refl at where
  by_code : (o : Option (List Block)) → slice_get image.codes code ≡ o
      → (elim o as (λ o'. Option Block) [ Some blocks ↦ slice_get blocks block | None ↦ None ]) ≡ Some found
      → (blocks : List Block) × (slice_get image.codes code ≡ Some blocks) × (slice_get blocks block ≡ Some found)
  by_code None is e = absurd cc
  by_code (Some blocks) is e = (blocks, is, e)

-- ---- images

-- what the tests of an image's parts say
record Parts (v : Version) (image : Image) : Type 0 where
  objects : is_number 4 (length image.shapes) ≡ true
  tables : every (is_table v (roster_of image) image.main) 0 image.tables ≡ true
  codes : every (λ k. is_code (roster_of image)) 0 image.codes ≡ true

parts_of : (v : Version) (image : Image) → is_image v image ≡ true → Parts v image
parts_of v image e =
    let r = roster_of image in
    let a = (and_parts (is_number 4 image.fields) _ e).1 in
    let b = and_parts (is_number 4 (length image.shapes)) _ a in
    let c = (and_parts (is_number 4 (length image.tests)) _ b.1).1 in
    let d = (and_parts (is_number 4 (length image.tables)) _ c).1 in
    let f = (and_parts (is_number 4 (length image.codes)) _ d).1 in
    let g = (and_parts (is_own r image.own) _ f).1 in
    let h = (and_parts (is_optional r.tables image.main) _ g).1 in
    let i = (and_parts (every (λ k. is_shape r) 0 image.shapes) _ h).1 in
    let j = (and_parts (every (λ k. is_test r) 0 image.tests) _ i).1 in
    let tables = and_parts (every (is_table v r image.main) 0 image.tables) _ j in
    let codes = and_parts (every (λ k. is_code r) 0 image.codes) true tables.1 in
    record { objects = b.0; tables = tables.0; codes = codes.0 }

few_rows : (v : Version) (count : ℕ) → nat_le count (most_rows v) ≡ true → count ≤ 128
few_rows One count e = let le = leb-true count 64 e in omega arith
few_rows Two count e = leb-true count 128 e

pub fine : Named → (v : Version) (image : Image) → is_image v image ≡ true → IsFine image
fine named v image e =
    let p = parts_of v image e in
    record {
      objects = ltb-true (length image.shapes) 4294967296 p.objects;
      named = λ code block found at. in_code code block found (code_at image code block found at);
      names = λ t table at. name_is named table.name (and_parts (is_long_name table.name) _ (table_is t table at).1).0;
      rows = λ t table at. rows_of (table_is t table at).0 table (table_is t table at).1;
    } where
      table_is : (t : ℕ) (table : Table) → slice_get image.tables t ≡ Some table →
          (place : ℕ) × (is_table v (roster_of image) image.main place table ≡ true)
      table_is t table at = every_at (is_table v (roster_of image) image.main) 0 image.tables t table (parts_of v image e).tables at

      rows_of : (place : ℕ) (table : Table) → is_table v (roster_of image) image.main place table ≡ true → length table.rows ≤ 128
      rows_of place table is =
          let a = (and_parts (is_long_name table.name) _ is).1 in
          let b = (and_parts (is_number 1 table.arity && starts image.main place table.arity) _ a).1 in
          let c = (and_parts (is_number 1 (length table.rows) && nat_le (length table.rows) (most_rows v)) _ b).0 in
          few_rows v (length table.rows) (and_parts (is_number 1 (length table.rows)) (nat_le (length table.rows) (most_rows v)) c).1

      in_code : (code block : ℕ) (found : Block)
          → (blocks : List Block) × (slice_get image.codes code ≡ Some blocks) × (slice_get blocks block ≡ Some found) → AreNamed found.code
      in_code code block found q =
          let code_is = every_at (λ k. is_code (roster_of image)) 0 image.codes code q.0 (parts_of v image e).codes q.1 in
          let blocks_are = (and_parts (is_number 4 (length q.0) && nat_le 1 (length q.0)) (every (is_block (roster_of image)) 0 q.0) code_is.1).1 in
          let block_is = every_at (is_block (roster_of image)) 0 q.0 block found blocks_are q.2 in
          block_named named (roster_of image) block_is.0 found block_is.1

-- ---- classes that rise

at_least : (least : ℕ) (entries : List ClassMask) (j : ℕ) (b : ClassMask) → rising least entries ≡ true → slice_get entries j ≡ Some b → least ≤ b.symbol
at_least least [] j b e at = absurd cc
at_least least (entry ∷ rest) zero b e at =
    let same : entry ≡ b = cc in
    let le : least ≤ entry.symbol = leb-true _ _ (and_parts (nat_le least entry.symbol) (rising (entry.symbol + 1) rest) e).0 in
    rw (← same) le
at_least least (entry ∷ rest) (suc j) b e at =
    let p = and_parts (nat_le least entry.symbol) (rising (entry.symbol + 1) rest) e in
    let le : least ≤ entry.symbol = leb-true _ _ p.0 in
    let more : entry.symbol + 1 ≤ b.symbol = at_least (entry.symbol + 1) rest j b p.1 at in
    omega arith

rises_from : (least : ℕ) (entries : List ClassMask) → rising least entries ≡ true → Rises entries
rises_from least [] e i j a b lt at bt = absurd cc
rises_from least (entry ∷ rest) e i zero a b lt at bt = absurd (omega arith)
rises_from least (entry ∷ rest) e zero (suc j) a b lt at bt =
    let same : entry ≡ a = cc in
    let p = and_parts (nat_le least entry.symbol) (rising (entry.symbol + 1) rest) e in
    let more : entry.symbol + 1 ≤ b.symbol = at_least (entry.symbol + 1) rest j b p.1 bt in
    rw (← same) (omega arith)
rises_from least (entry ∷ rest) e (suc i) (suc j) a b lt at bt =
    let p = and_parts (nat_le least entry.symbol) (rising (entry.symbol + 1) rest) e in
    rises_from (entry.symbol + 1) rest p.1 i j a b (omega arith) at bt

abbrev position_rises : Position → Bool
position_rises position = rising 0 position.classes

abbrev table_rises : Table → Bool
table_rises table = list_all position_rises table.positions

pub all_rise : (image : Image) → list_all table_rises image.tables ≡ true → AllRise image
all_rise image e t table p position at there =
    let in_table : table_rises table ≡ true = members.each table_rises image.tables e table (in_at image.tables t table at) in
    rises_from 0 position.classes (members.each position_rises table.positions in_table position (in_at table.positions p position there))
