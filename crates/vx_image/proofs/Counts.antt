-- Lists of an image are as short as the numbers before them can tell.
use Rattle.std.proofs.Common.{◌≡◌, ℕ, zero, suc, ◌^◌, ◌<◌, Bool, true, ◌&&◌, List, [], ◌∷◌, length, Option, Some, None, refl, ap, ◌∙◌, sym, arith}
use Rattle.std.specs.Prelude.{slice_get, nat_lt, nat_le}
use Rattle.std.proofs.lemmas.Bool.{ltb-true, and_parts}
use Rattle.vx_format.specs.declared.image.Version.{Version}
use Rattle.vx_format.specs.declared.image.Slot.{Slot}
use Rattle.vx_format.specs.declared.image.Test.{Test}
use Rattle.vx_format.specs.declared.image.Does.{Does}
use Rattle.vx_format.specs.declared.image.Roster.{Roster}
use Rattle.vx_format.specs.declared.image.Does.TheVariants as leads
use Rattle.vx_format.specs.declared.image.Row.{Row}
use Rattle.vx_format.specs.declared.image.Position.{Position}
use Rattle.vx_format.specs.declared.image.Table.{Table}
use Rattle.vx_format.specs.declared.image.Block.{Block}
use Rattle.vx_format.specs.declared.image.Image.{Image}
use Rattle.vx_format.specs.Numbers.{is_number, every}
use Rattle.vx_format.specs.Layout.{roster_of, is_long_name, starts, most_rows, is_own, is_optional, is_shape, is_test, is_table, is_code, is_row}
use Rattle.vx_format.specs.Layout.{is_does, is_position, is_mask, is_symbol, is_split, is_image}
use Rattle.vx_image.specs.Views.{pairs_of}
use Rattle.vx_image.specs.Parts.{within, shape_at, test_at, table_at, row_at, position_at, code_at}

-- what stands at a place fits at some number
every_at : {A : Type 0} (fits : ℕ → A → Bool) (first : ℕ) (xs : List A) (i : ℕ) (x : A) → every fits first xs ≡ true → slice_get xs i ≡ Some x
    → (n : ℕ) × (fits n x ≡ true)
every_at fits first [] i x e at = absurd cc
every_at fits first (y ∷ ys) zero x e at =
    let same : y ≡ x = cc in
    (first, ap (fits first) (sym same) ∙ (and_parts (fits first y) (every fits (suc first) ys) e).0)
every_at fits first (y ∷ ys) (suc i) x e at = every_at fits (suc first) ys i x (and_parts (fits first y) (every fits (suc first) ys) e).1 at

-- a part of what is there
apart : {A B : Type 0} (whole : Option A) (part : A → Option B) (b : B) → within whole part ≡ Some b → (a : A) × (whole ≡ Some a) × (part a ≡ Some b)
apart (Some a) part b e = (a, refl, e)
apart None part b e = absurd cc

-- what the lists of an image keep
record Lists (v : Version) (x : Image) : Type 0 where
  shapes : every (λ i. is_shape (roster_of x)) 0 x.shapes ≡ true
  tests : every (λ i. is_test (roster_of x)) 0 x.tests ≡ true
  tables : every (is_table v (roster_of x) x.main) 0 x.tables ≡ true
  codes : every (λ i. is_code (roster_of x)) 0 x.codes ≡ true

lists : (v : Version) (x : Image) → is_image v x ≡ true → Lists v x
lists v x e =
    let a = and_parts (is_number 4 x.fields) _ e in
    let b = and_parts (is_number 4 (length x.shapes)) _ a.1 in
    let c = and_parts (is_number 4 (length x.tests)) _ b.1 in
    let d = and_parts (is_number 4 (length x.tables)) _ c.1 in
    let f = and_parts (is_number 4 (length x.codes)) _ d.1 in
    let g = and_parts (is_own (roster_of x) x.own) _ f.1 in
    let h = and_parts (is_optional (length x.tables) x.main) _ g.1 in
    let j = and_parts (every (λ i. is_shape (roster_of x)) 0 x.shapes) _ h.1 in
    let k = and_parts (every (λ i. is_test (roster_of x)) 0 x.tests) _ j.1 in
    let l = and_parts (every (is_table v (roster_of x) x.main) 0 x.tables) _ k.1 in
    let m = and_parts (every (λ i. is_code (roster_of x)) 0 x.codes) _ l.1 in
    record { shapes = j.0; tests = k.0; tables = l.0; codes = m.0 }

pub few_slots : (v : Version) (x : Image) → is_image v x ≡ true → (object : ℕ) (slots : List Slot) → shape_at x object ≡ Some slots → length slots < 2 ^ 32
few_slots v x e object slots at =
    let fit = every_at (λ i. is_shape (roster_of x)) 0 x.shapes object slots (lists v x e).shapes at in
    omega (arith, ltb-true _ _ (and_parts (is_number 4 (length slots)) _ fit.1).0)

pub few_classes : (v : Version) (x : Image) → is_image v x ≡ true → (test : ℕ) (t : Test) → test_at x test ≡ Some t → length t.classes < 2 ^ 32
few_classes v x e test t at =
    let fit = every_at (λ i. is_test (roster_of x)) 0 x.tests test t (lists v x e).tests at in
    omega (arith, ltb-true _ _ (and_parts (is_number 4 (length t.classes)) _ fit.1).0)

-- the rows and positions of a table fit
record Parts (v : Version) (x : Image) (t : Table) : Type 0 where
  few : length t.rows < 256
  rows : every (λ i. is_row v (roster_of x)) 0 t.rows ≡ true
  positions : every (λ i. is_position v (roster_of x)) 0 t.positions ≡ true

parts : (v : Version) (x : Image) → is_image v x ≡ true → (table : ℕ) (t : Table) → table_at x table ≡ Some t → Parts v x t
parts v x e table t at =
    let fit = every_at (is_table v (roster_of x) x.main) 0 x.tables table t (lists v x e).tables at in
    let a = and_parts (is_long_name t.name) _ fit.1 in
    let b = and_parts (is_number 1 t.arity && starts x.main fit.0 t.arity) _ a.1 in
    let c = and_parts (is_number 1 (length t.rows) && nat_le (length t.rows) (most_rows v)) _ b.1 in
    let d = and_parts (every (λ i. is_row v (roster_of x)) 0 t.rows) _ c.1 in
    let f = and_parts (every (λ i. is_position v (roster_of x)) 0 t.positions && _) _ d.1 in
    record {
      few = omega (arith, ltb-true _ _ (and_parts (is_number 1 (length t.rows)) _ c.0).0);
      rows = d.0;
      positions = (and_parts (every (λ i. is_position v (roster_of x)) 0 t.positions) _ f.0).0;
    }

pub few_rows : (v : Version) (x : Image) → is_image v x ≡ true → (table : ℕ) (t : Table) → table_at x table ≡ Some t → length t.rows < 256
few_rows v x e table t at = (parts v x e table t at).few

-- a split has few pairs
few_of : (r : Roster) (does : Does) → is_does r does ≡ true → pairs_of does < 256
few_of r (leads.Code code None) e = omega arith
few_of r (leads.Code code (Some split)) e =
    let parted = (and_parts (is_split r (Some split)) _ (and_parts (is_symbol r.codes code) _ e).1).0 in
    let listed = (and_parts (nat_lt split.position 255) _ parted).1 in
    let pairs = (and_parts (is_number 1 (length split.pairs) && _) _ listed).0 in
    omega (arith, ltb-true _ _ (and_parts (is_number 1 (length split.pairs)) _ pairs).0)
few_of r (leads.Prim p) e = omega arith
few_of r (leads.Get field) e = omega arith
few_of r (leads.Set field) e = omega arith

pub few_pairs : (v : Version) (x : Image) → is_image v x ≡ true → (table row : ℕ) (r : Row) → row_at x table row ≡ Some r → pairs_of r.does < 256
few_pairs v x e table row r at =
    let w = apart (table_at x table) (λ t. slice_get t.rows row) r at in
    let fit = every_at (λ i. is_row v (roster_of x)) 0 w.0.rows row r (parts v x e table w.0 w.1).rows w.2 in
    few_of (roster_of x) r.does (and_parts (is_does (roster_of x) r.does) _ fit.1).0

pub few_listed : (v : Version) (x : Image) → is_image v x ≡ true → (table position : ℕ) (p : Position) → position_at x table position ≡ Some p
    → (length p.classes < 2 ^ 32) × (length p.tests < 2 ^ 32)
few_listed v x e table position p at =
    let w = apart (table_at x table) (λ t. slice_get t.positions position) p at in
    let fit = every_at (λ i. is_position v (roster_of x)) 0 w.0.positions position p (parts v x e table w.0 w.1).positions w.2 in
    let a = and_parts (is_mask v p.default) _ fit.1 in
    let b = and_parts (is_number 4 (length p.classes) && _) _ a.1 in
    let c = and_parts (is_number 4 (length p.tests) && _) _ b.1 in (
      omega (arith, ltb-true _ _ (and_parts (is_number 4 (length p.classes)) _ b.0).0),
      omega
          (arith, ltb-true _ _ (and_parts (is_number 4 (length p.tests)) _ c.0).0),
    )

pub few_blocks : (v : Version) (x : Image) → is_image v x ≡ true → (code : ℕ) (blocks : List Block) → code_at x code ≡ Some blocks → length blocks < 2 ^ 32
few_blocks v x e code blocks at =
    let fit = every_at (λ i. is_code (roster_of x)) 0 x.codes code blocks (lists v x e).codes at in
    let counted = (and_parts (is_number 4 (length blocks) && _) _ fit.1).0 in
    omega (arith, ltb-true _ _ (and_parts (is_number 4 (length blocks)) _ counted).0)
