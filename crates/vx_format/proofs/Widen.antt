-- An image that fits version 1 fits version 2.
use Rattle.std.proofs.Common.{◌≡◌, ℕ, suc, ◌^◌, Bool, true, leb, ◌&&◌, List, [], ◌∷◌, length, Option, refl, arith}
use Rattle.std.proofs.lemmas.Bool.{ltb-true, lt-ltb, leb-true, le-leb}
use Rattle.vx_format.specs.declared.image.Version.TheVariants.{One, Two}
use Rattle.vx_format.specs.declared.image.Version.{Version}
use Rattle.vx_format.specs.declared.image.ClassMask.{ClassMask}
use Rattle.vx_format.specs.declared.image.Row.{Row}
use Rattle.vx_format.specs.declared.image.Position.{Position}
use Rattle.vx_format.specs.declared.image.Table.{Table}
use Rattle.vx_format.specs.declared.image.Roster.{Roster}
use Rattle.vx_format.specs.declared.image.Image.{Image}
use Rattle.std.specs.Prelude.{◌==◌}
use Rattle.vx_format.specs.Numbers.{is_number, every}
use Rattle.vx_format.specs.Layout.{roster_of, is_long_name, starts, is_own, is_optional, is_shape, is_test, is_list, is_mask, is_row, is_class_mask}
use Rattle.vx_format.specs.Layout.{is_position, is_table, is_image}
use Rattle.vx_format.proofs.Spelled.{both_true, and_true}

-- a test that follows from another, in a conjunction
right : (a b c : Bool) → (b ≡ true → c ≡ true) → (a && b) ≡ true → (a && c) ≡ true
right a b c h e = let p = both_true a b e in and_true a c p.0 (h p.1)

left : (a b c : Bool) → (a ≡ true → c ≡ true) → (a && b) ≡ true → (c && b) ≡ true
left a b c h e = let p = both_true a b e in and_true c b (h p.0) p.1

each_fits : {A : Type 0} (f g : ℕ → A → Bool) → ((i : ℕ) (x : A) → f i x ≡ true → g i x ≡ true) → (first : ℕ) (xs : List A) → every f first xs ≡ true
    → every g first xs ≡ true
each_fits f g h first [] e = refl
each_fits f g h first (x ∷ xs) e = let p = both_true (f first x) (every f (suc first) xs) e in and_true _ _ (h first x p.0) (each_fits f g h (suc first) xs p.1)

mask_fits : (n : ℕ) → is_mask One n ≡ true → is_mask Two n ≡ true
mask_fits n e = let lt = ltb-true n (256 ^ 8) e in lt-ltb n (256 ^ 16) (omega arith)

row_fits : (r : Roster) (x : Row) → is_row One r x ≡ true → is_row Two r x ≡ true
row_fits r x = right _ _ _ (left _ _ _ (mask_fits x.beats))

class_fits : (bound : ℕ) (x : ClassMask) → is_class_mask One bound x ≡ true → is_class_mask Two bound x ≡ true
class_fits bound x = right _ _ _ (left _ _ _ (mask_fits x.mask))

classes_fit : (bound : ℕ) (xs : List ClassMask) → is_list 4 (is_class_mask One bound) xs ≡ true → is_list 4 (is_class_mask Two bound) xs ≡ true
classes_fit bound xs = right _ _ _ (each_fits (λ i. is_class_mask One bound) (λ i. is_class_mask Two bound) (λ i. class_fits bound) 0 xs)

position_fits : (r : Roster) (x : Position) → is_position One r x ≡ true → is_position Two r x ≡ true
position_fits r x e =
    let p = both_true _ _ e in let q = both_true _ _ p.1 in let s = both_true _ _ q.1 in
    and_true _ _ (mask_fits x.default p.0) (and_true _ _ (classes_fit r.objects x.classes q.0) (and_true _ _ (classes_fit r.tests x.tests s.0) refl))

rows_fit : (n : ℕ) → leb n 64 ≡ true → leb n 128 ≡ true
rows_fit n e = let le = leb-true n 64 e in le-leb n 128 (omega arith)

table_fits : (r : Roster) (main : Option ℕ) (i : ℕ) (x : Table) → is_table One r main i x ≡ true → is_table Two r main i x ≡ true
table_fits r main i x e =
    let a = both_true (is_long_name x.name) _ e in let b = both_true (is_number 1 x.arity && starts main i x.arity) _ a.1 in let c =
    both_true (is_number 1 (length x.rows) && leb (length x.rows) 64) _ b.1 in
    let d = both_true (every (λ i. is_row One r) 0 x.rows) _ c.1 in
    and_true (is_long_name x.name) _ a.0 (and_true (is_number 1 x.arity && starts main i x.arity) _ b.0
    (and_true (is_number 1 (length x.rows) && leb (length x.rows) 128) _ (right (is_number 1 (length x.rows)) _ _ (rows_fit (length x.rows)) c.0)
    (and_true (every (λ i. is_row Two r) 0 x.rows) _ (each_fits (λ i. is_row One r) (λ i. is_row Two r) (λ i. row_fits r) 0 x.rows d.0)
    (left (every (λ i. is_position One r) 0 x.positions && (length x.positions == x.arity)) true _
    (left (every (λ i. is_position One r) 0 x.positions) (length x.positions == x.arity) _
    (each_fits (λ i. is_position One r) (λ i. is_position Two r) (λ i. position_fits r) 0 x.positions)) d.1))))

image_fits : (x : Image) → is_image One x ≡ true → is_image Two x ≡ true
image_fits x =
    let r : Roster = roster_of x in
    right (is_number 4 x.fields) _ _ (right (is_number 4 (length x.shapes)) _ _
    (right (is_number 4 (length x.tests)) _ _ (right (is_number 4 (length x.tables)) _ _ (right (is_number 4 (length x.codes)) _ _
    (right (is_own r x.own) _ _ (right (is_optional r.tables x.main) _ _
    (right (every (λ i. is_shape r) 0 x.shapes) _ _ (right (every (λ i. is_test r) 0 x.tests) _ _
    (left (every (is_table One r x.main) 0 x.tables) _ _ (each_fits (is_table One r x.main) (is_table Two r x.main) (table_fits r x.main) 0 x.tables))))))))))

pub all_fit : (v : Version) (x : Image) → is_image v x ≡ true → is_image Two x ≡ true
all_fit One x fit = image_fits x fit
all_fit Two x fit = fit
