-- An image without a table that is too wide fits version 1.
use Rattle.std.proofs.Common.{◌≡◌, ℕ, suc, ◌+◌, Bool, true, false, cond, ◌&&◌, not, List, [], ◌∷◌, length, Option, Some, None, refl}
use Rattle.std.specs.Prelude.{◌==◌, nat_le}
use Rattle.std.specs.List.{list_all, position_from}
use Rattle.std.proofs.lemmas.Bool.{and_parts}
use Rattle.vx_format.specs.declared.image.Version.{Version}
use Rattle.vx_format.specs.declared.image.Version.TheVariants.{One}
use Rattle.vx_format.specs.declared.image.ClassMask.{ClassMask}
use Rattle.vx_format.specs.declared.image.Row.{Row}
use Rattle.vx_format.specs.declared.image.Position.{Position}
use Rattle.vx_format.specs.declared.image.Table.{Table}
use Rattle.vx_format.specs.declared.image.Roster.{Roster}
use Rattle.vx_format.specs.declared.image.Image.{Image}
use Rattle.vx_format.specs.Numbers.{is_number, every}
use Rattle.vx_format.specs.Layout.{roster_of, is_long_name, starts, most_rows, is_own, is_optional, is_shape, is_test, is_symbol, is_does, is_list}
use Rattle.vx_format.specs.Layout.{is_mask, is_row, is_class_mask, is_position, is_table, is_image}
use Rattle.vx_image.specs.Narrow.{is_narrow, is_narrow_mask, is_narrow_position, too_wide}

and_so : (a b : Bool) → a ≡ true → b ≡ true → (a && b) ≡ true
and_so true b e h = h
and_so false b e h = absurd cc

each_fits : {A : Type 0} (f g : ℕ → A → Bool) (narrow : A → Bool) → ((i : ℕ) (x : A) → f i x ≡ true → narrow x ≡ true → g i x ≡ true)
    → (first : ℕ) (xs : List A)
    → every f first xs ≡ true → list_all narrow xs ≡ true → every g first xs ≡ true
each_fits f g narrow h first [] e n = refl
each_fits f g narrow h first (x ∷ xs) e n =
    let p = and_parts (f first x) (every f (suc first) xs) e in
    let q = and_parts (narrow x) (list_all narrow xs) n in
    and_so (g first x) (every g (suc first) xs) (h first x p.0 q.0) (each_fits f g narrow h (suc first) xs p.1 q.1)

mask_fits : (m : ℕ) → is_narrow_mask m ≡ true → is_mask One m ≡ true
unfolding is_narrow_mask
mask_fits m n = n

row_fits : (v : Version) (r : Roster) (x : Row) → is_row v r x ≡ true → is_narrow_mask x.beats ≡ true → is_row One r x ≡ true
row_fits v r x e n =
    let p = and_parts (is_does r x.does) _ e in
    and_so (is_does r x.does) (is_mask One x.beats && true) p.0 (and_so (is_mask One x.beats) true (mask_fits x.beats n) refl)

class_fits : (v : Version) (bound : ℕ) (x : ClassMask) → is_class_mask v bound x ≡ true → is_narrow_mask x.mask ≡ true → is_class_mask One bound x ≡ true
class_fits v bound x e n =
    let p = and_parts (is_symbol bound x.symbol) _ e in
    and_so (is_symbol bound x.symbol) (is_mask One x.mask && true) p.0 (and_so (is_mask One x.mask) true (mask_fits x.mask n) refl)

classes_fit : (v : Version) (bound : ℕ) (xs : List ClassMask) → is_list 4 (is_class_mask v bound) xs ≡ true → list_all (λ m. is_narrow_mask m.mask) xs ≡ true
    → is_list 4 (is_class_mask One bound) xs ≡ true
classes_fit v bound xs e n =
    let p = and_parts (is_number 4 (length xs)) _ e in
    and_so (is_number 4 (length xs)) (every (λ i. is_class_mask One bound) 0 xs) p.0
    (each_fits (λ i. is_class_mask v bound) (λ i. is_class_mask One bound) (λ m. is_narrow_mask m.mask) (λ i. class_fits v bound) 0 xs p.1 n)

position_fits : (v : Version) (r : Roster) (x : Position) → is_position v r x ≡ true → is_narrow_position x ≡ true → is_position One r x ≡ true
position_fits v r x e n =
    let p = and_parts (is_mask v x.default) _ e in
    let q = and_parts (is_list 4 (is_class_mask v r.objects) x.classes) _ p.1 in
    let s = and_parts (is_list 4 (is_class_mask v r.tests) x.tests) _ q.1 in
    let a = and_parts (is_narrow_mask x.default) _ n in
    let b = and_parts (list_all (λ m. is_narrow_mask m.mask) x.classes) (list_all (λ m. is_narrow_mask m.mask) x.tests) a.1 in
    and_so (is_mask One x.default) _ (mask_fits x.default a.0)
    (and_so (is_list 4 (is_class_mask One r.objects) x.classes) _ (classes_fit v r.objects x.classes q.0 b.0)
    (and_so (is_list 4 (is_class_mask One r.tests) x.tests) true (classes_fit v r.tests x.tests s.0 b.1) refl))

table_fits : (v : Version) (r : Roster) (main : Option ℕ) (i : ℕ) (x : Table) → is_table v r main i x ≡ true → is_narrow x ≡ true
    → is_table One r main i x ≡ true
unfolding is_narrow
table_fits v r main i x e n =
    let a = and_parts (is_long_name x.name) _ e in
    let b = and_parts (is_number 1 x.arity && starts main i x.arity) _ a.1 in
    let c = and_parts (is_number 1 (length x.rows) && nat_le (length x.rows) (most_rows v)) _ b.1 in
    let d = and_parts (every (λ i. is_row v r) 0 x.rows) _ c.1 in
    let f = and_parts (every (λ i. is_position v r) 0 x.positions && (length x.positions == x.arity)) _ d.1 in
    let g = and_parts (every (λ i. is_position v r) 0 x.positions) _ f.0 in
    let few = and_parts (is_number 1 (length x.rows)) _ c.0 in
    let m = and_parts (nat_le (length x.rows) (most_rows One)) _ n in
    let k = and_parts (list_all (λ r. is_narrow_mask r.beats) x.rows) (list_all is_narrow_position x.positions) m.1 in
    and_so (is_long_name x.name) _ a.0 (and_so (is_number 1 x.arity && starts main i x.arity) _ b.0
    (and_so (is_number 1 (length x.rows) && nat_le (length x.rows) (most_rows One)) _ (and_so (is_number 1 (length x.rows)) _ few.0 m.0)
    (and_so (every (λ i. is_row One r) 0 x.rows) _
    (each_fits (λ i. is_row v r) (λ i. is_row One r) (λ r. is_narrow_mask r.beats) (λ i. row_fits v r) 0 x.rows d.0 k.0)
    (and_so (every (λ i. is_position One r) 0 x.positions && (length x.positions == x.arity)) true (and_so (every (λ i. is_position One r) 0 x.positions) _
    (each_fits (λ i. is_position v r) (λ i. is_position One r) is_narrow_position (λ i. position_fits v r) 0 x.positions g.0 k.1) g.1) refl))))

-- where no table is found, each is narrow
none_wide : (i : ℕ) (ts : List Table) → position_from (λ t. not (is_narrow t)) i ts ≡ None → list_all is_narrow ts ≡ true
none_wide i [] e = refl
none_wide i (t ∷ ts) e = narrow_first (is_narrow t) refl (none_wide (i + 1) ts) e
  where
    narrow_first : (b : Bool) → is_narrow t ≡ b → (position_from (λ t. not (is_narrow t)) (i + 1) ts ≡ None → list_all is_narrow ts ≡ true)
        → cond (not b) (Some i) (position_from (λ t. not (is_narrow t)) (i + 1) ts) ≡ None → list_all is_narrow (t ∷ ts) ≡ true
    narrow_first true is rest none = and_so (is_narrow t) (list_all is_narrow ts) is (rest none)
    narrow_first false is rest none = absurd cc

pub fits_one : (v : Version) (x : Image) → is_image v x ≡ true → too_wide x ≡ None → is_image One x ≡ true
fits_one v x e none =
    let r : Roster = roster_of x in
    let a = and_parts (is_number 4 x.fields) _ e in
    let b = and_parts (is_number 4 (length x.shapes)) _ a.1 in
    let c = and_parts (is_number 4 (length x.tests)) _ b.1 in
    let d = and_parts (is_number 4 (length x.tables)) _ c.1 in
    let f = and_parts (is_number 4 (length x.codes)) _ d.1 in
    let g = and_parts (is_own r x.own) _ f.1 in
    let h = and_parts (is_optional (length x.tables) x.main) _ g.1 in
    let j = and_parts (every (λ i. is_shape r) 0 x.shapes) _ h.1 in
    let k = and_parts (every (λ i. is_test r) 0 x.tests) _ j.1 in
    let l = and_parts (every (is_table v r x.main) 0 x.tables) _ k.1 in
    let tables = each_fits (is_table v r x.main) (is_table One r x.main) is_narrow (table_fits v r x.main) 0 x.tables l.0 (none_wide 0 x.tables none) in
    and_so (is_number 4 x.fields) _ a.0 (and_so (is_number 4 (length x.shapes)) _ b.0 (and_so (is_number 4 (length x.tests)) _ c.0
    (and_so (is_number 4 (length x.tables)) _ d.0 (and_so (is_number 4 (length x.codes)) _ f.0 (and_so (is_own r x.own) _ g.0
    (and_so (is_optional (length x.tables) x.main) _ h.0 (and_so (every (λ i. is_shape r) 0 x.shapes) _ j.0 (and_so (every (λ i. is_test r) 0 x.tests) _ k.0
    (and_so (every (is_table One r x.main) 0 x.tables) _ tables l.1)))))))))
