-- Tables are read as they are spelled.
use Rattle.std.proofs.Common.{◌≡◌, ℕ, ◌+◌, ◌<◌, Bool, true, false, not, cond, eqb, ◌&&◌, List, [], ◌++◌, length, Option, Some, None, refl, sym, ap}
use Rattle.std.proofs.Common.{subst, ◌∙◌, inl, inr, arith}
use Rattle.std.specs.Prelude.{nat_lt, nat_le, ◌==◌}
use Rattle.std.proofs.lemmas.Bool.{lt-ltb, ltb-true, eqb-true, eqb-false, ne_eqb, eq-eqb, cases_Bool, cond-true, cond-false}
use Rattle.vx_format.specs.declared.image.Version.{Version}
use Rattle.vx_format.specs.declared.image.Split.{Split}
use Rattle.vx_format.specs.declared.image.Does.{Does}
use Rattle.vx_format.specs.declared.image.Does.TheVariants as leads
use Rattle.vx_format.specs.Numbers.{Bytes, number, is_number, every}
use Rattle.vx_format.specs.Reading.{Reading, ◌>>=◌, give, check}
use Rattle.vx_format.specs.declared.image.Roster.{Roster}
use Rattle.vx_format.specs.Layout.{symbol, is_symbol, long, list, is_list, is_name, is_long_name, mask_width, most_rows, pair, is_pair, split}
use Rattle.vx_format.specs.Layout.{is_split, does, does_tag, does_parts, is_does, is_prim, row, is_row, class_mask, is_class_mask, position}
use Rattle.vx_format.specs.Layout.{is_position, table, is_table, starts}
use Rattle.vx_format.specs.Format.{a_symbol, a_long, a_list, a_pair, a_split, a_code_row, deeds, a_deed, a_row, a_class_mask, a_position, a_name, a_table}
use Rattle.vx_format.proofs.Spelled.{IsSpelled, Any, recast, given_if, both_true, and_true}
use Rattle.vx_format.proofs.Parts.{valid_is, below_is, number_is, list_is, count_is, and_true_end, text_end}
use Rattle.vx_format.proofs.Readings.{long_is, lists_are}
use Rattle.vx_format.proofs.Tags.{AreTagged, tagged_are, branch}
use Rattle.vx_format.proofs.Steps.{part, counted, made, tested, from_here, worded}

pub pair_is : (r : Roster) (place : ℕ) → IsSpelled place pair (is_pair r) Any (a_pair r)
unfolding a_pair
pair_is r place =
    part (λ x. x.0) (below_is place 4 r.objects) (λ object fit.
    part (λ x. x.1) (below_is _ 4 r.codes) (λ code fit2.
    made (object, code) (refl, (refl, tt)) (λ c m. rw (← m.0, ← m.1.0) refl)))

-- ---- splits

abbrev position_of : Option Split → ℕ
position_of None = 255
position_of (Some x) = x.position

abbrev pairs_of : Option Split → List (ℕ × ℕ)
pairs_of None = []
pairs_of (Some x) = x.pairs

abbrev split_rest : Option Split → Bytes
split_rest None = []
split_rest (Some x) = list 1 pair x.pairs ++ []

abbrev is_rest : Roster → Option Split → Bool
is_rest r None = true
is_rest r (Some x) = not (eqb x.position 255) && (is_list 1 (is_pair r) x.pairs && true)

abbrev pairs_read : Roster → ℕ → Reading (Option Split)
pairs_read r position = a_list 1 (a_pair r) >>= λ pairs. give (Some (record { position = position; pairs = pairs }))

whole_split : (r : Roster) (q position : ℕ)
    → IsSpelled q split_rest (is_rest r) (λ c. (position_of c ≡ position) × Unit {0}) (cond (eqb position 255) (give None) (pairs_read r position))
whole_split r q position = elim (cases_Bool (eqb position 255)) [
  | inl none ↦
      let same : position ≡ 255 = eqb-true _ _ none in
      subst (λ (read : Reading (Option Split)). IsSpelled q split_rest (is_rest r) (λ c. (position_of c ≡ position) × Unit {0}) read)
      (sym (cond-true (eqb position 255) (give None) (pairs_read r position) none))
      (recast q (λ c. []) split_rest (is_rest r) (is_rest r) (λ c. (position_of c ≡ position) × Unit {0}) (λ c. (position_of c ≡ position) × Unit {0})
      (give None)
      (given_if q None (is_rest r) (λ c. (position_of c ≡ position) × Unit {0}) (sym same, tt) refl (only position same))
      (λ c m f. (m, f, ap split_rest (only position same c m f))) (λ c m f. (m, f, ap split_rest (only position same c m f))))
  | inr some ↦
      let ne = eqb-false _ _ some in
      subst (λ (read : Reading (Option Split)). IsSpelled q split_rest (is_rest r) (λ c. (position_of c ≡ position) × Unit {0}) read)
      (sym (cond-false (eqb position 255) (give None) (pairs_read r position) some))
      (recast q (λ c. list 1 pair (pairs_of c) ++ []) split_rest (λ c. is_list 1 (is_pair r) (pairs_of c) && true) (is_rest r) (λ c.
      (position_of c ≡ position) × Unit {0}) (λ c. (position_of c ≡ position) × Unit {0}) (pairs_read r position)
      (part pairs_of (lists_are pair (is_pair r) (a_pair r) (pair_is r) q 1) (λ pairs fit.
      made (Some (record { position = position; pairs = pairs })) (refl, (refl, tt)) (λ c m. built position ne c m.1.0 pairs m.0)))
      (λ c m f. (m, rest_fits position ne c m.0 f, rest_is position ne c m.0)) (λ c m f. (m, rest_fit position ne c m.0 f, rest_is position ne c m.0)))
]
  where
    only : (position : ℕ) → position ≡ 255 → (c : Option Split) → (position_of c ≡ position) × Unit {0} → is_rest r c ≡ true → c ≡ None
    only position same None m f = refl
    only position same (Some x) m f = absurd (let both = both_true (not (eqb x.position 255)) (is_list 1 (is_pair r) x.pairs && true) f in
        let is : eqb x.position 255 ≡ true = eq-eqb _ _ (m.0 ∙ same) in let no_ : not (eqb x.position 255) ≡ false = rw is refl in let h = both.0 in cc)

    built : (position : ℕ) → (position ≡ 255 → ⊥) → (c : Option Split) → position_of c ≡ position → (pairs : List (ℕ × ℕ)) → pairs_of c ≡ pairs
        → c ≡ Some (record { position = position; pairs = pairs })
    built position ne None m pairs e = absurd (ne (sym m))
    built position ne (Some x) m pairs e = rw (← m, ← e) refl

    rest_is : (position : ℕ) → (position ≡ 255 → ⊥) → (c : Option Split) → position_of c ≡ position → split_rest c ≡ list 1 pair (pairs_of c) ++ []
    rest_is position ne None m = absurd (ne (sym m))
    rest_is position ne (Some x) m = refl

    rest_fits : (position : ℕ) → (position ≡ 255 → ⊥) → (c : Option Split) → position_of c ≡ position → (is_list 1 (is_pair r) (pairs_of c) && true) ≡ true
        → is_rest r c ≡ true
    rest_fits position ne None m f = refl
    rest_fits position ne (Some x) m f = let is : eqb x.position 255 ≡ false = ne_eqb _ _ (λ h. ne (sym m ∙ h)) in and_true _ _ (rw is refl) f

    rest_fit : (position : ℕ) → (position ≡ 255 → ⊥) → (c : Option Split) → position_of c ≡ position → is_rest r c ≡ true
        → (is_list 1 (is_pair r) (pairs_of c) && true) ≡ true
    rest_fit position ne None m f = absurd (ne (sym m))
    rest_fit position ne (Some x) m f = (both_true (not (eqb x.position 255)) (is_list 1 (is_pair r) x.pairs && true) f).1

split_parts : (r : Roster) (c : Option Split) → (split c ≡ number 1 (position_of c) ++ split_rest c)
split_parts r None = sym (text_end (number 1 255))
split_parts r (Some x) = refl

split_fits : (r : Roster) (c : Option Split) → (is_number 1 (position_of c) && is_rest r c) ≡ true → is_split r c ≡ true
split_fits r None f = refl
split_fits r (Some x) f =
    let one = both_true (is_number 1 x.position) (is_rest r (Some x)) f in
    let two = both_true (not (eqb x.position 255)) (is_list 1 (is_pair r) x.pairs && true) one.1 in
    elim (cases_Bool (eqb x.position 255)) [
      | inl is ↦ absurd (let h : not true ≡ true = rw is at two.0 in cc)
      | inr no_ ↦ let ne = eqb-false _ _ no_ in let most = ltb-true _ _ one.0 in and_true _ _ (lt-ltb _ _ (omega arith)) two.1
    ]

split_fit : (r : Roster) (c : Option Split) → is_split r c ≡ true → (is_number 1 (position_of c) && is_rest r c) ≡ true
split_fit r None f = refl
split_fit r (Some x) f =
    let both = both_true (nat_lt x.position 255) (is_list 1 (is_pair r) x.pairs && true) f in
    let less = ltb-true _ _ both.0 in
    let ne : eqb x.position 255 ≡ false = ne_eqb _ _ (λ h. omega arith) in
    and_true _ _ (lt-ltb _ _ (omega arith)) (and_true _ _ (rw ne refl) both.1)

pub split_is : (r : Roster) (place : ℕ) → IsSpelled place split (is_split r) Any (a_split r)
unfolding a_split
split_is r place =
    recast place (λ c. number 1 (position_of c) ++ split_rest c) split (λ c. is_number 1 (position_of c) && is_rest r c) (is_split r) Any Any (a_split r)
    (part position_of (number_is place 1) (λ position fit. whole_split r (place + length (number 1 position)) position))
    (λ c m f. (tt, split_fits r c f, split_parts r c)) (λ c m f. (tt, split_fit r c f, split_parts r c))

-- ---- what rows do

code_of : Does → ℕ
code_of (leads.Code code clones) = code
code_of x = 0

clones_of : Does → Option Split
clones_of (leads.Code code clones) = clones
clones_of x = None

only_code : (x : Does) → does_tag x ≡ 0 → x ≡ leads.Code (code_of x) (clones_of x)
unfolding code_of clones_of
only_code (leads.Code code clones) e = refl
only_code x e = absurd cc

only_prim : (x : Does) → does_tag x ≡ 1 → (p : ℕ) × (x ≡ leads.Prim p)
only_prim (leads.Prim p) e = (p, refl)
only_prim x e = absurd cc

only_get : (x : Does) → does_tag x ≡ 2 → (f : ℕ) × (x ≡ leads.Get f)
only_get (leads.Get f) e = (f, refl)
only_get x e = absurd cc

only_set : (x : Does) → does_tag x ≡ 3 → (f : ℕ) × (x ≡ leads.Set f)
only_set (leads.Set f) e = (f, refl)
only_set x e = absurd cc

most : (x : Does) → (does_tag x < 4) × (does_tag x < 256)
most (leads.Code code clones) = (omega arith, omega arith)
most (leads.Prim p) = (omega arith, omega arith)
most (leads.Get f) = (omega arith, omega arith)
most (leads.Set f) = (omega arith, omega arith)

code_parts : (r : Roster) (c : Does) → does_tag c ≡ 0 → (does_parts c ≡ symbol (code_of c) ++ (split (clones_of c) ++ []))
    × (is_does r c ≡ (is_symbol r.codes (code_of c) && (is_split r (clones_of c) && true)))
unfolding code_of clones_of
code_parts r (leads.Code code clones) e = (refl, refl)
code_parts r x e = absurd cc

code_row_is : (r : Roster) (q : ℕ) → IsSpelled q does_parts (is_does r) (λ c. (does_tag c ≡ 0) × Unit {0}) (a_code_row r)
unfolding code_of clones_of
code_row_is r q =
    recast q (λ c. symbol (code_of c) ++ (split (clones_of c) ++ [])) does_parts (λ c. is_symbol r.codes (code_of c) && (is_split r (clones_of c) && true))
    (is_does r) (λ c. (does_tag c ≡ 0) × Unit {0}) (λ c. (does_tag c ≡ 0) × Unit {0}) (a_code_row r)
    (part code_of (below_is q 4 r.codes) (λ code fit.
    part clones_of (split_is r _) (λ clones fit2.
    made (leads.Code code clones) (refl, (refl, (refl, tt))) (λ c m. only_code c m.1.1.0 ∙ rw (m.0, m.1.0) refl))))
    (λ c m f. let p = code_parts r c m.0 in (m, p.1 ∙ f, p.0))
    (λ c m f. let p = code_parts r c m.0 in (m, sym p.1 ∙ f, p.0))

deeds_are : (r : Roster) (q : ℕ) → AreTagged q does_tag does_parts (is_does r) 0 (deeds r)
deeds_are r q = (
  code_row_is r q,
  (
    branch q does_tag does_parts (is_does r) 1 (number 1) is_prim _ leads.Prim (below_is q 1 18) (λ p. (refl, refl, refl)) only_prim,
    (
      branch q does_tag does_parts (is_does r) 2 symbol (is_symbol r.fields) (a_symbol r.fields) leads.Get (below_is q 4 r.fields) (λ f.
          (refl, refl, refl)) only_get,
      (
        branch q does_tag does_parts (is_does r) 3 symbol (is_symbol r.fields) (a_symbol r.fields) leads.Set (below_is q 4 r.fields) (λ f.
            (refl, refl, refl)) only_set,
        tt,
      ),
    ),
  ),
)

pub deed_is : (r : Roster) (place : ℕ) → IsSpelled place does (is_does r) Any (a_deed r)
unfolding a_deed
deed_is r place = tagged_are place does_tag does_parts (is_does r) (λ p. deeds r) (deeds_are r) most

pub row_is : (v : Version) (r : Roster) (place : ℕ) → IsSpelled place (row v) (is_row v r) Any (a_row v r)
unfolding a_row
row_is v r place =
    part (λ x. x.does) (deed_is r place) (λ does fit.
    part (λ x. x.beats) (number_is _ (mask_width v)) (λ beats fit2.
    made (record { does = does; beats = beats }) (refl, (refl, tt)) (λ c m. rw (← m.0, ← m.1.0) refl)))

pub class_mask_is : (v : Version) (bound place : ℕ) → IsSpelled place (class_mask v) (is_class_mask v bound) Any (a_class_mask v bound)
unfolding a_class_mask
class_mask_is v bound place =
    part (λ x. x.symbol) (below_is place 4 bound) (λ x fit.
    part (λ x. x.mask) (number_is _ (mask_width v)) (λ m fit2.
    made (record { symbol = x; mask = m }) (refl, (refl, tt)) (λ c m. rw (← m.0, ← m.1.0) refl)))

pub position_is : (v : Version) (r : Roster) (place : ℕ) → IsSpelled place (position v) (is_position v r) Any (a_position v r)
unfolding a_position
position_is v r place =
    part (λ x. x.default) (number_is place (mask_width v)) (λ default fit.
    part (λ x. x.classes) (lists_are (class_mask v) (is_class_mask v r.objects) (a_class_mask v r.objects) (class_mask_is v r.objects) _ 4) (λ classes fit2.
    part (λ x. x.tests) (lists_are (class_mask v) (is_class_mask v r.tests) (a_class_mask v r.tests) (class_mask_is v r.tests) _ 4) (λ tests fit3.
    made (record { default = default; classes = classes; tests = tests }) (refl, (refl, (refl, tt))) (λ c m. rw (← m.0, ← m.1.0, ← m.1.1.0) refl))))

pub name_is : (place : ℕ) → IsSpelled place (long 1) is_long_name Any a_name
unfolding a_name
name_is place =
    recast place (λ s. long 1 s ++ []) (long 1) (λ s. is_number 1 (length s) && (is_name s && true)) is_long_name Any Any a_name
    (from_here (λ place. a_long 1 >>= λ name. check (is_name name) place >>= λ ok. give name)
    (part (λ s. s) (long_is place 1) (λ name fit.
    tested is_name (is_name name) place (λ ok. give name) (λ c m. ap is_name m.0)
    (made name (refl, tt) (λ c m. m.0)))))
    (λ s m f. (tt, ap (λ b. is_number 1 (length s) && b) (sym (and_true_end (is_name s))) ∙ f, sym (text_end (long 1 s))))
    (λ s m f. (tt, ap (λ b. is_number 1 (length s) && b) (and_true_end (is_name s)) ∙ f, sym (text_end (long 1 s))))

pub table_is : (v : Version) (r : Roster) (main : Option ℕ) (place i : ℕ) → IsSpelled place (table v) (is_table v r main i) Any (a_table v r main i)
unfolding a_table
table_is v r main place i =
    part (λ t. t.name) (name_is place) (λ name fit.
    part (λ t. t.arity) (valid_is _ 1 (starts main i)) (λ arity fit2.
    part (λ t. length t.rows) (valid_is _ 1 (λ n. nat_le n (most_rows v))) (λ count fit3.
    counted (λ t. t.rows) (count_is (row v) (λ i. is_row v r) _ (λ p i. row_is v r p) _ count 0) (λ c m. m.0) (λ rows fit4 len.
    worded (λ t. (every (λ i. is_position v r) 0 t.positions && (length t.positions == arity)) && true) (λ t.
    (every (λ i. is_position v r) 0 t.positions && (length t.positions == t.arity)) && true)
    (λ t m. ap (λ n. (every (λ i. is_position v r) 0 t.positions && (length t.positions == n)) && true) m.1.1.0) (
    part (λ t. t.positions) (list_is (position v) (λ i. is_position v r) _ (λ p i. position_is v r p) _ arity 0) (λ positions fit5.
    made (record { name = name; arity = arity; rows = rows; positions = positions }) (refl, (refl, (len, (refl, (refl, tt))))) (λ c m.
    rw (← m.0, ← m.1.0, ← m.1.1.1.0, ← m.1.1.1.1.0) refl)))))))
